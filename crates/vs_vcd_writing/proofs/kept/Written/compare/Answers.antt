use Rattle.std.proofs.Common.{slice_get, ap, ◌∙◌, arith, rules}
use Rattle.std.proofs.lemmas.List.{with_items_is, places}
use Rattle.std.specs.Vec.{with_items}
use Rattle.vs_vcd_writing.proofs.WordLemmas.{length_of_words, word_kept}
use Rattle.vs_vcd_writing.proofs.kept.Written.compare.Goals as goal

pub compare-requires-clause-within : goal.compare-requires-clause-within
compare-requires-clause-within c = omega (arith, c.requires.within, length_of_words c.self.inside.codes.items c.self.inside.words c.args.self.now c.self.invariant c.self.view_is)

pub compare-requires-clause-new_len : goal.compare-requires-clause-new_len
compare-requires-clause-new_len c =
    omega (arith, c.gather.ensures.long, c.requires.room.words, length_of_words c.self.inside.codes.items c.self.inside.words c.args.self.now c.self.invariant c.self.view_is)

pub compare-requires-clause-widths_len : goal.compare-requires-clause-widths_len
compare-requires-clause-widths_len c =
    omega (arith, c.requires.room.widths, length_of_words c.self.inside.codes.items c.self.inside.words c.args.self.now c.self.invariant c.self.view_is)

pub compare-requires-clause-values_len : goal.compare-requires-clause-values_len
compare-requires-clause-values_len c =
    omega (arith, c.requires.room.values, length_of_words c.self.inside.codes.items c.self.inside.words c.args.self.now c.self.invariant c.self.view_is)

pub compare-requires-clause-unknowns_len : goal.compare-requires-clause-unknowns_len
compare-requires-clause-unknowns_len c =
    omega (arith, c.requires.room.unknowns, length_of_words c.self.inside.codes.items c.self.inside.words c.args.self.now c.self.invariant c.self.view_is)

pub returns-clause-compared : goal.returns-clause-compared
returns-clause-compared c i k ge lt get =
    let shown = c.gather.ensures.words i ge lt in
    let kept = word_kept c.self.inside.codes.items c.self.inside.words i k (ap (λ l. slice_get l i) c.self.view_is ∙ get) in
    let widths = with_items_is c.args.room.now.widths c.compare.new.widths (search (rules, places)) in
    let values = with_items_is c.args.room.now.values c.compare.new.values (search (rules, places)) in
    let unknowns = with_items_is c.args.room.now.unknowns c.compare.new.unknowns (search (rules, places)) in record {
      word = shown;
      same = rw (widths, values, unknowns) (c.compare.ensures i k.value _ ge lt kept shown);
    }

pub returns-clause-room : goal.returns-clause-room
returns-clause-room c =
    let room = c.args.room.now in record {
      words = c.gather.ensures.long ∙ c.requires.room.words;
      widths = omega (arith, (with_items room.widths c.compare.new.widths).ok.0, room.widths.ok.0, c.requires.room.widths);
      values = omega (arith, (with_items room.values c.compare.new.values).ok.0, room.values.ok.0, c.requires.room.values);
      unknowns = omega (arith, (with_items room.unknowns c.compare.new.unknowns).ok.0, room.unknowns.ok.0, c.requires.room.unknowns);
    }

pub gather-requires-clause-within : goal.gather-requires-clause-within
gather-requires-clause-within c = omega (arith, c.requires.within, c.requires.room.words)
