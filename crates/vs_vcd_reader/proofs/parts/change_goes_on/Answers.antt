use Rattle.std.proofs.Common.{◌<◌, get_or, length, refl, sym, ◌∙◌, arith}
use Rattle.std.proofs.lemmas.Bool.{false≢true}
use Rattle.std.proofs.lemmas.Option.{slice_get_read}
use Rattle.vs_vcd_lines.proofs.ChangeLemmas.{sizes_at}
use Rattle.vs_vcd_reader.proofs.BeginningLemmas.{change_found, change_lacking, none_more, none_yet}
use Rattle.vs_vcd_reader.proofs.parts.change_goes_on.Goals as goal

pub loop-number-init : goal.loop-number-init
loop-number-init c = record { least = omega arith; none = none_yet c.args.widths.now c.args.values.now c.args.part.now c.args.from }

pub begins_change-found-requires-clause-some : goal.begins_change-found-requires-clause-some
begins_change-found-requires-clause-some c = (sizes_at c.args.widths.now c.loop-number.number c.requires.sizes (omega (arith, c.loop-number-test.true))).0

pub begins_change-found-requires-clause-most : goal.begins_change-found-requires-clause-most
begins_change-found-requires-clause-most c = (sizes_at c.args.widths.now c.loop-number.number c.requires.sizes (omega (arith, c.loop-number-test.true))).1

pub returns-then-found : goal.returns-then-found
returns-then-found c = λ last bare away.
    let ws = c.args.widths.now in
    let vs = c.args.values.now in
    let n = c.loop-number.number in
    let same = c.requires.values in
    let within : n < length ws = omega (arith, c.loop-number-test.true) in
    let inside : n < length vs = omega (arith, within, same) in
    change_found ws vs last c.args.from n (get_or ws n 0) bare c.index-values-number.result c.args.part.now c.loop-number.invariant.least within
    (slice_get_read vs (length vs) n c.index-values-number.result refl inside c.index-values-number.is) refl (c.begins_change-found.ensures.0 c.if-found.true)

pub loop-number-preserved : goal.loop-number-preserved
loop-number-preserved c =
    let ws = c.args.widths.now in
    let vs = c.args.values.now in
    let n = c.loop-number.number in
    let same = c.requires.values in
    let within : n < length ws = omega (arith, c.loop-number-test.true) in
    let inside : n < length vs = omega (arith, within, same) in
    let least = c.loop-number.invariant.least in
    record {
      least = omega (arith, least);
      none = none_more ws vs c.args.part.now c.args.from n (get_or ws n 0) c.index-values-number.result c.loop-number.invariant.none
          (slice_get_read vs (length vs) n c.index-values-number.result refl inside c.index-values-number.is) refl
          (λ h. false≢true (sym c.if-found.false ∙ c.begins_change-found.ensures.1 h));
    }

pub returns : goal.returns
returns c = λ last bare away.
    change_lacking c.args.widths.now c.args.values.now last c.args.from c.loop-number.number bare c.args.part.now (omega (arith, c.loop-number-test.false))
    c.loop-number.invariant.none away
