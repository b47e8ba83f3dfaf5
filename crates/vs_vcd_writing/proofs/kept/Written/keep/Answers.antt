use Rattle.std.proofs.Common.{◌+◌, drop, length, length-set, refl, sym, ap, ◌∙◌, arith}
use Rattle.std.proofs.Math.ListN.{drop_of_length-le}
use Rattle.vs_vcd_writing.specs.declared.kept.DumpChange.{DumpChange}
use Rattle.vs_vcd_writing.specs.Kept.{kept_after}
use Rattle.vs_vcd_writing.specs.Words.{kept_of}
use Rattle.vs_vcd_writing.proofs.KeptLemmas.{keep_more}
use Rattle.vs_vcd_writing.proofs.WordLemmas.{length_of_words, kept_of-set}
use Rattle.vs_vcd_writing.proofs.kept.Written.keep.Goals as goal

pub loop-change-init : goal.loop-change-init
loop-change-init c = record {
  codes = c.self.invariant;
  long = refl;
  kept = refl;
}

pub invariant_of-self : goal.invariant_of-self
invariant_of-self c = c.loop-change.invariant.codes

pub set-requires : goal.set-requires
set-requires c =
    let change = c.change-item.result in
    omega (
      arith,
      ap (λ (x : DumpChange). x.signal) c.change-item.is,
      c.requires c.loop-change.change-index change c.loop-change-test.true,
      c.loop-change.invariant.long,
      length_of_words c.self.inside.codes.items c.self.inside.words c.args.self.now c.self.invariant c.self.view_is,
    )

pub loop-change-preserved : goal.loop-change-preserved
loop-change-preserved c =
    let s = c.loop-change.self-inside in
    let change = c.change-item.result in
    let rest = drop (c.loop-change.change-index + 1) c.args.changes.now in
    let long = ap length c.set.ensures ∙ length-set s.words change.signal change.value in record {
      codes = long ∙ c.loop-change.invariant.codes;
      long = long ∙ c.loop-change.invariant.long;
      kept = ap (λ l. kept_after (kept_of s.codes.items l) rest) c.set.ensures
          ∙ ap (λ l. kept_after l rest) (kept_of-set s.codes.items s.words change.signal change.value)
          ∙ keep_more (kept_of c.self.inside.codes.items c.self.inside.words) (kept_of s.codes.items s.words) c.args.changes.now c.loop-change.change-index change change
          c.loop-change-test.true c.change-item.is c.loop-change.invariant.kept;
    }

pub returns : goal.returns
returns c =
    let s = c.loop-change.self-inside in
    sym (ap (kept_after (kept_of s.codes.items s.words)) (drop_of_length-le c.args.changes.now c.loop-change-test.false))
    ∙ c.loop-change.invariant.kept ∙ ap (λ l. kept_after l c.args.changes.now) c.self.view_is
