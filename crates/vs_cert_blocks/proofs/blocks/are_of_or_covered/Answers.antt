use Rattle.std.proofs.Common.{◌⊎◌, inl, inr, sym, ◌∙◌}
use Rattle.std.proofs.lemmas.Bool.{false≢true}
use Rattle.std.specs.List.{Contains}
use Rattle.vs_drivers.specs.Ranges.{Cover}
use Rattle.vs_cert_blocks.proofs.BlockLemmas.{cover_part}
use Rattle.vs_cert_blocks.proofs.CornerLemmas.{more_ranges, not_all}
use Rattle.vs_cert_blocks.proofs.blocks.are_of_or_covered.Goals as goal
use Rattle.vs_cert_blocks.proofs.blocks.are_of_or_covered.Goals.{else-not-has-via-then-not-has+else-not-covers, else-not-has-via-else-not-has}

pub returns-then-not-covers : goal.returns-then-not-covers
returns-then-not-covers c =
    not_all c.args.read.now (λ r. Contains c.args.signals.now r.signal ⊎ Cover c.args.design.now c.args.named.now r) c.loop-range.range-index _
    c.loop-range-test.true (λ h. elim h [
      | inl l ↦ false≢true (sym c.if-not-has.true ∙ c.has.ensures.1 l)
      | inr r ↦ false≢true (sym c.if-not-covers.true ∙ c.covers.ensures.1 ((cover_part c.args.design.now c.args.named.now c.of_signal.result.now _ c.of_signal.ensures).1 r))
    ])

pub loop-range-preserved : goal.loop-range-preserved
loop-range-preserved c =
    more_ranges c.args.read.now (λ r. Contains c.args.signals.now r.signal ⊎ Cover c.args.design.now c.args.named.now r) c.loop-range.range-index _
    c.loop-range-test.true c.loop-range.invariant (elim c.else-not-has.branch [
      | else-not-has-via-then-not-has+else-not-covers w ↦ inr ((cover_part c.args.design.now c.args.named.now w.of_signal.result.now _ w.of_signal.ensures).0 (w.covers.ensures.0 w.if-not-covers.false))
      | else-not-has-via-else-not-has w ↦ inl (c.has.ensures.0 w.if-not-has.false)
    ])
