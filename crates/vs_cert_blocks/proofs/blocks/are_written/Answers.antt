use Rattle.std.proofs.Common.{sym, ◌∙◌}
use Rattle.std.proofs.lemmas.Bool.{false≢true}
use Rattle.vs_design.specs.vs_logic4.proofs.Basics.{all_do, one_not}
use Rattle.vs_cert_blocks.specs.Blocks.{IsSignalFirst}
use Rattle.vs_cert_blocks.proofs.blocks.are_written.Goals as goal

pub returns-then-not-branch : goal.returns-then-not-branch
returns-then-not-branch c =
    one_not (λ v. IsSignalFirst c.args.design.now c.args.walks.now.tables.now v) c.args.signals.now c.loop-signal.signal-index c.loop-signal-test.true
    (λ h. absurd (false≢true (sym c.if-not-branch.true ∙ c.in_ok-signal_is_written.ensures.exact.1 h)))

pub returns : goal.returns
returns c =
    all_do (λ v. IsSignalFirst c.args.design.now c.args.walks.now.tables.now v) c.args.signals.now c.loop-signal.signal-index c.loop-signal-test.false
    c.loop-signal.invariant.first
