use Rattle.std.proofs.Common.{◌≡◌, ℕ, false, slice_get, arith, below_more}
use Rattle.vs_run_regions.specs.vs_process.specs.Executions.{if_some}
use Rattle.vs_run_active.specs.Touches.{is_left}
use Rattle.vs_kernel.proofs.ActiveLemmas.{none_any}
use Rattle.vs_kernel.proofs.state.sought_assign.Goals as goal

pub loop-assign-init : goal.loop-assign-init
loop-assign-init g c = λ j below. absurd (omega (arith, below))

pub loop-assign-preserved : goal.loop-assign-preserved
loop-assign-preserved g c =
    below_more (λ (j : ℕ). if_some is_left (slice_get c.args.run.now.watched.events.assigns j) ≡ false) c.loop-assign.assign c.loop-assign.invariant c.in_default.ensures

pub returns : goal.returns
returns g c =
    none_any is_left c.args.run.now.watched.events.assigns (λ j below. c.loop-assign.invariant j (omega (arith, below, c.len-assign-end.ensures, c.loop-assign-test.false)))
