-- A run that went to its end is complete.
use Rattle.std.proofs.Common.{◌≡◌, ℕ, true}
use Rattle.std.proofs.lemmas.Bool.{or_left}
use Rattle.std.specs.Prelude.{nat_lt}
use Rattle.vs_run_regions.specs.vs_process.specs.Executions.{is_complete}
use Rattle.vs_run_regions.specs.vs_process.specs.States.{State}
use Rattle.vs_vcd_reader.specs.vs_kernel.specs.Runs.{EndsAs}
use Rattle.vs_vcd_reader.specs.vs_kernel.specs.declared.outcome.Outcome.{Outcome}
use Rattle.vs_vcd_reader.specs.vs_kernel.specs.declared.outcome.Outcome.TheVariants.{Reached, Quiet, Finished, StepLimit}
use Rattle.vs_vcd_reader.specs.BackReadBack.{is_whole}

pub whole_complete : (outcome : Outcome) (until steps taken : ℕ) (s : State) → EndsAs outcome until steps taken s → is_whole outcome ≡ true →
    is_complete until s ≡ true
whole_complete Reached until steps taken s h w = h.1
whole_complete Quiet until steps taken s h w = or_left s.over (nat_lt until s.time) h.0
whole_complete (Finished time) until steps taken s h w = or_left s.over (nat_lt until s.time) h.0
whole_complete (StepLimit time) until steps taken s h w = absurd cc
