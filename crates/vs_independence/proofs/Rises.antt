-- A slot ends before the next one.
use Rattle.std.proofs.Common.{subst}
use Rattle.vs_design.specs.Parts.{Parts}
use Rattle.vs_independence.specs.RuleLaws.{TimeRises}
use Rattle.vs_independence.specs.vs_process.specs.declared.moves.Grain.{Grain}
use Rattle.vs_independence.specs.vs_process.specs.declared.moves.Move.TheVariants.{EndSlot}
use Rattle.vs_independence.specs.vs_process.specs.Executions.{after}
use Rattle.vs_independence.specs.vs_process.proofs.Times.{Above, enabled_of, next_above, timed}

pub time_rises : (grain : Grain) (d : Parts) → TimeRises grain d
time_rises grain d moves t legal is =
    subst (Above (after d moves).time) is (next_above (after d moves) (enabled_of grain d (after d moves) EndSlot legal.1).1 (timed grain d moves legal.0))
