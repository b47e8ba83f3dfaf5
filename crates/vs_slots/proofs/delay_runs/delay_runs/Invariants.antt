use Rattle.std.proofs.Common.{◌≡◌, ℕ, Some, length, slice_get}
use Rattle.vs_slots.specs.declared.runs.Runs.{Runs}
use Rattle.vs_slots.specs.Kept.{RunsWhere}
use Rattle.vs_slots.specs.Runs.{DelayPauseEnds}
use Rattle.vs_slots.proofs.delay_runs.delay_runs.Given as goal

abbrev pub invariant-loop-i : goal.invariant-loop-i
invariant-loop-i l =
    (length l.runs.items ≡ l.i) × ((k : ℕ) (x : Runs) → slice_get l.runs.items k ≡ Some x → RunsWhere DelayPauseEnds l.facts k x)
