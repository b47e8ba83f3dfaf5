use Rattle.std.proofs.Common.{◌-◌, ◌≤◌, take, length}
use Rattle.vs_run_active.specs.Groups.{Adds}
use Rattle.vs_run_active.proofs.groups.Groups.add.Given as goal

abbrev pub invariant-loop-from : goal.invariant-loop-from
invariant-loop-from l = record {
  within : l.from ≤ length l.plain;
  adds : Adds l.fn.self l.self l.fn.watchers.items l.watchers.items (take l.from l.plain);
}

abbrev pub decreases-loop-from : goal.decreases-loop-from
decreases-loop-from l = length l.plain - l.from
