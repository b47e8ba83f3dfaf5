use Rattle.std.proofs.Common.{◌≡◌, ◌≤◌, ◌++◌, drop}
use Rattle.vs_eval.specs.Targets.{parts_from}
use Rattle.vs_eval.proofs.targets.write_of.Given as goal

abbrev pub invariant-loop-aim : goal.invariant-loop-aim
invariant-loop-aim l = record {
  within : l.place ≤ 64;
  parts : l.write ++ parts_from l.place (drop l.aim-index l.aim-items) l.digits l.store l.time ≡ parts_from 0 l.aim-items l.digits l.store l.time;
}
