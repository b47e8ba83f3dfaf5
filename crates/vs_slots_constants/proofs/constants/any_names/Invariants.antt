use Rattle.std.proofs.Common.{◌≡◌, drop}
use Rattle.vs_rules.specs.Constants.{any_aims}
use Rattle.vs_slots_constants.proofs.constants.any_names.Given as goal

abbrev pub invariant-loop-aim : goal.invariant-loop-aim
invariant-loop-aim l = any_aims l.signal (drop l.aim-index l.aims) ≡ any_aims l.signal l.aims
