use Rattle.std.proofs.Common.{◌≡◌, false, not, take}
use Rattle.std.specs.List.{list_any}
use Rattle.vs_elaborate.specs.Timescales.{scales_in, same_timescale}
use Rattle.vs_elaborate.proofs.timescales.has_other_in.Given as goal

abbrev pub invariant-loop-directive : goal.invariant-loop-directive
invariant-loop-directive l = list_any (λ t. not (same_timescale l.scale t)) (scales_in (take l.directive-index l.directives)) ≡ false
