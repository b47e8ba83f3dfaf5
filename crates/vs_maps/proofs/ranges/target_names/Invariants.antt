use Rattle.std.proofs.Common.{◌≡◌, drop}
use Rattle.std.specs.List.{list_any}
use Rattle.vs_design.specs.Uses.{aim_range, is_of, writes_signal}
use Rattle.vs_maps.proofs.ranges.target_names.Given as goal

abbrev pub invariant-loop-aim : goal.invariant-loop-aim
invariant-loop-aim l = list_any (λ a. is_of l.signal (aim_range a)) (drop l.aim-index l.aim-items) ≡ writes_signal l.target l.signal
