use Rattle.std.proofs.Common.{◌≡◌, drop}
use Rattle.std.specs.List.{list_any}
use Rattle.vs_design.specs.vs_logic4.specs.declared.digit.Digit.TheVariants.{X}
use Rattle.vs_design.specs.vs_logic4.specs.Vectors.{same_digit}
use Rattle.vs_strobe.proofs.digits.has_x.Given as goal

abbrev pub invariant-loop-i : goal.invariant-loop-i
invariant-loop-i l = list_any (same_digit X) (drop l.i l.value) ≡ list_any (same_digit X) l.value
