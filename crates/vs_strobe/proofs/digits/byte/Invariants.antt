use Rattle.std.proofs.Common.{◌≡◌, drop}
use Rattle.vs_design.specs.vs_logic4.specs.Arithmetic.{number}
use Rattle.vs_strobe.proofs.digits.byte.Given as goal

abbrev pub invariant-loop-i : goal.invariant-loop-i
invariant-loop-i l = l.byte ≡ number (drop l.i l.value)
