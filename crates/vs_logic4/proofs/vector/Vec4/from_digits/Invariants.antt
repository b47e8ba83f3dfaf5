use Rattle.std.proofs.Common.{◌≡◌, drop}
use Rattle.vs_logic4.specs.Planes.{value_plane, unknown_plane}
use Rattle.vs_logic4.proofs.vector.Vec4.from_digits.Given as goal

abbrev pub invariant-loop-i : goal.invariant-loop-i
invariant-loop-i l = (l.value ≡ value_plane (drop l.i l.digits)) × (l.unknown ≡ unknown_plane (drop l.i l.digits))
