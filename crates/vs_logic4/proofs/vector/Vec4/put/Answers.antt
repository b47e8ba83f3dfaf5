use Rattle.std.proofs.Common.{w64}
use Rattle.std.proofs.lemmas.Int.{to_z-of_z}
use Rattle.vs_logic4.proofs.Parts.{with_part_is}
use Rattle.vs_logic4.proofs.vector.Vec4.put.Goals as goal

pub invariant_of-result : goal.invariant_of-result
invariant_of-result c =
    rw (c.raised-value.ensures, c.raised-unknown.ensures, c.raised.ensures, c.low_ones.ensures, c.low_ones-2.ensures, to_z-of_z w64 c.args.low c.ranges.low)
    (with_part_is c.self.invariant c.part.invariant c.self.view_is c.part.view_is c.args.low).0

pub returns : goal.returns
returns c =
    rw (c.raised-value.ensures, c.raised-unknown.ensures, c.raised.ensures, c.low_ones.ensures, c.low_ones-2.ensures, to_z-of_z w64 c.args.low c.ranges.low)
    (with_part_is c.self.invariant c.part.invariant c.self.view_is c.part.view_is c.args.low).1
