use Rattle.std.proofs.Common.{w64}
use Rattle.std.proofs.lemmas.Int.{to_z-of_z}
use Rattle.vs_logic4.proofs.Parts.{selected_is}
use Rattle.vs_logic4.proofs.vector.Vec4.select.Goals as goal

pub invariant_of-result : goal.invariant_of-result
invariant_of-result c =
    rw (c.lowered.ensures, c.lowered-2.ensures, c.low_ones-inside.ensures, c.low_ones-ones.ensures, to_z-of_z w64 c.args.low c.ranges.low)
    (selected_is c.self.invariant c.self.view_is c.args.low c.args.width c.requires.some c.requires.most).0

pub returns : goal.returns
returns c =
    rw (c.lowered.ensures, c.lowered-2.ensures, c.low_ones-inside.ensures, c.low_ones-ones.ensures, to_z-of_z w64 c.args.low c.ranges.low)
    (selected_is c.self.invariant c.self.view_is c.args.low c.args.width c.requires.some c.requires.most).1
