use Rattle.std.proofs.Common.{◌<◌}
use Rattle.std.proofs.lemmas.Nat.Bits.{shr_and_one}
use Rattle.vs_logic4.specs.PlaneLaws.{length-digits_of_planes, slice_get-digits_of_planes}
use Rattle.vs_logic4.proofs.vector.Vec4.digit.Goals as goal

pub returns : goal.returns
returns c =
    let within : c.args.index < c.self.inside.width = rw (← c.self.view_is, length-digits_of_planes) at c.requires in
    rw (← c.self.view_is, c.of_bits.ensures, shr_and_one c.self.inside.value c.args.index, shr_and_one c.self.inside.unknown c.args.index)
    (slice_get-digits_of_planes c.self.inside.width c.self.inside.value c.self.inside.unknown c.args.index within)
