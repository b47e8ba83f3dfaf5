use Rattle.std.proofs.Common.{ap, sym, ◌∙◌, w64}
use mir.Val.{of_z}
use Rattle.std.proofs.lemmas.Int.{to_z-of_z}
use Rattle.vs_logic4.specs.Vectors.{of_number}
use Rattle.vs_logic4.proofs.Order.{of_integer-signed}
use Rattle.vs_logic4.proofs.vector.Vec4.from_signed.Goals as goal

pub returns : goal.returns
returns c =
    c.from_number.ensures
    ∙ ap (of_number c.args.width) (c.cast_unsigned.ensures ∙ ap (of_z w64) (to_z-of_z w64 c.args.number c.ranges.number))
    ∙ sym (of_integer-signed c.args.width c.args.number c.requires.most c.ranges.number)
