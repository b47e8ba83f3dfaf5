use Rattle.std.proofs.Common.{w64, rules}
use mir.Val.{SFits}
use Rattle.std.proofs.lemmas.Int.{to_z-of_z}
use Rattle.vs_logic4.proofs.Order.{known_signed_number_some, known_signed_number_none}
use Rattle.vs_logic4.proofs.vector.Vec4.to_signed.Goals as goal

pub returns-then-self-eq0 : goal.returns-then-self-eq0
returns-then-self-eq0 c =
    let fits : SFits w64 c.cast_signed.result = search rules in
    rw (to_z-of_z w64 c.cast_signed.result fits, c.cast_signed.ensures, c.with_sign.ensures, c.is_negative-negative.ensures, c.magnitude-magnitude.ensures)
    (known_signed_number_some c.self.invariant c.self.view_is c.if-self-eq0.true)

pub returns-else-self-eq0 : goal.returns-else-self-eq0
returns-else-self-eq0 c = known_signed_number_none c.self.invariant c.self.view_is c.if-self-eq0.false
