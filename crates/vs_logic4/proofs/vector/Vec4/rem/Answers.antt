use Rattle.std.proofs.Common.{◌∙◌}
use Rattle.vs_logic4.proofs.Division.{remainder_is, no_remainder}
use Rattle.vs_logic4.proofs.vector.Vec4.rem.Goals as goal

pub returns-then-self-other : goal.returns-then-self-other
returns-then-self-other c =
    c.from_number.ensures
    ∙ rw (c.with_sign.ensures, c.magnitude-dividend.ensures, c.magnitude-divisor.ensures, c.is_negative-negative.ensures)
    (remainder_is c.self.invariant c.other.invariant c.self.view_is c.other.view_is c.requires c.args.signed c.if-self-other.true)

pub returns-else-self-other : goal.returns-else-self-other
returns-else-self-other c =
    c.unknown.ensures
    ∙ no_remainder c.self.invariant c.other.invariant c.self.view_is c.other.view_is c.requires c.args.signed c.if-self-other.false
