use Rattle.vs_logic4.proofs.Order.{known_number_some, known_number_none}
use Rattle.vs_logic4.proofs.vector.Vec4.to_number.Goals as goal

pub returns-then-self-eq0 : goal.returns-then-self-eq0
returns-then-self-eq0 c = known_number_some c.self.invariant c.self.view_is c.if-self-eq0.true

pub returns-else-self-eq0 : goal.returns-else-self-eq0
returns-else-self-eq0 c = known_number_none c.self.invariant c.self.view_is c.if-self-eq0.false
