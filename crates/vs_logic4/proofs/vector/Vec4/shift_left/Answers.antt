use Rattle.std.proofs.Common.{◌∙◌}
use Rattle.vs_logic4.proofs.Shifts.{left_shift_is, no_left_shift}
use Rattle.vs_logic4.proofs.vector.Vec4.shift_left.Goals as goal

pub returns-then-amount-eq0 : goal.returns-then-amount-eq0
returns-then-amount-eq0 c =
    left_shift_is c.self.invariant c.amount.invariant c.self.view_is c.amount.view_is c.if-amount-eq0.true c.left_within.ensures c.left_within-then-amount-eq0.ensures

pub returns-else-amount-eq0 : goal.returns-else-amount-eq0
returns-else-amount-eq0 c =
    c.unknown.ensures
    ∙ no_left_shift c.self.invariant c.amount.invariant c.self.view_is c.amount.view_is c.if-amount-eq0.false
