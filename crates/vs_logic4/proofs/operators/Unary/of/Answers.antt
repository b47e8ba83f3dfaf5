use Rattle.std.proofs.Common.{false, sym, ap, ◌∙◌}
use Rattle.vs_logic4.specs.Operators.{unary}
use Rattle.vs_logic4.proofs.operators.Unary.of.Goals as goal

pub returns-in-Minus : goal.returns-in-Minus
returns-in-Minus c = c.neg.ensures false ∙ sym (ap (λ u. unary u c.args.operand) c.in-Minus.is)
