use Rattle.std.proofs.Common.{◌∷◌, ap, sym}
use Rattle.vs_parse_expressions.specs.Answers.{seen}
use Rattle.vs_parse_expressions.proofs.OperatorLemmas.{unary_begins, no_operand}
use Rattle.vs_parse_expressions.proofs.head.marked_operand.Goals as goal

pub returns-in-Some : goal.returns-in-Some
returns-in-Some c = ap (λ u. u ∷ seen c.args.rest.now) (unary_begins c.args.mark c.in-Some.operator c.in-Some.ensures)

pub returns-in-None : goal.returns-in-None
returns-in-None c = no_operand c.args.mark c.in_default.not-Open c.in_default.not-OpenBrace (sym c.in-None.ensures)
