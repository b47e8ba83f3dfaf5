use Rattle.std.proofs.Common.{sym}
use Rattle.vs_syntax.specs.Grammar.{levels, level_at}
use Rattle.vs_parse_expressions.proofs.OperatorLemmas.{no_operator_at, no_operator, other_level, link_begins}
use Rattle.vs_parse_expressions.proofs.operator.binary_at.Goals as goal

pub returns-in_err-mark : goal.returns-in_err-mark
returns-in_err-mark c = rw (c.from_residual.ensures) (no_operator_at (level_at levels c.args.level) _ c.in_err-mark.ensures)

pub returns-in_err-found : goal.returns-in_err-found
returns-in_err-found c = rw (c.from_residual-in_err-found.ensures) (no_operator c.args.level _ _ c.in_ok-mark.mark c.in_ok-mark.ensures (sym c.in_err-found.ensures))

pub returns-then-found-level : goal.returns-then-found-level
returns-then-found-level c = link_begins c.args.level _ _ c.in_ok-mark.mark (c.in_ok-found.found, c.in_ok-found.operator) c.in_ok-mark.ensures c.in_ok-found.ensures c.if-found-level.true

pub returns-else-found-level : goal.returns-else-found-level
returns-else-found-level c = other_level c.args.level _ _ c.in_ok-mark.mark (c.in_ok-found.found, c.in_ok-found.operator) c.in_ok-mark.ensures c.in_ok-found.ensures c.if-found-level.false
