use Rattle.std.proofs.Common.{refl, false}
use Rattle.vs_syntax.specs.Grammar as g
use Rattle.vs_syntax.specs.Symbols.{any_number}
use Rattle.vs_syntax.specs.Reading.{stuck_here}
use Rattle.vs_parse_expressions.proofs.Expressions.{number_stuck, number_read}
use Rattle.vs_parse_expressions.proofs.Tokens.{none_at, other_at, read_number}
use Rattle.vs_parse_expressions.proofs.Trees.{tree_Number}
use Rattle.vs_parse_expressions.proofs.expression.number.Goals as goal

pub returns-in_default-clause-reads : goal.returns-in_default-clause-reads
returns-in_default-clause-reads c = λ depth. number_stuck depth false _ _ c.requires (stuck_here refl (none_at _ g.number _ c.in_default.ensures refl))

pub returns-in_default-literal-clause-reads : goal.returns-in_default-literal-clause-reads
returns-in_default-literal-clause-reads c = λ depth. number_stuck depth false _ _ c.requires (stuck_here refl (other_at any_number _ c.in-Some.first.now _ c.in-Some.ensures (c.in_default-literal.ensures c.in-Some.first.now.bytes.now)))

pub returns-clause-reads : goal.returns-clause-reads
returns-clause-reads c = λ depth. rw tree_Number (number_read depth _ _ _ c.requires (read_number depth _ c.in-Some.first.now _ c.in-Some-literal.number c.in-Some.ensures c.in-Some-literal.ensures))
