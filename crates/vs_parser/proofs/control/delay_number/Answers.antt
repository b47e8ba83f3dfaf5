use Rattle.std.proofs.Common.{refl, false}
use Rattle.vs_syntax.specs.Grammar.{number}
use Rattle.vs_syntax.specs.Symbols.{any_number}
use Rattle.vs_syntax.specs.Reading.{stuck_here}
use Rattle.vs_parse_expressions.proofs.Tokens.{none_at, other_at, read_number}
use Rattle.vs_parser.proofs.Controls.{delay_number_stuck, delay_number_read}
use Rattle.vs_parser.proofs.control.delay_number.Goals as goal

pub returns-in_default : goal.returns-in_default
returns-in_default c = λ depth. delay_number_stuck depth false _ _ c.requires (stuck_here refl (none_at _ number _ c.in_default.ensures refl))

pub returns-in_default-literal : goal.returns-in_default-literal
returns-in_default-literal c = λ depth. delay_number_stuck depth false _ _ c.requires (stuck_here refl (other_at any_number _ c.in-Some.first.now _ c.in-Some.ensures (c.in_default-literal.ensures c.in-Some.first.now.bytes.now)))

pub returns : goal.returns
returns c = λ depth. delay_number_read depth _ _ _ c.requires (read_number depth _ c.in-Some.first.now _ c.in-Some-literal.time c.in-Some.ensures c.in-Some-literal.ensures)
