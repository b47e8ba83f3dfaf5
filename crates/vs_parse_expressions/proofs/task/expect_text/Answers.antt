use Rattle.std.proofs.Common.{refl, false}
use Rattle.vs_syntax.specs.Grammar.{token}
use Rattle.vs_syntax.specs.Symbols.{any_text}
use Rattle.vs_syntax.specs.Reading.{stuck_here}
use Rattle.vs_parse_expressions.proofs.Tokens.{none_at, other_at}
use Rattle.vs_parse_expressions.proofs.Tasks.{text_is, no_text}
use Rattle.vs_parse_expressions.proofs.task.expect_text.Goals as goal

pub returns-in_default : goal.returns-in_default
returns-in_default c = λ depth. stuck_here refl (none_at _ (token any_text) _ c.in_default.ensures refl)

pub returns-in_ok-text-in-Text : goal.returns-in_ok-text-in-Text
returns-in_ok-text-in-Text c = λ depth. text_is depth _ c.in-Some.first.now _ _ c.in-Some.ensures c.in-Text.is c.in_ok-text-in-Text.ensures

pub returns-in_default-kind : goal.returns-in_default-kind
returns-in_default-kind c = λ depth. stuck_here refl (other_at any_text _ c.in-Some.first.now _ c.in-Some.ensures (no_text c.in-Some.first.now.kind _ c.in_default-kind.not-Text))
