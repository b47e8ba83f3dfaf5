use Rattle.std.proofs.Common.{refl, ◌∙◌}
use Rattle.vs_syntax.specs.Grammar.{name}
use Rattle.vs_syntax.specs.Symbols.{any_name}
use Rattle.vs_syntax.specs.Reading.{stuck_here}
use Rattle.vs_parse_expressions.proofs.Tokens.{none_at, other_at, no_name, read_name}
use Rattle.vs_parse_expressions.proofs.token.expect_name.Goals as goal

pub returns-in_default : goal.returns-in_default
returns-in_default c = λ depth. stuck_here refl (none_at _ name _ c.in_default.ensures refl)

pub returns-in_ok-from_slice-in-Name : goal.returns-in_ok-from_slice-in-Name
returns-in_ok-from_slice-in-Name c = λ depth. read_name depth _ c.in-Some.first.now _ _ c.in-Some.ensures c.in-Name.is (c.in_ok-from_slice-in-Name.ensures.items ∙ c.name.ensures)

pub returns-in_default-kind : goal.returns-in_default-kind
returns-in_default-kind c = λ depth. stuck_here refl (other_at any_name _ c.in-Some.first.now _ c.in-Some.ensures (no_name _ _ c.in_default-kind.not-Name))
