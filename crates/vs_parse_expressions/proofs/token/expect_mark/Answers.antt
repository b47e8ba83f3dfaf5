use Rattle.std.proofs.Common.{refl}
use Rattle.vs_syntax.specs.Reading.{stuck_here}
use Rattle.vs_parse_expressions.proofs.Tokens.{read_token}
use Rattle.vs_parse_expressions.proofs.token.expect_mark.Goals as goal

pub returns-in-Some : goal.returns-in-Some
returns-in-Some c = λ depth. read_token _ depth _ _ _ c.in-Some.ensures refl

pub returns-in-None : goal.returns-in-None
returns-in-None c = λ depth. stuck_here refl c.in-None.ensures
