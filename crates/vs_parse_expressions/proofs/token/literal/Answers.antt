use Rattle.vs_parse_expressions.proofs.Tokens.{no_number}
use Rattle.vs_parse_expressions.proofs.token.literal.Goals as goal

pub returns-in_default : goal.returns-in_default
returns-in_default c = λ bytes. no_number _ bytes c.in_default.not-Number
