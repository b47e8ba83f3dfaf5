use Rattle.vs_elaborate.proofs.TokenLemmas.{modules_pass}
use Rattle.vs_elaborate.proofs.laws.names_of_modules_are_tokens.Goals as goal

pub returns : goal.returns
returns c = modules_pass c.names_are_tokens.ensures c.used_are_tokens.ensures
