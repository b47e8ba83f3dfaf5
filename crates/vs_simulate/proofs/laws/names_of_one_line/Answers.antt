use Rattle.vs_simulate.proofs.NameLemmas.{names_hold}
use Rattle.vs_simulate.proofs.laws.names_of_one_line.Goals as goal

pub returns : goal.returns
returns c = names_hold c.names_of_one_line.ensures c.names_of_modules_are_tokens.ensures c.names_of_one_line-2.ensures
