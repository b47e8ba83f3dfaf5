use Rattle.vs_lexer.proofs.NameLines.{all_one_line}
use Rattle.vs_lexer.proofs.laws.names_of_one_line.Goals as goal

pub returns : goal.returns
returns c = λ source tokens a. all_one_line a.spells
