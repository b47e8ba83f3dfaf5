use Rattle.vs_lexer.proofs.Unique.{one_spelling}
use Rattle.vs_lexer.proofs.laws.one_spelling.Goals as goal

pub returns : goal.returns
returns c = λ source tokens others a b. one_spelling a.spells b.spells
