use Rattle.vs_lexer.proofs.Unique.{never_both}
use Rattle.vs_lexer.proofs.laws.no_spelling_of_refused.Goals as goal

pub returns : goal.returns
returns c = λ source tokens why place a b. never_both a b
