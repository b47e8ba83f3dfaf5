use Rattle.vs_lexer.proofs.Unique.{one_refusal}
use Rattle.vs_lexer.proofs.laws.one_refusal.Goals as goal

pub returns : goal.returns
returns c = λ source why other place elsewhere a b. one_refusal a b
