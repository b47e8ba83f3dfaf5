use Rattle.vs_lexer.proofs.BasedNumbers.{sizeless_reads}
use Rattle.vs_lexer.proofs.literals.read_apostrophe.Goals as goal

pub returns : goal.returns
returns c = sizeless_reads _ _ _ c.read_quote.ensures
