use Rattle.vs_lexer.proofs.TextEnds.{text_reads}
use Rattle.vs_lexer.proofs.texts.read_text.Goals as goal

pub returns : goal.returns
returns c = text_reads _ _ _ c.read_text_body.ensures
