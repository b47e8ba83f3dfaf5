use Rattle.vs_lexer.proofs.TextEnds.{reads_same}
use Rattle.vs_lexer.proofs.texts.read_text_body.Goals as goal

pub returns-in-Ends : goal.returns-in-Ends
returns-in-Ends c = reads_same _ _ _ c.loop-read.invariant c.in-Ends.ensures
