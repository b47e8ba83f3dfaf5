use Rattle.std.proofs.Common.{refl}
use Rattle.vs_lexer.proofs.Openings.{closed_reads, open_reads}
use Rattle.vs_lexer.proofs.comments.read_closed.Goals as goal

pub returns-in-Some : goal.returns-in-Some
returns-in-Some c = closed_reads _ _ _ _ _ _ c.in-Some.ensures.0 c.in-Some.ensures.1 c.among.ensures

pub returns-in-None : goal.returns-in-None
returns-in-None c = open_reads _ _ _ _ _ c.in-None.ensures refl c.among-in-None.ensures
