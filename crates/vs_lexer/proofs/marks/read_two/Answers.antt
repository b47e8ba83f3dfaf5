use Rattle.std.proofs.Common.{refl, sym}
use Rattle.vs_lexer.proofs.Openings.{mark_of_two}
use Rattle.vs_lexer.proofs.marks.read_two.Goals as goal

pub returns : goal.returns
returns c = mark_of_two _ _ _ _ _ c.in-Some.ensures (sym c.in-Some-two_byte_mark.ensures) refl c.requires
