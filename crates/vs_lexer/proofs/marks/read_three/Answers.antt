use Rattle.std.proofs.Common.{refl, sym}
use Rattle.vs_lexer.proofs.Openings.{mark_of_three}
use Rattle.vs_lexer.proofs.marks.read_three.Goals as goal

pub returns : goal.returns
returns c = mark_of_three _ _ _ _ _ _ c.in-Some.ensures (sym c.in-Some-three_byte_mark.ensures) refl
