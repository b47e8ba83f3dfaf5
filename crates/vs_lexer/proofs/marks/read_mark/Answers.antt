use Rattle.std.proofs.Common.{refl, sym, ap}
use Rattle.vs_lexer.specs.Pieces.{one_byte_piece}
use Rattle.vs_lexer.proofs.Openings.{mark_of_one}
use Rattle.vs_lexer.proofs.marks.read_mark.Goals as goal

pub returns-in_default-one_byte_mark : goal.returns-in_default-one_byte_mark
returns-in_default-one_byte_mark c = mark_of_one _ _ _ _ c.requires refl (ap one_byte_piece (sym c.in_default-one_byte_mark.ensures)) c.in_default-read_two.ensures

pub returns : goal.returns
returns c = mark_of_one _ _ _ _ c.requires refl (ap one_byte_piece (sym c.in-Some-one_byte_mark.ensures)) c.in_default-read_two.ensures
