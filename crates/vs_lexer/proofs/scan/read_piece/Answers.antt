use Rattle.vs_lexer.proofs.Forms.{piece_by_first}
use Rattle.vs_lexer.proofs.scan.read_piece.Goals as goal

pub returns : goal.returns
returns c = rw c.in-Some.ensures (piece_by_first _ _ _ (rw c.in-Some.ensures at c.read_form.ensures))
