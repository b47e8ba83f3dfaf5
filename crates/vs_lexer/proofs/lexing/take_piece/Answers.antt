use Rattle.vs_lexer.specs.Taking.{nothing, one}
use Rattle.vs_lexer.proofs.Spelled.{text_cut, token_added}
use Rattle.vs_lexer.proofs.lexing.take_piece.Goals as goal

pub returns-in-Skipped : goal.returns-in-Skipped
returns-in-Skipped c = let b = c.read_piece-piece.ensures.begins in nothing c.read_piece-piece.ensures.text (rw c.in-Skipped.is at b)

pub returns-in_ok-add-in-Token : goal.returns-in_ok-add-in-Token
returns-in_ok-add-in-Token c = let b = c.read_piece-piece.ensures.begins in one c.in-Token.kind c.read_piece-piece.ensures.text (rw c.in-Token.is at b) (token_added _ _ _ _ _ _ c.in_ok-add-in-Token.ensures (text_cut _ _ _ b.splits))
