use Rattle.std.proofs.Common.{◌≡◌, length}
use Rattle.vs_strobe.specs.Pieces.{pieces_of}
use Rattle.vs_strobe.proofs.PieceLemmas.{pieces_before}
use Rattle.vs_strobe.proofs.piece.read_pieces.Given as goal

abbrev pub invariant-loop-rest : goal.invariant-loop-rest
invariant-loop-rest l = pieces_of l.text ≡ pieces_before l.pieces.items (pieces_of l.rest)

abbrev pub decreases-loop-rest : goal.decreases-loop-rest
decreases-loop-rest l = length l.rest
