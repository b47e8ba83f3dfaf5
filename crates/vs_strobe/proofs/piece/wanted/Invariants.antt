use Rattle.std.proofs.Common.{◌≡◌, ◌+◌, ◌≤◌, drop}
use Rattle.vs_strobe.specs.Pieces.{wanted}
use Rattle.vs_strobe.proofs.piece.wanted.Given as goal

abbrev pub invariant-loop-piece : goal.invariant-loop-piece
invariant-loop-piece l = record {
  so_far : l.count + wanted (drop l.piece-index l.pieces) ≡ wanted l.pieces;
  most : l.count ≤ l.piece-index;
}
