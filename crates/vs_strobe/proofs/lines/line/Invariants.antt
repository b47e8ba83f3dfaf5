use Rattle.std.proofs.Common.{◌≡◌, ◌++◌, drop}
use Rattle.vs_strobe.specs.Lines.{pieces_text, line_text}
use Rattle.vs_strobe.proofs.lines.line.Given as goal

abbrev pub invariant-loop-piece : goal.invariant-loop-piece
invariant-loop-piece l = l.text.items ++ pieces_text l.format l.store l.time (drop l.piece-index l.format.pieces) (drop l.next l.format.args) ≡ line_text l.format l.store l.time
