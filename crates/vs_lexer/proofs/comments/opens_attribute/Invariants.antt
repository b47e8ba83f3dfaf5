use Rattle.std.proofs.Common.{◌≡◌, drop}
use Rattle.vs_lexer.specs.Pieces.{opens_attribute}
use Rattle.vs_lexer.proofs.comments.opens_attribute.Given as goal

abbrev pub invariant-loop-byte : goal.invariant-loop-byte
invariant-loop-byte l = opens_attribute (drop l.byte-index l.bytes) ≡ opens_attribute l.bytes
