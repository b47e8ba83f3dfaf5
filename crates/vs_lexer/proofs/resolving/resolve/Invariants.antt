use Rattle.std.proofs.Common.{◌≡◌, ◌++◌, length}
use Rattle.vs_lexer.specs.Texts.{resolved, no_escape, text_value}
use Rattle.vs_lexer.proofs.resolving.resolve.Given as goal

abbrev pub invariant-loop-byte : goal.invariant-loop-byte
invariant-loop-byte l = l.bytes.items ++ resolved no_escape l.rest ≡ text_value l.text

abbrev pub decreases-loop-byte : goal.decreases-loop-byte
decreases-loop-byte l = length l.rest
