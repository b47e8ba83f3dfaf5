use Rattle.std.proofs.Common.{◌≡◌, length}
use Rattle.vs_lexer.specs.Texts.{text_end}
use Rattle.vs_lexer.proofs.texts.read_text_body.Given as goal

abbrev pub invariant-loop-read : goal.invariant-loop-read
invariant-loop-read l = text_end l.rest ≡ text_end l.bytes

abbrev pub decreases-loop-read : goal.decreases-loop-read
decreases-loop-read l = length l.rest
