use Rattle.std.proofs.Common.{◌≡◌, ◌+◌, ◌-◌, ◌≤◌, None, length, take}
use Rattle.vs_lexer.specs.Pieces.{after_pair}
use Rattle.vs_lexer.proofs.comments.split_after_pair.Given as goal

abbrev pub invariant-loop-index : goal.invariant-loop-index
invariant-loop-index l = record { within : l.index ≤ length l.bytes; none : after_pair l.first l.second (take (l.index + 1) l.bytes) ≡ None }

abbrev pub decreases-loop-index : goal.decreases-loop-index
decreases-loop-index l = length l.bytes - l.index
