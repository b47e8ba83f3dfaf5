use Rattle.std.proofs.Common.{◌≤◌}
use Rattle.vs_preprocess.proofs.places.line_feeds.Given as goal

abbrev pub invariant-loop-byte : goal.invariant-loop-byte
invariant-loop-byte l = l.count ≤ l.byte-index
