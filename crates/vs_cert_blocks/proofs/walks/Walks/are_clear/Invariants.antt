use Rattle.std.proofs.Common.{ℕ, ◌<◌, get_or}
use Rattle.vs_cert_blocks.specs.Walks.{IsClear}
use Rattle.vs_cert_blocks.proofs.walks.Walks.are_clear.Given as goal

abbrev pub invariant-loop-place : goal.invariant-loop-place
invariant-loop-place l = (k : ℕ) → k < l.place-index → IsClear l.self.tables.now l.signal (get_or l.places k 0)
