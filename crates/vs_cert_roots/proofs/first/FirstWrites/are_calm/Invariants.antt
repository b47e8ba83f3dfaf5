use Rattle.std.proofs.Common.{ℕ, ◌<◌, get_or}
use Rattle.vs_cert_roots.specs.First.{WakesEntry}
use Rattle.vs_cert_roots.proofs.first.FirstWrites.are_calm.Given as goal

abbrev pub invariant-loop-place : goal.invariant-loop-place
invariant-loop-place l = (i : ℕ) → i < l.place-index → WakesEntry l.self.design l.self.claims l.writer (get_or l.places i 0) l.root l.digit → ⊥
