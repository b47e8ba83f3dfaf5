use Rattle.std.proofs.Common.{ℕ, ◌<◌, ◌↔◌, get_or}
use Rattle.std.specs.List.{Contains}
use Rattle.vs_claims.specs.Facts.{IsRootAt}
use Rattle.vs_claims.proofs.facts.Facts.roots.Given as goal

abbrev pub invariant-loop-place : goal.invariant-loop-place
invariant-loop-place l = (r : ℕ) →
    (Contains l.roots.items r ↔ ((k : ℕ) × (k < l.place-index) × IsRootAt l.self.design l.self.claims.edges (get_or l.place-items k 0) r l.v))
