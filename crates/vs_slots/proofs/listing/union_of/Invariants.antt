use Rattle.std.proofs.Common.{ℕ, ◌<◌, ◌↔◌}
use Rattle.std.specs.List.{Contains}
use Rattle.vs_slots.proofs.listing.union_of.Given as goal

abbrev pub invariant-loop-i : goal.invariant-loop-i
invariant-loop-i g l = (r : ℕ) → (Contains l.all r ↔ ((i : ℕ) × (i < l.i) × g.L.Listing.has l.listing i r))
