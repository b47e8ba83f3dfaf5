use Rattle.std.proofs.Common.{◌≡◌, ℕ, ◌<◌, ◌↔◌, Some, slice_get}
use Rattle.std.specs.List.{Contains}
use Rattle.vs_design.specs.declared.statement.EventTerm.{EventTerm}
use Rattle.vs_slots.specs.Kept.{IsTermIn}
use Rattle.vs_slots.proofs.roots.Firing.of_terms.Given as goal

abbrev pub invariant-loop-i : goal.invariant-loop-i
invariant-loop-i l = (r : ℕ) → (Contains l.all r ↔
    ((i : ℕ) × (i < l.i) × ((t : EventTerm) × (slice_get l.terms i ≡ Some t) × IsTermIn l.facts l.self t r)))
