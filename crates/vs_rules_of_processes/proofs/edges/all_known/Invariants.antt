use Rattle.std.proofs.Common.{◌≡◌, ℕ, Some, length, slice_get}
use Rattle.vs_design.specs.declared.statement.EventTerm.{EventTerm}
use Rattle.vs_rules_of_processes.specs.declared.edges.Term.{Term}
use Rattle.vs_rules_of_processes.specs.EdgePlaces.{IsKnown}
use Rattle.vs_rules_of_processes.proofs.edges.all_known.Given as goal

abbrev pub invariant-loop-i : goal.invariant-loop-i
invariant-loop-i l = (length l.all.items ≡ l.i) × ((k : ℕ) (y : Term) → slice_get l.all.items k ≡ Some y →
    (x : EventTerm) → slice_get l.terms k ≡ Some x → IsKnown l.slots.design l.slots.claims x y)
