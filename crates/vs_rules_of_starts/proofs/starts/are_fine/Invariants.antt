use Rattle.std.proofs.Common.{ℕ, ◌<◌, ◌≡◌, Some, slice_get}
use Rattle.vs_design.specs.declared.statement.EventTerm.{EventTerm}
use Rattle.vs_rules_of_starts.specs.Starts.{IsFine}
use Rattle.vs_rules_of_starts.proofs.starts.are_fine.Given as goal

abbrev pub invariant-loop-term : goal.invariant-loop-term
invariant-loop-term l =
    (k : ℕ) (t : EventTerm) → k < l.term-index → slice_get l.terms k ≡ Some t → IsFine l.facts.design l.facts.claims l.written t.range.signal
