use Rattle.std.proofs.Common.{ℕ, ◌<◌}
use Rattle.vs_rules_of_starts.specs.Started.{AreTerms, IsStartedBy}
use Rattle.vs_rules_of_starts.proofs.starter.has_starter.Given as goal

abbrev pub invariant-loop-g : goal.invariant-loop-g
invariant-loop-g l = (i : ℕ) → AreTerms l.facts.design i l.terms → (k : ℕ) → k < l.g → IsStartedBy l.facts.design l.facts.claims i k → ⊥
