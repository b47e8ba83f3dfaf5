use Rattle.std.proofs.Common.{ℕ, ◌<◌, false, slice_index_or, IsTrue}
use Rattle.vs_rules.specs.Claims.{HasStart, starter}
use Rattle.vs_rules_of_starts.proofs.starts.no_starter_in.Given as goal

abbrev pub invariant-loop-j : goal.invariant-loop-j
invariant-loop-j l = (k : ℕ) → k < l.j → (IsTrue (slice_index_or l.marks k false) × HasStart l.facts.design l.facts.claims k starter) → ⊥
