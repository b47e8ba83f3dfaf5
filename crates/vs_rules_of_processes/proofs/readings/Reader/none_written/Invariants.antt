use Rattle.std.proofs.Common.{ℕ}
use Rattle.std.specs.List.{Contains}
use Rattle.vs_rules.specs.Slots.{HasWriteSlot}
use Rattle.vs_rules_of_processes.proofs.PairLemmas.{Before}
use Rattle.vs_rules_of_processes.proofs.readings.Reader.none_written.Given as goal

abbrev pub invariant-loop-root : goal.invariant-loop-root
invariant-loop-root l =
    Before (λ (root : ℕ). (r : ℕ) → HasWriteSlot l.self.slots.now.design l.self.slots.now.claims root r → Contains l.residues r → ⊥) l.roots l.root-index
