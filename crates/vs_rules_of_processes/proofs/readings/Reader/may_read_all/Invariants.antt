use Rattle.std.proofs.Common.{ℕ}
use Rattle.vs_rules_of_processes.specs.ReadingPlaces.{MayReadOf}
use Rattle.vs_rules_of_processes.proofs.PairLemmas.{Before}
use Rattle.vs_rules_of_processes.proofs.readings.Reader.may_read_all.Given as goal

abbrev pub invariant-loop-u : goal.invariant-loop-u
invariant-loop-u l = Before (λ (u : ℕ). MayReadOf l.self.slots.now.design l.self.slots.now.claims l.self.process l.self.tables.now l.place l.v u) l.us l.u-index
