use Rattle.vs_design.specs.declared.range.BitRange.{BitRange}
use Rattle.vs_rules_of_processes.specs.ReadingPlaces.{MayReadRange}
use Rattle.vs_rules_of_processes.proofs.PairLemmas.{Before}
use Rattle.vs_rules_of_processes.proofs.readings.Reader.may_read_ranges.Given as goal

abbrev pub invariant-loop-i : goal.invariant-loop-i
invariant-loop-i l = Before (λ (r : BitRange). MayReadRange l.self.slots.now.design l.self.slots.now.claims l.self.process l.self.tables.now l.place r) l.ranges l.i
