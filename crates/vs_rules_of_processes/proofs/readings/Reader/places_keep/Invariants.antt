use Rattle.std.proofs.Common.{ℕ, ◌<◌}
use Rattle.vs_claims.specs.vs_maps.specs.Reaches.{IsPlace}
use Rattle.vs_rules_of_processes.specs.ReadingPlaces.{MayReadAt}
use Rattle.vs_rules_of_processes.proofs.readings.Reader.places_keep.Given as goal

abbrev pub invariant-loop-place : goal.invariant-loop-place
invariant-loop-place l = (p : ℕ) → p < l.place → IsPlace l.self.tables.now p → MayReadAt l.self.slots.now.design l.self.slots.now.claims l.self.process l.self.tables.now p
