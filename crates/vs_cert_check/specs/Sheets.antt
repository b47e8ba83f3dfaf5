-- The tables in which the rules look things up, and the subjects of the rules.
use Rattle.std.specs.Prelude.{◌≡◌, List, map}
use Rattle.vs_design.specs.Parts.{Parts}
use Rattle.vs_claims.specs.declared.subjects.Subject.{Subject}
use Rattle.vs_claims.specs.Subjects.{subject_view}
use Rattle.vs_rules_of_signals.specs.vs_claims.specs.Facts.{Case}
use Rattle.vs_rules_of_starts.specs.vs_rules.specs.Verdict.{subjects}
use Rattle.vs_rules_of_processes.specs.vs_drivers.specs.Wires.{IsWiringOf, Wiring}

-- these are the tables of a design and its certificate, and all subjects
pub record AreTables (k : Case) (cones : Wiring) (copies : Parts) (entries first_writes slots classes first_slot : Case) (all : List Subject) : Type 0 where
  pub cones_are : IsWiringOf k.design k.claims cones
  pub copies_are : copies ≡ k.design
  pub entries_are : entries ≡ k
  pub first_writes_are : first_writes ≡ k
  pub slots_are : slots ≡ k
  pub classes_are : classes ≡ slots
  pub first_slot_is : first_slot ≡ k
  pub subjects_are : map subject_view all ≡ subjects k.design k.claims
