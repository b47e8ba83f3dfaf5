-- The rule on residues, of the places of a map.
use Rattle.std.specs.Prelude.{ℕ, ◌≡◌, ◌↔◌, Some, List, slice_get, map}
use Rattle.std.specs.declared.vec.Vec.{Vec}
use Rattle.std.specs.declared.alloc.Global.{Global}
use Rattle.vs_design.specs.declared.design.Process.{Process}
use Rattle.vs_design.specs.Parts.{Parts}
use Rattle.vs_process.specs.Stops.{Stop, IsText}
use Rattle.vs_maps.specs.Reaches.{Chart}
use Rattle.vs_rules.specs.Claims.{Claims, WaitsForTimes}
use Rattle.vs_rules.specs.Rules.{K8}
use Rattle.vs_rules.specs.Certificates.{residues_from}
use Rattle.vs_rules_of_processes.specs.Closed.{KeepsResidues}

-- a process that waits for times keeps the rule exactly where its text and its map do with its lists; another one keeps it
pub record AreKept (d : Parts) (c : Claims) (i : ℕ) (q : Process) (t : Chart) : Type 0 where
  pub delays : (lists : List (Vec ℕ Global)) → WaitsForTimes d c i (map residues_from lists) → (KeepsResidues d c i t q.body lists ↔ K8 d c i)
  pub others : ((lists : List (List ℕ)) → WaitsForTimes d c i lists → ⊥) → K8 d c i

abbrev pub ClosedAreKept : Type 0
ClosedAreKept = (d : Parts) (c : Claims) (i : ℕ) (q : Process) (stops : List Stop) (start : ℕ) → slice_get d.processes i ≡ Some q →
    IsText q.body stops start → AreKept d c i q (record { stops = stops; start = start })
