-- The rule K8 of a process is that of its map.
use Rattle.std.proofs.Common.{◌≡◌, ℕ, ◌↔◌, Bool, Some, List, IsTrue, map, slice_get}
use Rattle.std.specs.declared.vec.Vec.{Vec}
use Rattle.std.specs.declared.alloc.Global.{Global}
use Rattle.vs_design.specs.declared.design.Process.{Process}
use Rattle.vs_design.specs.Parts.{Parts}
use Rattle.vs_rules.specs.Certificates.{residues_from}
use Rattle.vs_rules.specs.Claims.{Claims, WaitsForTimes}
use Rattle.vs_rules.specs.Rules.{K8}
use Rattle.vs_maps.specs.Reaches.{Chart}
use Rattle.vs_slots.specs.vs_claims.specs.Facts.{AreCharts}
use Rattle.vs_rules_of_processes.specs.Closed.{KeepsResidues}
use Rattle.vs_rules_of_processes.specs.Residues.{ClosedAreKept}

pub told : (d : Parts) (c : Claims) (charts : List Chart) (i : ℕ) (q : Process) (t : Chart) (lists : List (Vec ℕ Global)) (b : Bool) → ClosedAreKept →
    AreCharts d charts → slice_get d.processes i ≡ Some q → slice_get charts i ≡ Some t → WaitsForTimes d c i (map residues_from lists) →
    (IsTrue b ↔ KeepsResidues d c i t q.body lists) → (IsTrue b ↔ K8 d c i)
told d c charts i q t lists b law maps is chart has answer =
    let kept = (law d c i q t.stops t.start is (maps.each i q t is chart)).delays lists has in
    (λ yes. kept.0 (answer.0 yes), λ keeps. answer.1 (kept.1 keeps))
