-- Lists that are closed, and the rule on residues.
use Rattle.std.proofs.Common.{◌≡◌, ℕ, ◌↔◌, inl, inr, List, length, slice_get, Some, sym, ◌∙◌, ap, subst, map}
use Rattle.std.proofs.lemmas.List.{length-map}
use Rattle.vs_design.specs.declared.design.Process.{Process}
use Rattle.vs_design.specs.Parts.{Parts}
use Rattle.vs_process.specs.Stops.{Stop, IsText}
use Rattle.vs_rules.specs.Controls.{controls_at, controls_in, list_of}
use Rattle.vs_rules.specs.Certificates.{residues_from}
use Rattle.vs_rules.specs.Claims.{Claims, WaitsForTimes}
use Rattle.vs_rules.specs.Rules.{K8}
use Rattle.vs_rules_of_processes.specs.Closed.{AreClosed}
use Rattle.vs_rules_of_processes.specs.Residues.{ClosedAreKept}
use Rattle.vs_rules_of_processes.proofs.ResidueLemmas.{closed_is}

of_lists : (d : Parts) (c : Claims) (i : ℕ) (q : Process) (stops : List Stop) (start : ℕ) → slice_get d.processes i ≡ Some q → IsText q.body stops start →
    (lists : List (List ℕ)) → WaitsForTimes d c i lists →
    (((length lists ≡ length (controls_in q.body)) × AreClosed d c i (record { stops = stops; start = start }) (list_of (controls_in q.body) lists)) ↔ K8 d c i)
of_lists d c i q stops start is t lists has =
    subst (λ (l : List ℕ). (((length lists ≡ length l) × AreClosed d c i (record { stops = stops; start = start }) (list_of l lists)) ↔ K8 d c i)) (ap controls_at is)
    (closed_is d c i q stops start is t lists has)

-- a process that waits for no times keeps the rule
pub other_delays : (d : Parts) (c : Claims) (i : ℕ) → ((lists : List (List ℕ)) → WaitsForTimes d c i lists → ⊥) → K8 d c i
other_delays d c i other = record {
  no_event = λ k l number terms kind point goes. other kind.0 (inl kind.1);
  one_each = λ lists has. absurd (other lists has);
  from_start = λ lists k l number ticks has early goes some. absurd (other lists has);
  from_residue = λ lists k l number ticks r has runs goes. absurd (other lists has);
  from_edge = λ lists k l number ticks r has runs goes. absurd (other lists (inr has));
}

pub closed_are_kept : ClosedAreKept
closed_are_kept d c i q stops start is t = record {
  delays = λ lists has. let both = of_lists d c i q stops start is t (map residues_from lists) has in
      (λ h. both.0 (length-map lists residues_from ∙ h.0, h.1), λ k. let h = both.1 k in (sym (length-map lists residues_from) ∙ h.0, h.1));
  others = other_delays d c i;
}
