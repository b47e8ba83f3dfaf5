use Rattle.std.proofs.Common.{ℕ}
use Rattle.std.specs.List.{Contains}
use Rattle.vs_maps.specs.Reaches.{pause_at}
use Rattle.vs_slots.specs.Controls.{list_by}
use Rattle.vs_slots.specs.Runs.{DelayEndsBy}
use Rattle.vs_rules_of_processes.proofs.PairLemmas.{Before}
use Rattle.vs_rules_of_processes.proofs.arrivals.are_all_apart.Given as goal

abbrev pub invariant-loop-control : goal.invariant-loop-control
invariant-loop-control l =
    Before (λ (q : ℕ). (r : ℕ) → DelayEndsBy (list_by l.lists) (pause_at l.tables q) r → Contains l.residues r → ⊥) l.controls l.control-index
