use Rattle.std.proofs.Common.{ℕ, ◌<◌, ◌↔◌}
use Rattle.std.specs.List.{Contains}
use Rattle.vs_design.specs.declared.statement.EventTerm.{EventTerm}
use Rattle.vs_maps.specs.Reaches.{IsPlace, pause_at}
use Rattle.vs_maps.specs.Ranges.{pause_terms}
use Rattle.vs_maps.proofs.walks.terms.Given as goal

abbrev pub invariant-loop-p : goal.invariant-loop-p
invariant-loop-p l = (term : EventTerm) →
    (Contains l.all.items term ↔ ((p : ℕ) × (p < l.p) × (IsPlace l.tables p × Contains (pause_terms (pause_at l.tables p)) term)))
