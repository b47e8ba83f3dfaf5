-- The edges that roots have where event terms' edges come, by a table.
use Rattle.std.proofs.Common.{◌≡◌, ◌↔◌, Bool, true, false, List, get_or, if◌then◌else◌, refl}
use Rattle.std.proofs.lemmas.Bool.{false≢true}
use Rattle.vs_design.specs.vs_logic4.specs.declared.edge.Edge.{Edge}
use Rattle.vs_design.specs.declared.statement.EventTerm.{EventTerm}
use Rattle.vs_design.specs.Parts.{Parts}
use Rattle.vs_maps.specs.vs_rules.specs.Copies.{IsInverted, SeenAs, opposite}
use Rattle.vs_slots_constants.specs.Inverted.{AreInverted}
use Rattle.vs_slots.specs.Seen.{seen_by}

seen_where : (d : Parts) (wide : Bool) (t : EventTerm) (mark : Bool) → (mark ≡ true ↔ IsInverted d wide t.range.signal) → (edge : Edge) →
    (SeenAs d wide t edge ↔ edge ≡ (if mark then opposite t.edge else t.edge))
seen_where d wide t true is edge = (
  λ s. s.inverse (is.0 refl),
  λ e. record { plain = λ not. absurd (not (is.0 refl)); inverse = λ h. e },
)
seen_where d wide t false is edge = (
  λ s. s.plain (λ h. false≢true (is.1 h)),
  λ e. record { plain = λ not. e; inverse = λ h. absurd (false≢true (is.1 h)) },
)

-- the edge that a root has is that of the table
pub seen_is : (d : Parts) (wide : Bool) (inverted : List Bool) → AreInverted d wide inverted → (t : EventTerm) (edge : Edge) → (SeenAs d wide t edge ↔ edge ≡ seen_by inverted t)
seen_is d wide inverted are t edge = seen_where d wide t (get_or inverted t.range.signal false) (are t.range.signal) edge
