-- Edge terms that are woken where the root of their signal changes.
use Rattle.std.proofs.Common.{◌≡◌, ℕ, ◌↔◌, Bool, true, false, Option, List, get_or, if◌then◌else◌, refl, sym, ◌∙◌, ap, subst}
use Rattle.std.proofs.lemmas.Bool.{false≢true}
use Rattle.vs_design.specs.vs_logic4.specs.declared.digit.Digit.{Digit}
use Rattle.vs_design.specs.vs_logic4.specs.declared.digit.Digit.TheVariants.{Zero, One, X, Z}
use Rattle.vs_design.specs.vs_logic4.specs.declared.edge.Edge.{Edge}
use Rattle.vs_design.specs.vs_logic4.specs.declared.edge.Edge.TheVariants.{Any, Posedge, Negedge}
use Rattle.vs_design.specs.vs_logic4.specs.Edges.{is_edge}
use Rattle.vs_design.specs.vs_logic4.specs.Tables.{not_digit}
use Rattle.vs_design.specs.declared.statement.EventTerm.{EventTerm}
use Rattle.vs_design.specs.Parts.{Parts}
use Rattle.vs_process.specs.Executions.{is_any}
use Rattle.vs_rules.specs.Claims.{Claims, is_wide}
use Rattle.vs_rules.specs.Copies.{IsInverted, SeenAs, opposite}
use Rattle.vs_drivers.specs.vs_slots_constants.specs.Inverted.{AreInverted}
use Rattle.vs_cert_roots.specs.First.{WakesSignal, WakesFromX, shown_by}

-- a change from x is the opposite edge where one to the inverse digit is the edge
turned : (edge : Edge) (digit : Digit) → is_any edge ≡ false → is_edge edge X (not_digit digit) ≡ is_edge (opposite edge) X digit
turned Any digit h = cc
turned Posedge Zero h = refl
turned Posedge One h = refl
turned Posedge X h = refl
turned Posedge Z h = refl
turned Negedge Zero h = refl
turned Negedge One h = refl
turned Negedge X h = refl
turned Negedge Z h = refl

plain_seen : (d : Parts) (wide : Bool) (t : EventTerm) → (IsInverted d wide t.range.signal → ⊥) → SeenAs d wide t t.edge
plain_seen d wide t not = record { plain = λ h. refl; inverse = λ h. absurd (not h) }

inverse_seen : (d : Parts) (wide : Bool) (t : EventTerm) → IsInverted d wide t.range.signal → SeenAs d wide t (opposite t.edge)
inverse_seen d wide t is = record { plain = λ not. absurd (not is); inverse = λ h. refl }

woken_where : (d : Parts) (c : Claims) (except : Option ℕ) (v : ℕ) (digit : Digit) (mark : Bool) → (mark ≡ true ↔ IsInverted d (is_wide c) v) →
    (WakesSignal d c except v (if mark then not_digit digit else digit) ↔ WakesFromX d c except v digit)
woken_where d c except v digit true is = (
  λ w.
      let here = subst (IsInverted d (is_wide c)) (sym w.of) (is.0 refl) in
      record {
        process = w.process;
        term = w.term;
        has = w.has;
        heard = w.heard;
        edge = w.edge;
        of = w.of;
        wakes = (opposite w.term.edge, inverse_seen d (is_wide c) w.term here, sym (turned w.term.edge digit w.edge) ∙ w.wakes);
      },
  λ w.
      let here = subst (IsInverted d (is_wide c)) (sym w.of) (is.0 refl) in
      record {
        process = w.process;
        term = w.term;
        has = w.has;
        heard = w.heard;
        edge = w.edge;
        of = w.of;
        wakes = turned w.term.edge digit w.edge ∙ ap (λ (e : Edge). is_edge e X digit) (sym (w.wakes.1.inverse here)) ∙ w.wakes.2;
      },
)
woken_where d c except v digit false is = (
  λ w.
      let not = λ (h : IsInverted d (is_wide c) w.term.range.signal). false≢true (is.1 (subst (IsInverted d (is_wide c)) w.of h)) in
      record {
        process = w.process;
        term = w.term;
        has = w.has;
        heard = w.heard;
        edge = w.edge;
        of = w.of;
        wakes = (w.term.edge, plain_seen d (is_wide c) w.term not, w.wakes);
      },
  λ w.
      let not = λ (h : IsInverted d (is_wide c) w.term.range.signal). false≢true (is.1 (subst (IsInverted d (is_wide c)) w.of h)) in
      record {
        process = w.process;
        term = w.term;
        has = w.has;
        heard = w.heard;
        edge = w.edge;
        of = w.of;
        wakes = ap (λ (e : Edge). is_edge e X digit) (sym (w.wakes.1.plain not)) ∙ w.wakes.2;
      },
)

-- a change of the root wakes what one of the signal to the digit that it then shows does
pub woken_is : (d : Parts) (c : Claims) (except : Option ℕ) (inverted : List Bool) → AreInverted d (is_wide c) inverted → (v : ℕ) (digit : Digit) →
    (WakesSignal d c except v (shown_by inverted v digit) ↔ WakesFromX d c except v digit)
woken_is d c except inverted are v digit = woken_where d c except v digit (get_or inverted v false) (are v)
