-- Where a mixed process comes from delays to event controls, by what is kept of its places.
use Rattle.std.proofs.Common.{◌≡◌, ℕ, ◌<◌, ◌≤◌, ◌↔◌, inl, inr, Bool, true, IsTrue, Some, List, slice_get, refl, sym, ap, subst, arith}
use Rattle.std.specs.List.{Contains}
use Rattle.std.proofs.lemmas.Bool.{cases_lt as below_cases}
use Rattle.vs_design.specs.declared.design.Process.{Process}
use Rattle.vs_design.specs.declared.statement.EventTerm.{EventTerm}
use Rattle.vs_design.specs.Parts.{Parts}
use Rattle.vs_graph.specs.Rows.{AreRows, row}
use Rattle.vs_process.specs.Ways.{Pause, none, delay, event}
use Rattle.vs_rules.specs.Claims.{Claims, HasMixedLists, IsMixed, WaitsForTimes}
use Rattle.vs_rules.specs.Controls.{controls_at, controls_in, controls_of, list_of}
use Rattle.vs_claims.specs.vs_maps.specs.Reaches.{Chart, IsPlace, pause_at, places}
use Rattle.vs_claims.specs.vs_maps.specs.Walks.{IsDelayBefore}
use Rattle.vs_rules_of_processes.specs.vs_slots.specs.Runs.{DelayEndsBy, TermsEnd}
use Rattle.vs_rules_of_processes.specs.vs_slots.specs.Terms.{TermsFire}
use Rattle.vs_rules_of_processes.specs.vs_slots.proofs.RunLemmas.{one_lists}
use Rattle.vs_rules_of_processes.specs.EdgePlaces.{AreArrivalsApart, ArrivesApart}
use Rattle.vs_rules_of_processes.proofs.Here.{past_none}

-- what goes on otherwise than through an event control ends at no terms
no_terms : (d : Parts) (c : Claims) (pause : Pause) (r : ℕ) → pause ≡ none → TermsEnd d c pause r → ⊥
no_terms d c pause r e h = let y = subst (λ (x : Pause). TermsEnd d c x r) e h in omega (arith, y.1.1)

no_event : (d : Parts) (c : Claims) (pause : Pause) (r : ℕ) → ((number : ℕ) (terms : List EventTerm) → pause ≡ event number terms → ⊥) → TermsEnd d c pause r → ⊥
no_event d c none r not h = omega (arith, h.1.1)
no_event d c (delay number ticks) r not h = omega (arith, h.1.1)
no_event d c (event number terms) r not h = not number terms refl

-- a place with an event control, by the controls before it and the residues at which it can end
pub event_is : (d : Parts) (c : Claims) (t : Chart) (list : ℕ → List ℕ) (p number : ℕ) (terms : List EventTerm) (controls before fires : List ℕ) (b : Bool) → event number terms ≡ pause_at t p →
    controls ≡ before → ((r : ℕ) → (Contains fires r ↔ TermsFire d c terms r)) →
    (IsTrue b ↔ ((q : ℕ) → Contains controls q → (r : ℕ) → DelayEndsBy list (pause_at t q) r → Contains fires r → ⊥)) →
    (IsTrue b ↔ ((q : ℕ) → Contains before q → ArrivesApart d c t list q p))
event_is d c t list p number terms controls before fires b pause same told f =
    subst (λ (x : Pause). (IsTrue b ↔ ((q : ℕ) → Contains before q → (r : ℕ) → DelayEndsBy list (pause_at t q) r → TermsEnd d c x r → ⊥))) pause
    (subst (λ (l : List ℕ). (IsTrue b ↔ ((q : ℕ) → Contains l q → (r : ℕ) → DelayEndsBy list (pause_at t q) r → TermsFire d c terms r → ⊥))) same (
      λ h q m r x y. f.0 h q m r x ((told r).1 y),
      λ g. f.1 (λ q m r x y. g q m r x ((told r).0 y)),
    ))

-- another place
pub other_is : (d : Parts) (c : Claims) (t : Chart) (list : ℕ → List ℕ) (p : ℕ) (before : List ℕ) → ((number : ℕ) (terms : List EventTerm) → pause_at t p ≡ event number terms → ⊥) →
    (IsTrue true ↔ ((q : ℕ) → Contains before q → ArrivesApart d c t list q p))
other_is d c t list p before not = (λ h q m r x y. no_event d c (pause_at t p) r not y, λ g. refl)

-- all places, by the rows of the controls before each
pub arrivals_are : (d : Parts) (c : Claims) (t : Chart) (kept list : ℕ → List ℕ) (before : List (List ℕ)) (n : ℕ) (b : Bool) → kept ≡ list → n ≡ places t →
    ((p : ℕ) → IsPlace t p → p < places t) → AreRows (IsDelayBefore t) (places t) (places t) before →
    (IsTrue b ↔ ((p : ℕ) → p < n → (q : ℕ) → Contains (row before p) q → ArrivesApart d c t kept q p)) → (IsTrue b ↔ AreArrivalsApart d c t list)
arrivals_are d c t kept list before n b same count inside rows f = subst (λ (l : ℕ → List ℕ). (IsTrue b ↔ AreArrivalsApart d c t l)) same (there, back) where
  there : IsTrue b → AreArrivalsApart d c t kept
  there h q p w r ends fires = elim (below_cases p n) [
    | inl l ↦ f.0 h p l q ((rows p q (subst (λ (k : ℕ). p < k) count l)).1 (inside q (subst (IsPlace t) w.starts.0 w.is_place), w)) r ends fires
    | inr past ↦ no_terms d c (pause_at t p) r (past_none t p (subst (λ (k : ℕ). k ≤ p) count past)) fires
  ]

  back : AreArrivalsApart d c t kept → IsTrue b
  back g = f.1 (λ p l q m. g q p ((rows p q (subst (λ (k : ℕ). p < k) count l)).0 m).1)

-- of a mixed process, by the lists of its text
pub mixed_are : (d : Parts) (c : Claims) (i : ℕ) (q : Process) (t : Chart) (lists : List (List ℕ)) (b : Bool) → slice_get d.processes i ≡ Some q → IsMixed d c i → WaitsForTimes d c i lists →
    (IsTrue b ↔ AreArrivalsApart d c t (list_of (controls_in q.body) lists)) →
    (IsTrue b ↔ ((other : List (List ℕ)) → HasMixedLists d c i other → AreArrivalsApart d c t (list_of (controls_of d i) other)))
mixed_are d c i q t lists b is kind waits f =
    let same : controls_of d i ≡ controls_in q.body = ap controls_at is in (
      λ h other has.
          subst (λ (l : List (List ℕ)). AreArrivalsApart d c t (list_of (controls_of d i) l)) (one_lists d c i lists other waits (inr has))
          (subst (λ (ns : List ℕ). AreArrivalsApart d c t (list_of ns lists)) (sym same) (f.0 h)),
      λ g. f.1 (subst (λ (ns : List ℕ). AreArrivalsApart d c t (list_of ns lists)) same
          (subst (λ (l : List (List ℕ)). AreArrivalsApart d c t (list_of (controls_of d i) l)) (one_lists d c i kind.0 lists (inr kind.1) waits) (g kind.0 kind.1))),
    )
