-- What is asked of the places of a process that waits for times.
use Rattle.std.proofs.Common.{◌≡◌, ℕ, zero, suc, ◌<◌, ◌≤◌, ◌↔◌, inl, inr, Bool, true, false, IsTrue, not, List, length, map, refl, sym, ap, subst, arith}
use Rattle.std.specs.declared.vec.Vec.{Vec}
use Rattle.std.specs.declared.alloc.Global.{Global}
use Rattle.std.proofs.lemmas.Bool.{false≢true, cases_lt}
use Rattle.std.proofs.lemmas.Option.{slice_get_past}
use Rattle.vs_design.specs.declared.statement.Statement.{Statement}
use Rattle.vs_design.specs.Parts.{Parts}
use Rattle.vs_process.specs.Ways.{Pause, none}
use Rattle.vs_process.specs.Stops.{stop_statement}
use Rattle.vs_maps.specs.Reaches.{Chart, pause_at, pause_of, places}
use Rattle.vs_rules.specs.Certificates.{residues_from}
use Rattle.vs_rules.specs.Claims.{Claims}
use Rattle.vs_rules.specs.Controls.{controls_in, list_of}
use Rattle.vs_rules_of_processes.specs.Closed.{PauseIsClosed, PlaceIsClosed, AreClosed, KeepsResidues}

-- past the last place nothing is done
pub past_none : (t : Chart) (p : ℕ) → places t ≤ p → pause_at t p ≡ none
past_none t zero h = absurd (omega (arith, h))
past_none t (suc n) h = ap (λ s. pause_of (stop_statement s)) (slice_get_past t.stops n (omega (arith, h)))

pub past_closed : (d : Parts) (c : Claims) (i : ℕ) (t : Chart) (list : ℕ → List ℕ) (p : ℕ) → places t ≤ p → PlaceIsClosed d c i t list p
past_closed d c i t list p h = subst (λ (x : Pause). PauseIsClosed d c i t list p x) (sym (past_none t p h)) tt

-- something doesn't hold, or something else doesn't
pub listens : (b : Bool) (A B : Type 0) → A → (IsTrue b ↔ B) → (IsTrue (not b) ↔ (A → B → ⊥))
listens true A B here f = (λ t x y. absurd (false≢true t), λ h. absurd (h here (f.0 refl)))
listens false A B here f = (λ t x y. absurd (false≢true (f.1 y)), λ h. refl)

-- of a whole text, by the places of its map
pub closed_is : (d : Parts) (c : Claims) (i : ℕ) (t : Chart) (body : Statement) (lists : List (Vec ℕ Global)) (controls : List ℕ) (list : ℕ → List ℕ) (n : ℕ) → controls ≡ controls_in body →
    length lists ≡ length controls → list ≡ list_of controls (map residues_from lists) → n ≡ places t → (b : Bool) → (IsTrue b ↔ ((p : ℕ) → p < n → PlaceIsClosed d c i t list p)) →
    (IsTrue b ↔ KeepsResidues d c i t body lists)
closed_is d c i t body lists controls list n e long same count b f =
    subst (λ (l : List ℕ). (IsTrue b ↔ ((length lists ≡ length l) × AreClosed d c i t (list_of l (map residues_from lists))))) e
    (subst (λ (l : ℕ → List ℕ). (IsTrue b ↔ ((length lists ≡ length controls) × AreClosed d c i t l))) same (
      λ h. (long, λ p. elim (cases_lt p n) [ inl l ↦ f.0 h p l | inr past ↦ past_closed d c i t list p (subst (λ (k : ℕ). k ≤ p) count past) ]),
      λ h. f.1 (λ p l. h.1 p),
    ))
