-- Where signals lead forward through drivers, and what is in the cones of their ranges.
use Rattle.std.proofs.Common.{◌≡◌, ℕ, zero, suc, ◌+◌, ◌-◌, ◌<◌, ◌≤◌, ◌⊎◌, inl, inr, Bool, true, false, List, [], ◌∷◌, length, nat_lt, if◌then◌else◌, refl, sym, ◌∙◌, ap, subst, arith}
use Rattle.std.specs.List.{Contains}
use Rattle.std.proofs.lemmas.Option.{slice_get_within}
use Rattle.vs_design.specs.declared.range.BitRange.{BitRange}
use Rattle.vs_design.specs.Parts.{Parts}
use Rattle.vs_graph.specs.Reached.{Reached, begins, goes_on}
use Rattle.vs_rules.specs.Claims.{Claims}
use Rattle.vs_rules.specs.Drivers.{Driver, IsDriver, DriverWrites, DriverNeeds, InCone}
use Rattle.vs_rules.specs.Drivers as r
use Rattle.vs_drivers.specs.Wires.{driver_at, drivers}
use Rattle.vs_drivers.proofs.Numbers.{block_within, driver_cases, number_of}
use Rattle.vs_drivers.proofs.WalkLemmas.{meet_signal}
use Rattle.vs_graph.specs.Rows.{empty_rows, row}
use Rattle.vs_graph.proofs.RowLemmas.{AreSoFar, none_yet}
use Rattle.vs_rules_of_processes.specs.Forward.{AreForward, LeadsWithin, forward}

-- ---- edges

chosen : (b : Bool) (xs ys : List ℕ) → ((b ≡ true) × ((if b then xs else ys) ≡ xs)) ⊎ ((b ≡ false) × ((if b then xs else ys) ≡ ys))
chosen true xs ys = inl (refl, refl)
chosen false xs ys = inr (refl, refl)

-- the node of a signal, or that of a driver
pub node_cases : (users outs : List (List ℕ)) (a : ℕ) →
    ((a < length users) × (forward users outs a ≡ row users a)) ⊎ ((length users ≤ a) × (forward users outs a ≡ row outs (a - length users)))
node_cases users outs a = elim (chosen (nat_lt a (length users)) (row users a) (row outs (a - length users))) [
  | inl y ↦ inl (grind (arith, y.0), y.1)
  | inr y ↦ inr (grind (arith, y.0), y.1)
]

of_signal : (users outs : List (List ℕ)) (v : ℕ) → v < length users → forward users outs v ≡ row users v
of_signal users outs v within = elim (node_cases users outs v) [ inl y ↦ y.1 | inr y ↦ absurd (omega (arith, within, y.0)) ]

of_driver : (users outs : List (List ℕ)) (n : ℕ) → forward users outs (length users + n) ≡ row outs n
of_driver users outs n = elim (node_cases users outs (length users + n)) [
  | inl y ↦ absurd (omega (arith, y.0))
  | inr y ↦ y.1 ∙ ap (row outs) (omega arith)
]

-- a row that has something is one of the table
pub row_within : (table : List (List ℕ)) (a b : ℕ) → Contains (row table a) b → a < length table
row_within [] a b h = absurd (omega (arith, h.1))
row_within (x ∷ xs) zero b h = omega arith
row_within (x ∷ xs) (suc a) b h = let l = row_within xs a b h in omega (arith, l)

-- rows of no node yet, where the first so many have nothing
pub none_before : (H : ℕ → ℕ → Type 0) (m n : ℕ) (table : List (List ℕ)) → table ≡ empty_rows n → ((i r : ℕ) → i < m → H i r → ⊥) → AreSoFar H m n table
none_before H m n table e none = let base = none_yet H n table e in record {
  long = base.long;
  exact = λ r i within. (λ h. let y = (base.exact r i within).0 h in absurd (omega (arith, y.0)), λ y. absurd (none i r y.0 y.1));
}

pub leads_within : (d : Parts) (c : Claims) (users outs : List (List ℕ)) → AreForward d c users outs → LeadsWithin users outs
leads_within d c users outs are a b h = elim (node_cases users outs a) [
  | inl y ↦
      let l = ((are.users_are a b (subst (λ (n : ℕ). a < n) are.users_long y.0)).0 (subst (λ (l : List ℕ). Contains l b) y.1 h)).0 in
      omega (arith, l, are.users_long, are.outs_long)
  | inr y ↦
      let m = subst (λ (l : List ℕ). Contains l b) y.1 h in
      let l = ((are.outs_are (a - length users) b (subst (λ (n : ℕ). (a - length users) < n) are.outs_long (row_within outs (a - length users) b m))).0 m).0 in
      omega (arith, l, are.users_long)
]

-- ---- cones

-- the number of a driver that writes something
below : (d : Parts) (n : ℕ) (w : BitRange) → DriverWrites d (driver_at d n) w → n < drivers d
below d n w h = elim (driver_cases d n) [
  | inl y ↦ omega (arith, y.0)
  | inr y ↦ let l = block_within d (n - length d.assigns) w (subst (λ (k : Driver). DriverWrites d k w) y.1 h) in omega (arith, l, y.0)
]

-- from a source in the cone of a range a walk leads to the range's signal
pub leads_on : (d : Parts) (c : Claims) (users outs : List (List ℕ)) → AreForward d c users outs → (seeds : List ℕ) (u : ℕ) (p : BitRange) → Contains seeds u →
    InCone d c u p → (p.signal < length d.signals) × Reached (forward users outs) seeds p.signal
leads_on d c users outs are seeds u _ h (r.InCone.here p source e t) = (
  subst (λ (v : ℕ). v < length d.signals) (sym e) (slice_get_within d.signals u source.variable.0 source.variable.1),
  subst (Reached (forward users outs) seeds) (sym e) (begins u h),
)
leads_on d c users outs are seeds u _ h (r.InCone.through p w q k is writes meets needs cone) =
    let before = leads_on d c users outs are seeds u q h cone in
    let n = number_of d k w writes in
    let same = meet_signal d w p meets in
    let put = subst (λ (y : Driver). DriverWrites d y w) (sym n.1) writes in
    let within = below d n.0 w put in
    let node = length d.signals + n.0 in
    let user : Contains (row users q.signal) node = (are.users_are q.signal node before.0).1 (
      omega (arith, within),
      record {
        number = n.0;
        is = refl;
        range = q;
        of = refl;
        driver = subst (IsDriver d c) (sym n.1) is;
        needs = subst (λ (y : Driver). DriverNeeds d y q) (sym n.1) needs;
      },
    ) in
    let out : Contains (row outs n.0) w.signal = (are.outs_are n.0 w.signal within).1 (
      same.1,
      record {
        within = same.1;
        range = w;
        of = refl;
        driver = subst (IsDriver d c) (sym n.1) is;
        writes = put;
      },
    ) in
    let first = subst (λ (l : List ℕ). Contains l node) (sym (of_signal users outs q.signal (subst (λ (m : ℕ). q.signal < m) (sym are.users_long) before.0))) user in
    let second = subst (λ (l : List ℕ). Contains l w.signal) (sym (ap (forward users outs) (ap (λ (m : ℕ). m + n.0) (sym are.users_long)) ∙ of_driver users outs n.0)) out in
    let walk = goes_on node w.signal (goes_on q.signal node before.1 first) second in
    (subst (λ (v : ℕ). v < length d.signals) same.0 same.1, subst (Reached (forward users outs) seeds) same.0 walk)
