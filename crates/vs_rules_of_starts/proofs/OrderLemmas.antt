-- The order of a certificate has each continuous assignment after those that drive what it reads.
use Rattle.std.proofs.Common.{◌≡◌, ℕ, zero, suc, ◌+◌, ◌<◌, ◌⊎◌, ◌++◌, Bool, true, false, Option, Some, None, option_map, List, [], ◌∷◌, length, map, slice_get, slice_set, refl, sym, ◌∙◌, ap, subst, inl, inr, arith, if◌then◌else◌}
use Rattle.std.specs.List.{Contains}
use Rattle.std.specs.Str.{bytes_eq}
use Rattle.std.proofs.lemmas.Bool.{cases_eq, cases_lt}
use Rattle.std.proofs.lemmas.Option.{none-some, same_Some, slice_get_within}
use Rattle.std.proofs.lemmas.Slice.Eq.{bytes_eq-Decides}
use Rattle.vs_design.specs.vs_logic4.proofs.Basics.{element_of as any_at, map_at}
use Rattle.vs_design.specs.declared.design.Assign.{Assign}
use Rattle.vs_design.specs.declared.range.BitRange.{BitRange}
use Rattle.vs_design.specs.Parts.{Parts}
use Rattle.vs_design.specs.Uses.{covers, reads, writes}
use Rattle.vs_design.specs.WellFormed.{WellFormed}
use Rattle.vs_rules.specs.vs_process.specs.Bits.{HasBit}
use Rattle.vs_rules.specs.vs_process.proofs.ThreadLists.{contains_at}
use Rattle.vs_claims.specs.vs_process.proofs.ProcessLists.{set_same, set_other, distinct_place}
use Rattle.vs_claims.proofs.PlaceLemmas.{same_name}
use Rattle.vs_rules.specs.Claims.{Claims, Name, assign_name, place_of, times_in}
use Rattle.vs_rules.specs.Drivers.{Driver, assign, WritesBit, Precedes}
use Rattle.vs_rules.specs.Rules.{K1_Assign, K4, IsSelf}
use Rattle.vs_rules_of_starts.specs.Settled.{Drives, IsDrivenBefore, IsInOrder}
use Rattle.vs_rules_of_starts.specs.Order.{place_at, IsGrown, IsPut, IsPutWhere, AreAtPlaces}

-- ---- tables

pub grown_self : (none : ℕ) (table : List ℕ) → IsGrown none table table
grown_self none table = record { kept = λ i x h. h; other = λ i x h. inl h }

at_append : (xs : List ℕ) (y i x : ℕ) → slice_get xs i ≡ Some x → slice_get (xs ++ y ∷ []) i ≡ Some x
at_append [] y i x h = absurd (none-some x h)
at_append (z ∷ xs) y zero x h = h
at_append (z ∷ xs) y (suc i) x h = at_append xs y i x h

of_append : (xs : List ℕ) (y i x : ℕ) → slice_get (xs ++ y ∷ []) i ≡ Some x → (slice_get xs i ≡ Some x) ⊎ (x ≡ y)
of_append [] y zero x h = inr (sym (same_Some y x h))
of_append [] y (suc i) x h = absurd (none-some x h)
of_append (z ∷ xs) y zero x h = inl h
of_append (z ∷ xs) y (suc i) x h = of_append xs y i x h

pub grown_more : (none : ℕ) (old mid new : List ℕ) → new ≡ mid ++ none ∷ [] → IsGrown none old mid → IsGrown none old new
grown_more none old mid new is g = subst (IsGrown none old) (sym is) (record {
  kept = λ i x h. at_append mid none i x (g.kept i x h);
  other = λ i x h. elim (of_append mid none i x h) [
    | inl here ↦ g.other i x here
    | inr last ↦ inr last
  ];
})

there : (xs : List ℕ) (i : ℕ) → i < length xs → (x : ℕ) × (slice_get xs i ≡ Some x)
there [] i h = absurd (omega (arith, h))
there (x ∷ xs) zero h = (x, refl)
there (x ∷ xs) (suc i) h = there xs i (omega (arith, h))

pub put_is : (place x none : ℕ) (old mid new : List ℕ) → IsGrown none old mid → place < length mid → new ≡ slice_set mid place x → IsPut place x none old new
put_is place x none old mid new g within is = subst (IsPut place x none old) (sym is) (record {
  here = let a = there mid place within in set_same mid place a.0 x a.1;
  kept = λ i y ne h. set_other mid place i x ne ∙ g.kept i y h;
  other = λ i y ne h. g.other i y (sym (set_other mid place i x ne) ∙ h);
})

-- ---- names

same_bytes : (a b : Name) → a ≡ b → bytes_eq a b ≡ true
same_bytes a b e = (bytes_eq-Decides a b).1 e

-- the name at the place of a name is that name
named_there : (name : Name) (names : List Name) → place_of name names < length names → slice_get names (place_of name names) ≡ Some name
named_there name [] h = absurd (omega (arith, h))
named_there name (n ∷ names) h = by_test (named_there name names) (bytes_eq n name) refl
  where
    by_test : (place_of name names < length names → slice_get names (place_of name names) ≡ Some name) → (t : Bool) → bytes_eq n name ≡ t →
        slice_get (n ∷ names) (if t then 0 else suc (place_of name names)) ≡ Some name
    by_test further true e = ap (λ x. Some x) (same_name n name e)
    by_test further false e =
        further (let l : suc (place_of name names) < suc (length names) = subst (λ (t : Bool). (if t then 0 else suc (place_of name names)) < suc (length names)) e h in omega (arith, l))

some_there : (name : Name) (names : List Name) → times_in name names ≡ 1 → place_of name names < length names
some_there name [] h = absurd (omega (arith, h))
some_there name (n ∷ names) h = by_test (some_there name names) (bytes_eq n name) refl
  where
    by_test : (times_in name names ≡ 1 → place_of name names < length names) → (t : Bool) → bytes_eq n name ≡ t → (if t then 0 else suc (place_of name names)) < suc (length names)
    by_test further true e = omega arith
    by_test further false e =
        let l : place_of name names < length names = further (sym (ap (λ (t : Bool). if t then suc (times_in name names) else times_in name names) e) ∙ h) in omega (arith, l)

-- two names of one place are one
one_name : (a b : Name) (names : List Name) → place_of a names < length names → place_of a names ≡ place_of b names → a ≡ b
one_name a b names lt e =
    same_Some a b (sym (named_there a names lt) ∙ ap (slice_get names) e ∙ named_there b names (subst (λ (n : ℕ). n < length names) e lt))

-- a continuous assignment that has a place has a name
record HasPlace (d : Parts) (c : Claims) (j p : ℕ) : Type 0 where
  assigned : Assign
  is : slice_get d.assigns j ≡ Some assigned
  place : place_of assigned.name.items c.order ≡ p

has_place : (d : Parts) (c : Claims) (j p : ℕ) → place_at d c j ≡ Some p → HasPlace d c j p
has_place d c j p h = by_assign (slice_get d.assigns j) refl
  where
    by_assign : (o : Option Assign) → slice_get d.assigns j ≡ o → HasPlace d c j p
    by_assign None e = absurd (none-some p (sym (ap (λ (o : Option Assign). option_map (λ (n : Name). place_of n c.order) (assign_name o)) e) ∙ h))
    by_assign (Some a) e = record {
      assigned = a;
      is = e;
      place = same_Some (place_of a.name.items c.order) p (sym (ap (λ (o : Option Assign). option_map (λ (n : Name). place_of n c.order) (assign_name o)) e) ∙ h);
    }

place_is : (d : Parts) (c : Claims) (j : ℕ) (a : Assign) → slice_get d.assigns j ≡ Some a → place_at d c j ≡ Some (place_of a.name.items c.order)
place_is d c j a is = ap (λ (o : Option Assign). option_map (λ (n : Name). place_of n c.order) (assign_name o)) is

-- each stands in the order
stands : (d : Parts) (c : Claims) → ((j : ℕ) → K1_Assign d c j) → (j : ℕ) (a : Assign) → slice_get d.assigns j ≡ Some a → place_of a.name.items c.order < length c.order
stands d c one j a is = some_there a.name.items c.order ((one j).listed a.name.items (ap assign_name is)).once

-- and no two at one place
one_place : (d : Parts) (c : Claims) → WellFormed d → ((j : ℕ) → K1_Assign d c j) → (j k p : ℕ) → place_at d c j ≡ Some p → place_at d c k ≡ Some p → j ≡ k
one_place d c formed one j k p at_j at_k =
    let x = has_place d c j p at_j in
    let y = has_place d c k p at_k in
    distinct_place bytes_eq same_bytes (map (λ (a : Assign). a.name.items) d.assigns) j k x.assigned.name.items y.assigned.name.items formed.assign_names
    (map_at (λ (a : Assign). a.name.items) d.assigns j x.assigned x.is) (map_at (λ (a : Assign). a.name.items) d.assigns k y.assigned y.is)
    (one_name x.assigned.name.items y.assigned.name.items c.order (stands d c one j x.assigned x.is) (x.place ∙ sym y.place))

-- ---- the table

pub none_yet : (d : Parts) (c : Claims) (none : ℕ) → AreAtPlaces d c none 0 []
none_yet d c none = record { sound = λ i x h. absurd (none-some x h); complete = λ j p lt. absurd (omega (arith, lt)) }

pub one_more : (d : Parts) (c : Claims) → WellFormed d → ((j : ℕ) → K1_Assign d c j) → (none k p : ℕ) (old new : List ℕ) → place_at d c k ≡ Some p → IsPut p k none old new → AreAtPlaces d c none k old →
    AreAtPlaces d c none (k + 1) new
one_more d c formed one none k p old new here put all = record {
  sound = λ i x h. elim (cases_eq i p) [
    | inl e ↦
        let same : x ≡ k = same_Some x k (sym h ∙ ap (slice_get new) e ∙ put.here) in
        inr (omega (arith, same), ap (place_at d c) same ∙ here ∙ ap (λ n. Some n) (sym e))
    | inr ne ↦ elim (put.other i x ne h) [
      | inl before ↦ elim (all.sound i x before) [
        | inl gone ↦ inl gone
        | inr at ↦ let lt = at.0 in inr (omega (arith, lt), at.1)
      ]
      | inr gone ↦ inl gone
    ]
  ];
  complete = λ j q lt at. elim (cases_lt j k) [
    | inl below ↦ put.kept q j (λ e. let same : j ≡ k = one_place d c formed one j k p (at ∙ ap (λ n. Some n) e) here in omega (arith, below, same)) (all.complete j q below at)
    | inr above ↦
        let same : j ≡ k = omega (arith, lt, above) in
        let e : q ≡ p = same_Some q p (sym at ∙ ap (place_at d c) same ∙ here) in
        ap (slice_get new) e ∙ put.here ∙ ap (λ n. Some n) (sym same)
  ];
}

-- one that has no place is none
pub no_place : (d : Parts) (c : Claims) (k : ℕ) → k < length d.assigns → place_at d c k ≡ None → ⊥
no_place d c k lt none = by_assign (slice_get d.assigns k) refl
  where
    missing : {A : Type 0} (xs : List A) (i : ℕ) → i < length xs → slice_get xs i ≡ None → ⊥
    missing [] i l e = omega (arith, l)
    missing (x ∷ xs) zero l e = none-some x (sym e)
    missing (x ∷ xs) (suc i) l e = missing xs i (omega (arith, l)) e

    by_assign : (o : Option Assign) → slice_get d.assigns k ≡ o → ⊥
    by_assign None e = missing d.assigns k lt e
    by_assign (Some a) e = none-some (place_of a.name.items c.order) (sym none ∙ place_is d c k a e)

pub next_is : (d : Parts) (c : Claims) → WellFormed d → ((j : ℕ) → K1_Assign d c j) → (none k : ℕ) (o : Option ℕ) (old new : List ℕ) → k < length d.assigns → o ≡ place_at d c k → IsPutWhere o k none old new →
    AreAtPlaces d c none k old → AreAtPlaces d c none (k + 1) new
next_is d c formed one none k None old new lt is put all = absurd (no_place d c k lt (sym is))
next_is d c formed one none k (Some p) old new lt is put all = one_more d c formed one none k p old new (sym is) put all

pub in_order_is : (d : Parts) (c : Claims) → ((j : ℕ) → K1_Assign d c j) → ((x : Driver) → K4 d c x) → (none : ℕ) (table : List ℕ) → none ≡ length d.assigns → AreAtPlaces d c none none table → IsInOrder d table
in_order_is d c one four none table count all = record {
  all = λ j a is.
      let lt : j < length d.assigns = slice_get_within d.assigns j a is in
      contains_at table (place_of a.name.items c.order) j (all.complete j (place_of a.name.items c.order) (omega (arith, lt, count)) (place_is d c j a is));
  behind = λ i j y w n a r at is read bit cov by. behind i j y w n a r at is read bit cov by (all.sound i j at);
}
  where
    behind : (i j y w n : ℕ) (a : Assign) (r : BitRange) → slice_get table i ≡ Some j → slice_get d.assigns j ≡ Some a → Contains (reads a.source) r → HasBit d r.signal w n → covers r.signal w n r ≡ true →
        Drives d y r.signal w n → ((j ≡ none) ⊎ ((j < none) × (place_at d c j ≡ Some i))) → IsDrivenBefore d table i r.signal w n
    behind i j y w n a r at is read bit cov by (inl gone) = let lt : j < length d.assigns = slice_get_within d.assigns j a is in absurd (omega (arith, lt, count, gone))
    behind i j y w n a r at is read bit cov by (inr here) = by_before ((four (assign j)).earlier r (record { signal = r.signal; word = w; place = n }) (assign y) tt (a, is, (read, tt)) bit cov tt written)
      where
        found : (k : ℕ) × (x : BitRange) × (slice_get (writes by.assign.target) k ≡ Some x) × (covers r.signal w n x ≡ true)
        found = any_at (covers r.signal w n) (writes by.assign.target) by.covers

        written : WritesBit d (assign y) (record { signal = r.signal; word = w; place = n })
        written = record { range = found.1; writes = (by.assign, by.is, (contains_at (writes by.assign.target) found.0 found.1 found.2, tt)); has = found.3 }

        by_before : (IsSelf (assign j) (assign y) ⊎ Precedes d c (assign y) (assign j)) → IsDrivenBefore d table i r.signal w n
        by_before (inl self) = absurd self
        by_before (inr before) =
            let one_is : before.one ≡ by.assign.name.items = same_Some before.one by.assign.name.items (sym before.is ∙ ap assign_name by.is) in
            let other_is : before.other ≡ a.name.items = same_Some before.other a.name.items (sym before.other_is ∙ ap assign_name is) in
            let place_j : place_of a.name.items c.order ≡ i = same_Some (place_of a.name.items c.order) i (sym (place_is d c j a is) ∙ here.1) in
            let lt : y < length d.assigns = slice_get_within d.assigns y by.assign by.is in
            record {
              place = place_of by.assign.name.items c.order;
              number = y;
              below = subst (λ (n : ℕ). place_of by.assign.name.items c.order < n) place_j (subst (λ (n : Name). place_of by.assign.name.items c.order < place_of n c.order) other_is
                  (subst (λ (n : Name). place_of n c.order < place_of before.other c.order) one_is before.before));
              is = all.complete y (place_of by.assign.name.items c.order) (omega (arith, lt, count)) (place_is d c y by.assign by.is);
              drives = by;
            }
