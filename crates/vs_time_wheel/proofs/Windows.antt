-- The events of each time, in a calendar.
use Rattle.std.proofs.Common.{◌≡◌, ℕ, zero, suc, ◌+◌, ◌%◌, ◌<◌, ◌≤◌, ◌≢◌, true, false, List, [], ◌∷◌, ◌++◌, Some, refl, sym, ap, ◌∙◌, subst, inl, inr, arith, append-nil}
use Rattle.std.specs.Option.{unwrap_or}
use Rattle.std.specs.Ordering.{nat_cmp}
use Rattle.std.specs.declared.cmp.Ordering.TheVariants.{Less}
use Rattle.std.specs.BTreeMap.{is_at}
use Rattle.std.specs.Map.{lookup, keys_of}
use Rattle.std.specs.List.{AllByRecursion}
use Rattle.std.specs.List.Sorted.{IsStrictlySortedBy}
use Rattle.std.proofs.lemmas.Bool.{cases_eq, cond-true, cond-false}
use Rattle.std.proofs.lemmas.Bool.Decides.{nat_tests}
use Rattle.std.proofs.lemmas.Map.Keys.{sorted_head, sorted_tail}
use Rattle.vs_time_wheel.specs.Bag.{events_at}
use Rattle.vs_time_wheel.specs.Rotation.{slot_at}
use Rattle.vs_time_wheel.specs.Window.{due_at, turn_bag, later_bag}
use Rattle.vs_time_wheel.proofs.Bags.{events_at-append, events_at-here, events_at-apart}

-- ---- a key of the map
pub is_at-same : (t k : ℕ) → t ≡ k → is_at (nat_cmp t) k ≡ true
is_at-same t k e = grind (arith, nat_tests)

pub is_at-other : (t k : ℕ) → t ≢ k → is_at (nat_cmp t) k ≡ false
is_at-other t k h = grind (arith, nat_tests)

less_than : (k y : ℕ) → nat_cmp k y ≡ Less → k < y
less_than k y h = grind (arith, nat_tests)

-- ---- events that are due at one time
pub events_at-due_same : {E : Type 0} (t : ℕ) (xs : List E) → events_at t (due_at t xs) ≡ xs
events_at-due_same t [] = refl
events_at-due_same t (x ∷ xs) = events_at-here t (record { time = t; event = x }) (due_at t xs) refl ∙ ap (λ l. x ∷ l) (events_at-due_same t xs)

pub events_at-due_other : {E : Type 0} (t u : ℕ) (xs : List E) → u ≢ t → events_at t (due_at u xs) ≡ []
events_at-due_other t u [] h = refl
events_at-due_other t u (x ∷ xs) h = events_at-apart t (record { time = u; event = x }) (due_at u xs) h ∙ events_at-due_other t u xs h

-- ---- the slots
pub turn_before : {E : Type 0} (slots : List (List E)) (lo n t : ℕ) → t < lo → events_at t (turn_bag slots lo n) ≡ []
unfolding turn_bag
turn_before slots lo zero t h = refl
turn_before slots lo (suc n) t h =
    events_at-append t (due_at lo (slot_at slots (lo % 256))) (turn_bag slots (suc lo) n)
    ∙ ap (λ l. l ++ events_at t (turn_bag slots (suc lo) n)) (events_at-due_other t lo (slot_at slots (lo % 256)) (λ e. omega arith))
    ∙ turn_before slots (suc lo) n t (omega arith)

pub turn_within : {E : Type 0} (slots : List (List E)) (lo n t : ℕ) → lo ≤ t → t < lo + n → events_at t (turn_bag slots lo n) ≡ slot_at slots (t % 256)
unfolding turn_bag
turn_within slots lo zero t h k = absurd (omega arith)
turn_within slots lo (suc n) t h k = events_at-append t (due_at lo (slot_at slots (lo % 256))) (turn_bag slots (suc lo) n) ∙ elim (cases_eq lo t) [
  | inl e ↦
      ap (λ l. l ++ events_at t (turn_bag slots (suc lo) n)) (ap (λ u. events_at t (due_at u (slot_at slots (u % 256)))) e ∙ events_at-due_same t (slot_at slots (t % 256)))
      ∙ ap (λ l. slot_at slots (t % 256) ++ l) (turn_before slots (suc lo) n t (omega arith)) ∙ append-nil (slot_at slots (t % 256))
  | inr apart ↦
      ap (λ l. l ++ events_at t (turn_bag slots (suc lo) n)) (events_at-due_other t lo (slot_at slots (lo % 256)) apart) ∙ turn_within slots (suc lo) n t (omega arith) (omega arith)
]

pub turn_past : {E : Type 0} (slots : List (List E)) (lo n t : ℕ) → lo + n ≤ t → events_at t (turn_bag slots lo n) ≡ []
unfolding turn_bag
turn_past slots lo zero t h = refl
turn_past slots lo (suc n) t h =
    events_at-append t (due_at lo (slot_at slots (lo % 256))) (turn_bag slots (suc lo) n)
    ∙ ap (λ l. l ++ events_at t (turn_bag slots (suc lo) n)) (events_at-due_other t lo (slot_at slots (lo % 256)) (λ e. omega arith))
    ∙ turn_past slots (suc lo) n t (omega arith)

-- ---- the map
later_none : {E : Type 0} (t : ℕ) (es : List (ℕ × List E)) → AllByRecursion (λ y. nat_cmp t y ≡ Less) (keys_of es) → events_at t (later_bag es) ≡ []
later_none t [] h = refl
later_none t (e ∷ es) h =
    events_at-append t (due_at e.0 e.1) (later_bag es)
    ∙ ap (λ l. l ++ events_at t (later_bag es)) (events_at-due_other t e.0 e.1 (let k : t < e.0 = less_than t e.0 h.0 in λ f. omega arith))
    ∙ later_none t es h.1

pub events_at-later : {E : Type 0} (t : ℕ) (es : List (ℕ × List E)) → IsStrictlySortedBy nat_cmp (keys_of es) → events_at t (later_bag es) ≡ unwrap_or (lookup (is_at (nat_cmp t)) es) []
events_at-later t [] s = refl
events_at-later t (e ∷ es) s =
    events_at-append t (due_at e.0 e.1) (later_bag es) ∙ elim (cases_eq t e.0) [
      | inl h ↦
          ap (λ l. l ++ events_at t (later_bag es)) (ap (λ u. events_at t (due_at u e.1)) (sym h) ∙ events_at-due_same t e.1)
          ∙ ap (λ l. e.1 ++ l) (later_none t es (subst (λ k. AllByRecursion (λ y. nat_cmp k y ≡ Less) (keys_of es)) (sym h) (sorted_head nat_cmp e.0 (keys_of es) s)))
          ∙ append-nil e.1 ∙ sym (ap (λ o. unwrap_or o []) (cond-true (is_at (nat_cmp t) e.0) (Some e.1) (lookup (is_at (nat_cmp t)) es) (is_at-same t e.0 h)))
      | inr apart ↦
          ap (λ l. l ++ events_at t (later_bag es)) (events_at-due_other t e.0 e.1 (λ f. apart (sym f)))
          ∙ events_at-later t es (sorted_tail nat_cmp e.0 (keys_of es) s)
          ∙ sym (ap (λ o. unwrap_or o []) (cond-false (is_at (nat_cmp t) e.0) (Some e.1) (lookup (is_at (nat_cmp t)) es) (is_at-other t e.0 apart)))
    ]
