-- What each call does to a calendar.
use Rattle.std.proofs.Common.{◌≡◌, ℕ, zero, suc, ◌+◌, ◌-◌, ◌%◌, ◌^◌, ◌<◌, ◌≤◌, ◌≢◌, List, [], ◌∷◌, ◌++◌, length, slice_set, drop, Option, None, Some, refl, sym, ap, ◌∙◌, subst, inl, inr, arith, append-nil, length-set}
use Rattle.std.specs.Option.{unwrap_or, MatchOption}
use Rattle.std.specs.Ordering.{nat_cmp}
use Rattle.std.specs.BTreeMap.{BTreeMap, get, IsOrdered, is_at}
use Rattle.std.specs.Map.{lookup, keys_of}
use Rattle.std.specs.List.Sorted.{IsStrictlySortedBy}
use Rattle.std.proofs.lemmas.Bool.{cases_lt, cases_eq}
use Rattle.std.proofs.lemmas.List.{get_or-set_same, get_or-set_other}
use Rattle.vs_time_wheel.specs.declared.timing.Timed.{Timed}
use Rattle.vs_time_wheel.specs.Bag.{IsFrom, events_at, least_time, SameBag, oldest_at, without_oldest}
use Rattle.vs_time_wheel.specs.Rotation.{slot_at, first_of, AllFree}
use Rattle.vs_time_wheel.specs.Window.{due_at, turn_bag, later_bag, calendar_bag, IsWound, IsLoose, later_at, Postpones, Loses, NoneBefore}
use Rattle.vs_time_wheel.proofs.Bags.{events_at-append, events_at-here, events_at-apart, events_at-without_oldest, events_at-without_other, oldest_at-first, least_time-from}
use Rattle.vs_time_wheel.proofs.Windows.{turn_before, turn_within, turn_past, events_at-later}

-- ---- a slot is written
pub slot_at-set_same : {E : Type 0} (slots : List (List E)) (i j : ℕ) (xs : List E) → length slots ≡ 256 → j ≡ i → i < 256 → slot_at (slice_set slots i xs) j ≡ xs
slot_at-set_same slots i j xs count e low = ap (λ k. slot_at (slice_set slots i xs) k) e ∙ get_or-set_same slots i xs [] (omega arith)

pub slot_at-set_other : {E : Type 0} (slots : List (List E)) (i j : ℕ) (xs : List E) → j ≢ i → slot_at (slice_set slots i xs) j ≡ slot_at slots j
slot_at-set_other slots i j xs apart = get_or-set_other slots i j xs [] apart

-- two times of one window have one slot only where they are one
pub apart_in_window : (now t u : ℕ) → now ≤ t → t < now + 256 → now ≤ u → u < now + 256 → t ≢ u → t % 256 ≢ u % 256
apart_in_window now t u a b c d apart = λ e. apart (omega arith)

pub IsLoose-from_wound : {E : Type 0} {slots : List (List E)} {later : BTreeMap ℕ (List E)} {now : ℕ} → IsWound slots later now → IsLoose slots later now
IsLoose-from_wound w = record {
  count = w.count;
  fits = w.fits;
  ordered = w.ordered;
  filled = w.filled;
  not_over = λ t h. w.behind t (omega arith);
  free = λ t from to some. absurd (some (w.behind t to));
}

-- where no time of the map is near, the calendar is in order
pub IsWound-from_loose : {E : Type 0} {slots : List (List E)} {later : BTreeMap ℕ (List E)} {now : ℕ} → IsLoose slots later now → ((t : ℕ) → t < now + 256 → get nat_cmp later t ≡ None) → IsWound slots later now
IsWound-from_loose l behind = record { count = l.count; fits = l.fits; ordered = l.ordered; filled = l.filled; behind = behind }

-- ---- the events of each time
pub events_over : {E : Type 0} (slots : List (List E)) (later : BTreeMap ℕ (List E)) (now t : ℕ) → IsLoose slots later now → t < now → events_at t (calendar_bag slots later now) ≡ []
unfolding calendar_bag
events_over slots later now t l h =
    events_at-append t (turn_bag slots now 256) (later_bag later.entries) ∙ ap (λ xs. xs ++ events_at t (later_bag later.entries)) (turn_before slots now 256 t h)
    ∙ events_at-later t later.entries l.ordered ∙ ap (λ o. unwrap_or o []) (l.not_over t h)

pub events_near : {E : Type 0} (slots : List (List E)) (later : BTreeMap ℕ (List E)) (now t : ℕ) → IsLoose slots later now → now ≤ t → t < now + 256 → events_at t (calendar_bag slots later now) ≡ slot_at slots (t % 256) ++ later_at later t
unfolding calendar_bag
events_near slots later now t l from to =
    events_at-append t (turn_bag slots now 256) (later_bag later.entries) ∙ ap (λ xs. xs ++ events_at t (later_bag later.entries)) (turn_within slots now 256 t from to)
    ∙ ap (λ xs. slot_at slots (t % 256) ++ xs) (events_at-later t later.entries l.ordered)

pub events_late : {E : Type 0} (slots : List (List E)) (later : BTreeMap ℕ (List E)) (now t : ℕ) → IsLoose slots later now → now + 256 ≤ t → events_at t (calendar_bag slots later now) ≡ later_at later t
unfolding calendar_bag
events_late slots later now t l past =
    events_at-append t (turn_bag slots now 256) (later_bag later.entries) ∙ ap (λ xs. xs ++ events_at t (later_bag later.entries)) (turn_past slots now 256 t past)
    ∙ events_at-later t later.entries l.ordered

pub events_slot : {E : Type 0} (slots : List (List E)) (later : BTreeMap ℕ (List E)) (now t : ℕ) → IsWound slots later now → now ≤ t → t < now + 256 → events_at t (calendar_bag slots later now) ≡ slot_at slots (t % 256)
events_slot slots later now t w from to = events_near slots later now t (IsLoose-from_wound w) from to ∙ ap (λ o. slot_at slots (t % 256) ++ unwrap_or o []) (w.behind t to) ∙ append-nil (slot_at slots (t % 256))

-- a calendar in order, and then one with some events behind, are one bag where they are at each time
by_times : {E : Type 0} (slots slots' : List (List E)) (later later' : BTreeMap ℕ (List E)) (now : ℕ) (more : List (Timed E)) → IsWound slots later now → IsWound slots' later' now →
    ((t : ℕ) → t < now → events_at t more ≡ []) →
    ((t : ℕ) → now ≤ t → t < now + 256 → slot_at slots' (t % 256) ≡ slot_at slots (t % 256) ++ events_at t more) →
    ((t : ℕ) → now + 256 ≤ t → later_at later' t ≡ later_at later t ++ events_at t more) →
    SameBag (calendar_bag slots' later' now) (calendar_bag slots later now ++ more)
by_times slots slots' later later' now more w w' over near late = record {
  at_each = λ t. elim (cases_lt t now) [
    | inl h ↦ events_over slots' later' now t (IsLoose-from_wound w') h ∙ sym (events_at-append t (calendar_bag slots later now) more ∙ ap (λ xs. xs ++ events_at t more) (events_over slots later now t (IsLoose-from_wound w) h) ∙ over t h)
    | inr from ↦ elim (cases_lt t (now + 256)) [
      | inl to ↦ events_slot slots' later' now t w' from to ∙ near t from to ∙ sym (events_at-append t (calendar_bag slots later now) more ∙ ap (λ xs. xs ++ events_at t more) (events_slot slots later now t w from to))
      | inr past ↦ events_late slots' later' now t (IsLoose-from_wound w') past ∙ late t past ∙ sym (events_at-append t (calendar_bag slots later now) more ∙ ap (λ xs. xs ++ events_at t more) (events_late slots later now t (IsLoose-from_wound w) past))
    ]
  ];
}

-- one event
abbrev pub one : {E : Type 0} → ℕ → E → List (Timed E)
one time x = record { time = time; event = x } ∷ []

one_here : {E : Type 0} (time t : ℕ) (x : E) → time ≡ t → events_at t (one time x) ≡ x ∷ []
one_here time t x e = events_at-here t (record { time = time; event = x }) [] e

one_apart : {E : Type 0} (time t : ℕ) (x : E) → time ≢ t → events_at t (one time x) ≡ []
one_apart time t x h = events_at-apart t (record { time = time; event = x }) [] h

apart_adds_none : {E : Type 0} (time t : ℕ) (x : E) (xs : List E) → time ≢ t → xs ≡ xs ++ events_at t (one time x)
apart_adds_none time t x xs h = sym (ap (λ ys. xs ++ ys) (one_apart time t x h) ∙ append-nil xs)

-- ---- an event of the window is scheduled
pub wound_near : {E : Type 0} (slots : List (List E)) (later : BTreeMap ℕ (List E)) (now time : ℕ) (x : E) → IsWound slots later now → now ≤ time → time < now + 256 → time < 2 ^ 64 →
    IsWound (slice_set slots (time % 256) (slot_at slots (time % 256) ++ x ∷ [])) later now
wound_near slots later now time x w from to low = record {
  count = length-set slots (time % 256) (slot_at slots (time % 256) ++ x ∷ []) ∙ w.count;
  fits = λ t a b big. slot_at-set_other slots (time % 256) (t % 256) _ (apart_in_window now t time a b from to (λ e. omega arith)) ∙ w.fits t a b big;
  ordered = w.ordered;
  filled = w.filled;
  behind = w.behind;
}

pub bag_near : {E : Type 0} (slots : List (List E)) (later : BTreeMap ℕ (List E)) (now time : ℕ) (x : E) → IsWound slots later now → now ≤ time → time < now + 256 → time < 2 ^ 64 →
    SameBag (calendar_bag (slice_set slots (time % 256) (slot_at slots (time % 256) ++ x ∷ [])) later now) (calendar_bag slots later now ++ one time x)
bag_near slots later now time x w from to low =
    let xs = slot_at slots (time % 256) ++ x ∷ [] in
    by_times slots (slice_set slots (time % 256) xs) later later now (one time x) w (wound_near slots later now time x w from to low)
    (λ t h. one_apart time t x (λ e. omega arith))
    (λ t a b. elim (cases_eq time t) [
      | inl e ↦ slot_at-set_same slots (time % 256) (t % 256) xs w.count (ap (λ k. k % 256) (sym e)) (omega arith) ∙ ap (λ k. slot_at slots (k % 256) ++ x ∷ []) e ∙ ap (λ ys. slot_at slots (t % 256) ++ ys) (sym (one_here time t x e))
      | inr apart ↦ slot_at-set_other slots (time % 256) (t % 256) xs (apart_in_window now t time a b from to (λ e. apart (sym e))) ∙ apart_adds_none time t x (slot_at slots (t % 256)) apart
    ])
    (λ t past. apart_adds_none time t x (later_at later t) (λ e. omega arith))

-- ---- an event of a later time is scheduled
snoc_some : {E : Type 0} (xs : List E) (x : E) → Some (xs ++ x ∷ []) ≡ Some [] → ⊥
snoc_some [] x h = cc
snoc_some (y ∷ ys) x h = cc

pub wound_late : {E : Type 0} (slots : List (List E)) (later later' : BTreeMap ℕ (List E)) (now time : ℕ) (x : E) → IsWound slots later now → now + 256 ≤ time → Postpones later later' time x → IsWound slots later' now
wound_late slots later later' now time x w past p = record {
  count = w.count;
  fits = w.fits;
  ordered = p.ordered;
  filled = λ t h. elim (cases_eq t time) [
    | inl e ↦ snoc_some (later_at later time) x (sym p.here ∙ ap (λ k. get nat_cmp later' k) (sym e) ∙ h)
    | inr apart ↦ w.filled t (sym (p.others t apart) ∙ h)
  ];
  behind = λ t h. p.others t (λ e. omega arith) ∙ w.behind t h;
}

pub bag_late : {E : Type 0} (slots : List (List E)) (later later' : BTreeMap ℕ (List E)) (now time : ℕ) (x : E) → IsWound slots later now → now + 256 ≤ time → Postpones later later' time x →
    SameBag (calendar_bag slots later' now) (calendar_bag slots later now ++ one time x)
bag_late slots later later' now time x w past p =
    by_times slots slots later later' now (one time x) w (wound_late slots later later' now time x w past p)
    (λ t h. one_apart time t x (λ e. omega arith))
    (λ t a b. apart_adds_none time t x (slot_at slots (t % 256)) (λ e. omega arith))
    (λ t far. elim (cases_eq time t) [
      | inl e ↦ ap (λ k. later_at later' k) (sym e) ∙ ap (λ o. unwrap_or o []) p.here ∙ ap (λ k. later_at later k ++ x ∷ []) e ∙ ap (λ ys. later_at later t ++ ys) (sym (one_here time t x e))
      | inr apart ↦ ap (λ o. unwrap_or o []) (p.others t (λ e. apart (sym e))) ∙ apart_adds_none time t x (later_at later t) apart
    ])

-- ---- the time moves on
free_before : {E : Type 0} (slots : List (List E)) (later : BTreeMap ℕ (List E)) (now time t : ℕ) → IsWound slots later now → NoneBefore slots later now time → now ≤ t → t < now + 256 → t < time → slot_at slots (t % 256) ≡ []
free_before slots later now time t w none from to before = sym (events_slot slots later now t w from to) ∙ none t before

-- the slot of a time that has come near is free
free_ahead : {E : Type 0} (slots : List (List E)) (later : BTreeMap ℕ (List E)) (now time t : ℕ) → IsWound slots later now → now ≤ time → NoneBefore slots later now time → now + 256 ≤ t → t < time + 256 → slot_at slots (t % 256) ≡ []
free_ahead slots later now time t w on none past near =
    let back : ℕ = now + (t - now) % 256 in
    let same : back % 256 ≡ t % 256 = omega arith in
    ap (λ k. slot_at slots k) (sym same) ∙ free_before slots later now time back w none (omega arith) (omega arith) (elim (cases_lt time (now + 256)) [ inl h ↦ omega arith | inr h ↦ omega arith ])

nothing_there : {E : Type 0} (o : Option (List E)) → o ≢ Some [] → unwrap_or o [] ≡ [] → o ≡ None
nothing_there None some h = refl
nothing_there (Some xs) some h = absurd (some (ap Some h))

pub loose_on : {E : Type 0} (slots : List (List E)) (later : BTreeMap ℕ (List E)) (now time : ℕ) → IsWound slots later now → now ≤ time → NoneBefore slots later now time → IsLoose slots later time
loose_on slots later now time w on none = record {
  count = w.count;
  fits = λ t from to big. elim (cases_lt t (now + 256)) [ inl h ↦ w.fits t (omega arith) h big | inr past ↦ free_ahead slots later now time t w on none past to ];
  ordered = w.ordered;
  filled = w.filled;
  not_over = λ t before. elim (cases_lt t (now + 256)) [
    | inl h ↦ w.behind t h
    | inr past ↦ nothing_there (get nat_cmp later t) (w.filled t) (sym (events_late slots later now t (IsLoose-from_wound w) past) ∙ none t before)
  ];
  free = λ t from to some. elim (cases_lt t (now + 256)) [ inl h ↦ absurd (some (w.behind t h)) | inr past ↦ free_ahead slots later now time t w on none past to ];
}

pub bag_on : {E : Type 0} (slots : List (List E)) (later : BTreeMap ℕ (List E)) (now time : ℕ) → IsWound slots later now → now ≤ time → NoneBefore slots later now time →
    SameBag (calendar_bag slots later time) (calendar_bag slots later now)
bag_on slots later now time w on none = let l = loose_on slots later now time w on none in record {
  at_each = λ t. elim (cases_lt t time) [
    | inl before ↦ events_over slots later time t l before ∙ sym (none t before)
    | inr from ↦ elim (cases_lt t (time + 256)) [
      | inl to ↦ events_near slots later time t l from to ∙ elim (cases_lt t (now + 256)) [
        | inl h ↦ ap (λ o. slot_at slots (t % 256) ++ unwrap_or o []) (w.behind t h) ∙ append-nil (slot_at slots (t % 256)) ∙ sym (events_slot slots later now t w (omega arith) h)
        | inr past ↦ ap (λ xs. xs ++ later_at later t) (free_ahead slots later now time t w on none past to) ∙ sym (events_late slots later now t (IsLoose-from_wound w) past)
      ]
      | inr past ↦ events_late slots later time t l past ∙ sym (events_late slots later now t (IsLoose-from_wound w) (omega arith))
    ]
  ];
}

-- ---- events leave the map
pub loose_moved : {E : Type 0} (slots : List (List E)) (later later' : BTreeMap ℕ (List E)) (now time : ℕ) (xs : List E) → IsLoose slots later now → now ≤ time → time < now + 256 → time < 2 ^ 64 → get nat_cmp later time ≡ Some xs → Loses later later' time →
    IsLoose (slice_set slots (time % 256) xs) later' now
loose_moved slots later later' now time xs l from to low is p = record {
  count = length-set slots (time % 256) xs ∙ l.count;
  fits = λ t a b big. slot_at-set_other slots (time % 256) (t % 256) xs (apart_in_window now t time a b from to (λ e. omega arith)) ∙ l.fits t a b big;
  ordered = p.ordered;
  filled = λ t h. elim (cases_eq t time) [
    | inl e ↦ let k : None ≡ Some [] = sym p.here ∙ ap (λ k. get nat_cmp later' k) (sym e) ∙ h in cc
    | inr apart ↦ l.filled t (sym (p.others t apart) ∙ h)
  ];
  not_over = λ t before. p.others t (λ e. omega arith) ∙ l.not_over t before;
  free = λ t a b some. elim (cases_eq t time) [
    | inl e ↦ absurd (some (ap (λ k. get nat_cmp later' k) e ∙ p.here))
    | inr apart ↦ slot_at-set_other slots (time % 256) (t % 256) xs (apart_in_window now t time a b from to apart) ∙ l.free t a b (λ none. some (p.others t apart ∙ none))
  ];
}

pub bag_moved : {E : Type 0} (slots : List (List E)) (later later' : BTreeMap ℕ (List E)) (now time : ℕ) (xs : List E) → IsLoose slots later now → now ≤ time → time < now + 256 → time < 2 ^ 64 → get nat_cmp later time ≡ Some xs → Loses later later' time →
    SameBag (calendar_bag (slice_set slots (time % 256) xs) later' now) (calendar_bag slots later now)
bag_moved slots later later' now time xs l from to low is p = let l' = loose_moved slots later later' now time xs l from to low is p in let slots' = slice_set slots (time % 256) xs in record {
  at_each = λ t. elim (cases_lt t now) [
    | inl before ↦ events_over slots' later' now t l' before ∙ sym (events_over slots later now t l before)
    | inr a ↦ elim (cases_lt t (now + 256)) [
      | inl b ↦ events_near slots' later' now t l' a b ∙ elim (cases_eq t time) [
        | inl e ↦
            ap (λ ys. ys ++ later_at later' t) (slot_at-set_same slots (time % 256) (t % 256) xs l.count (ap (λ k. k % 256) e) (omega arith))
            ∙ ap (λ o. xs ++ unwrap_or o []) (ap (λ k. get nat_cmp later' k) e ∙ p.here) ∙ append-nil xs
            ∙ sym (events_near slots later now t l a b ∙ ap (λ ys. ys ++ later_at later t) (l.free t a b (λ none. let k : None ≡ Some xs = sym none ∙ ap (λ k. get nat_cmp later k) e ∙ is in cc)) ∙ ap (λ o. unwrap_or o []) (ap (λ k. get nat_cmp later k) e ∙ is))
        | inr apart ↦
            ap (λ ys. ys ++ later_at later' t) (slot_at-set_other slots (time % 256) (t % 256) xs (apart_in_window now t time a b from to apart))
            ∙ ap (λ o. slot_at slots (t % 256) ++ unwrap_or o []) (p.others t apart) ∙ sym (events_near slots later now t l a b)
      ]
      | inr past ↦ events_late slots' later' now t l' past ∙ ap (λ o. unwrap_or o []) (p.others t (λ e. omega arith)) ∙ sym (events_late slots later now t l past)
    ]
  ];
}

-- ---- the oldest event of the time now is taken
drop_fits : {E : Type 0} (xs : List E) → xs ≡ [] → drop 1 xs ≡ []
drop_fits xs h = ap (drop 1) h

pub wound_taken : {E : Type 0} (slots : List (List E)) (later : BTreeMap ℕ (List E)) (now : ℕ) → IsWound slots later now → IsWound (slice_set slots (now % 256) (drop 1 (slot_at slots (now % 256)))) later now
wound_taken slots later now w = record {
  count = length-set slots (now % 256) (drop 1 (slot_at slots (now % 256))) ∙ w.count;
  fits = λ t a b big. elim (cases_eq t now) [
    | inl e ↦ slot_at-set_same slots (now % 256) (t % 256) _ w.count (ap (λ k. k % 256) e) (omega arith) ∙ drop_fits (slot_at slots (now % 256)) (ap (λ k. slot_at slots (k % 256)) (sym e) ∙ w.fits t a b big)
    | inr apart ↦ slot_at-set_other slots (now % 256) (t % 256) _ (apart_in_window now t now a b (omega arith) (omega arith) apart) ∙ w.fits t a b big
  ];
  ordered = w.ordered;
  filled = w.filled;
  behind = w.behind;
}

pub bag_taken : {E : Type 0} (slots : List (List E)) (later : BTreeMap ℕ (List E)) (now : ℕ) → IsWound slots later now →
    SameBag (calendar_bag (slice_set slots (now % 256) (drop 1 (slot_at slots (now % 256)))) later now) (without_oldest now (calendar_bag slots later now))
bag_taken slots later now w = let w' = wound_taken slots later now w in let bag = calendar_bag slots later now in let slots' = slice_set slots (now % 256) (drop 1 (slot_at slots (now % 256))) in record {
  at_each = λ t. elim (cases_eq now t) [
    | inl e ↦
        subst (λ u. events_at u (calendar_bag slots' later now) ≡ events_at u (without_oldest now bag)) e
        (events_slot slots' later now now w' (omega arith) (omega arith) ∙ slot_at-set_same slots (now % 256) (now % 256) _ w.count refl (omega arith)
        ∙ ap (drop 1) (sym (events_slot slots later now now w (omega arith) (omega arith))) ∙ sym (events_at-without_oldest now bag))
    | inr apart ↦ elim (cases_lt t now) [
      | inl before ↦ events_over slots' later now t (IsLoose-from_wound w') before ∙ sym (events_at-without_other now t bag apart ∙ events_over slots later now t (IsLoose-from_wound w) before)
      | inr a ↦ elim (cases_lt t (now + 256)) [
        | inl b ↦ events_slot slots' later now t w' a b ∙ slot_at-set_other slots (now % 256) (t % 256) _ (apart_in_window now t now a b (omega arith) (omega arith) (λ e. apart (sym e)))
            ∙ sym (events_at-without_other now t bag apart ∙ events_slot slots later now t w a b)
        | inr past ↦ events_late slots' later now t (IsLoose-from_wound w') past ∙ sym (events_at-without_other now t bag apart ∙ events_late slots later now t (IsLoose-from_wound w) past)
      ]
    ]
  ];
}

pub oldest_taken : {E : Type 0} (slots : List (List E)) (later : BTreeMap ℕ (List E)) (now : ℕ) → IsWound slots later now → first_of (slot_at slots (now % 256)) ≡ oldest_at now (calendar_bag slots later now)
oldest_taken slots later now w = ap first_of (sym (events_slot slots later now now w (omega arith) (omega arith))) ∙ sym (oldest_at-first now (calendar_bag slots later now))

-- ---- the next time
round : (now k : ℕ) → (now % 256 + k) % 256 ≡ (now + k) % 256
round now k = omega arith

-- the first busy slot, k times on, is that of the least time
pub next_in_slots : {E : Type 0} (slots : List (List E)) (later : BTreeMap ℕ (List E)) (now k : ℕ) → IsWound slots later now → k < 256 → slot_at slots ((now % 256 + k) % 256) ≢ [] →
    ((j : ℕ) → j < k → slot_at slots ((now % 256 + j) % 256) ≡ []) → least_time (calendar_bag slots later now) ≡ Some (now + k)
next_in_slots slots later now k w low some none =
    least_time-from (Some (now + k)) (calendar_bag slots later now) (record {
      something = λ h. some (ap (λ i. slot_at slots i) (round now k) ∙ sym (events_slot slots later now (now + k) w (omega arith) (omega arith)) ∙ h);
      nothing_before = λ t before. elim (cases_lt t now) [
        | inl over ↦ events_over slots later now t (IsLoose-from_wound w) over
        | inr from ↦ let on : now + (t - now) ≡ t = omega arith in
            events_slot slots later now t w from (omega arith) ∙ ap (λ i. slot_at slots (i % 256)) (sym on) ∙ ap (λ i. slot_at slots i) (sym (round now (t - now))) ∙ none (t - now) (omega arith)
      ];
    })

pub fits_in_slots : {E : Type 0} (slots : List (List E)) (later : BTreeMap ℕ (List E)) (now k : ℕ) → IsWound slots later now → k < 256 → slot_at slots ((now % 256 + k) % 256) ≢ [] → now + k < 2 ^ 64
fits_in_slots slots later now k w low some = elim (cases_lt (now + k) (2 ^ 64)) [ inl h ↦ h | inr big ↦ absurd (some (ap (λ i. slot_at slots i) (round now k) ∙ w.fits (now + k) (omega arith) (omega arith) big)) ]

-- where no slot is busy, the first time of the map is the least
free_slots : {E : Type 0} (slots : List (List E)) (later : BTreeMap ℕ (List E)) (now t : ℕ) → IsWound slots later now → ((j : ℕ) → j < 256 → slot_at slots ((now % 256 + j) % 256) ≡ []) → t < now + 256 → events_at t (calendar_bag slots later now) ≡ []
free_slots slots later now t w none to = elim (cases_lt t now) [
  | inl over ↦ events_over slots later now t (IsLoose-from_wound w) over
  | inr from ↦ let on : now + (t - now) ≡ t = omega arith in
      events_slot slots later now t w from to ∙ ap (λ i. slot_at slots (i % 256)) (sym on) ∙ ap (λ i. slot_at slots i) (sym (round now (t - now))) ∙ none (t - now) (omega arith)
]

pub next_in_map : {E : Type 0} (slots : List (List E)) (later : BTreeMap ℕ (List E)) (now time : ℕ) → IsWound slots later now → ((j : ℕ) → j < 256 → slot_at slots ((now % 256 + j) % 256) ≡ []) →
    get nat_cmp later time ≢ None → ((t : ℕ) → t < time → get nat_cmp later t ≡ None) → least_time (calendar_bag slots later now) ≡ Some time
next_in_map slots later now time w none some first =
    let far : now + 256 ≤ time = elim (cases_lt time (now + 256)) [ inl h ↦ absurd (some (w.behind time h)) | inr h ↦ h ] in
    least_time-from (Some time) (calendar_bag slots later now) (record {
      something = λ h. some (nothing_there (get nat_cmp later time) (w.filled time) (sym (events_late slots later now time (IsLoose-from_wound w) far) ∙ h));
      nothing_before = λ t before. elim (cases_lt t (now + 256)) [
        | inl near ↦ free_slots slots later now t w none near
        | inr past ↦ events_late slots later now t (IsLoose-from_wound w) past ∙ ap (λ o. unwrap_or o []) (first t before)
      ];
    })

pub next_nowhere : {E : Type 0} (slots : List (List E)) (later : BTreeMap ℕ (List E)) (now : ℕ) → IsWound slots later now → ((j : ℕ) → j < 256 → slot_at slots ((now % 256 + j) % 256) ≡ []) →
    ((t : ℕ) → get nat_cmp later t ≡ None) → least_time (calendar_bag slots later now) ≡ None
next_nowhere slots later now w none empty =
    least_time-from None (calendar_bag slots later now) (record {
      nothing_at = λ t. elim (cases_lt t (now + 256)) [
        | inl near ↦ free_slots slots later now t w none near
        | inr past ↦ events_late slots later now t (IsLoose-from_wound w) past ∙ ap (λ o. unwrap_or o []) (empty t)
      ];
    })

-- ---- a new calendar
pub wound_empty : {E : Type 0} (slots : List (List E)) (later : BTreeMap ℕ (List E)) → AllFree slots → later.entries ≡ [] → IsOrdered nat_cmp later → IsWound slots later 0
wound_empty slots later free empty ordered =
    let gone : (t : ℕ) → get nat_cmp later t ≡ None = λ t. ap (lookup (is_at (nat_cmp t))) empty in
    record {
      count = free.count;
      fits = λ t a b big. free.free (t % 256);
      ordered = ordered;
      filled = λ t h. let k : None ≡ Some [] = sym (gone t) ∙ h in cc;
      behind = λ t h. gone t;
    }

turn_empty : {E : Type 0} (slots : List (List E)) (lo n : ℕ) → ((i : ℕ) → slot_at slots i ≡ []) → turn_bag slots lo n ≡ []
unfolding turn_bag
turn_empty slots lo zero free = refl
turn_empty slots lo (suc n) free = ap (λ xs. due_at lo xs ++ turn_bag slots (suc lo) n) (free (lo % 256)) ∙ turn_empty slots (suc lo) n free

pub bag_empty : {E : Type 0} (slots : List (List E)) (later : BTreeMap ℕ (List E)) → AllFree slots → later.entries ≡ [] → calendar_bag slots later 0 ≡ []
unfolding calendar_bag
bag_empty slots later free empty = ap (λ xs. xs ++ later_bag later.entries) (turn_empty slots 0 256 free.free) ∙ ap later_bag empty

-- ---- the map stays as it was
pub wound_unchanged : {E : Type 0} (slots : List (List E)) (later later' : BTreeMap ℕ (List E)) (now : ℕ) → later'.entries ≡ later.entries → IsWound slots later now → IsWound slots later' now
wound_unchanged slots later later' now e w = record {
  count = w.count;
  fits = w.fits;
  ordered = subst (λ es. IsStrictlySortedBy nat_cmp (keys_of es)) (sym e) w.ordered;
  filled = λ t h. w.filled t (sym (ap (lookup (is_at (nat_cmp t))) e) ∙ h);
  behind = λ t h. ap (lookup (is_at (nat_cmp t))) e ∙ w.behind t h;
}

pub bag_unchanged : {E : Type 0} (slots : List (List E)) (later later' : BTreeMap ℕ (List E)) (now : ℕ) → later'.entries ≡ later.entries → calendar_bag slots later' now ≡ calendar_bag slots later now
unfolding calendar_bag
bag_unchanged slots later later' now e = ap (λ es. turn_bag slots now 256 ++ later_bag es) e

-- what the first of the later times says, where no slot is busy
pub next_from_map : {E : Type 0} (slots : List (List E)) (later : BTreeMap ℕ (List E)) (now : ℕ) → IsWound slots later now → ((j : ℕ) → j < 256 → slot_at slots ((now % 256 + j) % 256) ≡ []) → (first : Option ℕ) →
    MatchOption first ((t : ℕ) → get nat_cmp later t ≡ None) (λ time. (get nat_cmp later time ≢ None) × ((t : ℕ) → t < time → get nat_cmp later t ≡ None)) → first ≡ least_time (calendar_bag slots later now)
next_from_map slots later now w none None h = sym (next_nowhere slots later now w none h)
next_from_map slots later now w none (Some time) h = sym (next_in_map slots later now time w none h.0 h.1)

pub calendar_bag-from : {E : Type 0} (slots : List (List E)) (later : BTreeMap ℕ (List E)) (now : ℕ) → IsWound slots later now → IsFrom now (calendar_bag slots later now)
calendar_bag-from slots later now w = record { none_before = λ t h. events_over slots later now t (IsLoose-from_wound w) h }
