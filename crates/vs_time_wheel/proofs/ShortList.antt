-- A short list of events in front of a calendar.
use Rattle.std.proofs.Common.{◌≡◌, ℕ, zero, suc, ◌-◌, ◌<◌, ◌≤◌, ◌≢◌, List, [], ◌∷◌, ◌++◌, Option, None, Some, length, take, drop, reverse, get_or, min, refl, sym, ap, ◌∙◌, subst, inl, inr, arith, append-nil, append_assoc}
use Rattle.std.proofs.Math.Seq.{take-suc, take-length, drop-cons}
use Rattle.std.proofs.lemmas.Bool.{cases_lt, cases_eq}
use Rattle.std.proofs.lemmas.List.{reverse-append, take-append-drop}
use Rattle.std.proofs.lemmas.List.Edits.{swap_is}
use Rattle.std.proofs.lemmas.Grind.{common_steps}
use Rattle.std.proofs.lemmas.Option.{get_or_from_slice_get}
use Rattle.std.specs.List.{swap, slice_get}
use Rattle.std.specs.Option.{ForSome, option_to_list}
use Rattle.vs_time_wheel.specs.declared.timing.Timed.{Timed}
use Rattle.vs_time_wheel.specs.Bag.{events_at, SameBag, IsFrom, least_time, oldest_at, without_oldest, sooner}
use Rattle.vs_time_wheel.specs.Rotation.{first_of}
use Rattle.vs_time_wheel.specs.ShortList.{AreInOrder, IsNextDue, next_in_order}
use Rattle.vs_time_wheel.proofs.Bags.{events_at-append, events_at-here, events_at-apart, events_at-without_oldest, events_at-without_other, oldest_at-first, least_time-same, SameBag-trans, SameBag-append, SameBag-from_eq}
use Rattle.vs_time_wheel.proofs.Fronts.{SameBag-behind, newest_of, at_most_of, least_time-snoc}

-- ---- no event is due after a time
pub record IsUpTo {E : Type 0} (time : ℕ) (bag : List (Timed E)) : Type 0 where
  pub none_after : (t : ℕ) → time < t → events_at t bag ≡ []

pub IsUpTo-cons : {E : Type 0} (time : ℕ) (e : Timed E) (es : List (Timed E)) → e.time ≤ time → IsUpTo time es → IsUpTo time (e ∷ es)
IsUpTo-cons time e es on up = record { none_after = λ t after. events_at-apart t e es (λ h. omega arith) ∙ up.none_after t after }

none_behind : {E : Type 0} (t : ℕ) (e : Timed E) (es : List (Timed E)) → events_at t (e ∷ es) ≡ [] → events_at t es ≡ []
none_behind t e es none = elim (cases_eq e.time t) [
  | inl h ↦ absurd (let k : e.event ∷ events_at t es ≡ [] = sym (events_at-here t e es h) ∙ none in cc)
  | inr h ↦ sym (events_at-apart t e es h) ∙ none
]

none_here : {E : Type 0} (t : ℕ) (e : Timed E) (es : List (Timed E)) → events_at t (e ∷ es) ≡ [] → e.time ≢ t
none_here t e es none h = let k : e.event ∷ events_at t es ≡ [] = sym (events_at-here t e es h) ∙ none in cc

up_head : {E : Type 0} (time : ℕ) (e : Timed E) (es : List (Timed E)) → IsUpTo time (e ∷ es) → e.time ≤ time
up_head time e es up = elim (cases_lt time e.time) [ inl h ↦ absurd (none_here e.time e es (up.none_after e.time h) refl) | inr h ↦ h ]

up_rest : {E : Type 0} (time : ℕ) (e : Timed E) (es : List (Timed E)) → IsUpTo time (e ∷ es) → IsUpTo time es
up_rest time e es up = record { none_after = λ t after. none_behind t e es (up.none_after t after) }

-- ---- the other way round
reverse-cons : {X : Type 0} (x : X) (xs : List X) → reverse (x ∷ xs) ≡ reverse xs ++ x ∷ []
reverse-cons x xs = reverse-append (x ∷ []) xs

none-reverse : {E : Type 0} (t : ℕ) (l : List (Timed E)) → events_at t l ≡ [] → events_at t (reverse l) ≡ []
none-reverse t [] none = refl
none-reverse t (e ∷ es) none =
    ap (events_at t) (reverse-cons e es) ∙ events_at-append t (reverse es) (e ∷ [])
    ∙ ap (λ l. l ++ events_at t (e ∷ [])) (none-reverse t es (none_behind t e es none)) ∙ events_at-apart t e [] (none_here t e es none)

IsUpTo-reverse : {E : Type 0} (time : ℕ) (l : List (Timed E)) → IsUpTo time l → IsUpTo time (reverse l)
IsUpTo-reverse time l up = record { none_after = λ t after. none-reverse t l (up.none_after t after) }

-- ---- events in order
in_order-behind : {E : Type 0} (b a : List (Timed E)) → AreInOrder (b ++ a) → AreInOrder a
in_order-behind [] a h = h
in_order-behind (e ∷ es) a h = in_order-behind es a h.1

from_between : {E : Type 0} (time : ℕ) (b a : List (Timed E)) (x : Timed E) → IsFrom time (b ++ a) → time ≤ x.time → IsFrom time (b ++ x ∷ a)
from_between time b a x from on = record {
  none_before = λ t before.
      events_at-append t b (x ∷ a) ∙ ap (λ l. events_at t b ++ l) (events_at-apart t x a (λ h. omega arith)) ∙ sym (events_at-append t b a) ∙ from.none_before t before;
}

in_order-between : {E : Type 0} (b a : List (Timed E)) (x : Timed E) → AreInOrder (b ++ a) → IsUpTo x.time b → IsFrom x.time a → AreInOrder (b ++ x ∷ a)
in_order-between [] a x h up from = (from, h)
in_order-between (e ∷ es) a x h up from = (from_between e.time es a x h.0 (up_head x.time e es up), in_order-between es a x h.1 (up_rest x.time e es up) from)

-- an event behind those up to its time and before the later ones is the newest
newest_between : {E : Type 0} (b a : List (Timed E)) (x : Timed E) → events_at x.time a ≡ [] → SameBag (b ++ x ∷ a) ((b ++ a) ++ x ∷ [])
newest_between b a x none = SameBag-trans (SameBag-behind b (x ∷ a) (a ++ x ∷ []) (newest_of x.time x.event a none)) (SameBag-from_eq (sym (append_assoc b a (x ∷ []))))

-- ---- an event moves down a list, the soonest last, to its place
swap_cons : {X : Type 0} (y : X) (zs : List X) (i j : ℕ) → i < length zs → j < length zs → swap (y ∷ zs) (suc i) (suc j) ≡ y ∷ swap zs i j
swap_cons y zs i j h k = ap (λ l. y ∷ l) (swap_is zs i j y h k)

length_with : {X : Type 0} (xs : List X) (p : ℕ) (x : X) → p ≤ length xs → length (take p xs ++ x ∷ drop p xs) ≡ suc (length xs)
length_with xs p x on = grind (arith, common_steps)

swap_down : {X : Type 0} (xs : List X) (q : ℕ) (x : X) → q < length xs → swap (take (suc q) xs ++ x ∷ drop (suc q) xs) q (suc q) ≡ take q xs ++ x ∷ drop q xs
swap_down [] q x within = absurd (omega arith)
swap_down (y ∷ ys) zero x within = refl
swap_down (y ∷ ys) (suc q) x within =
    let below : q < length ys = omega arith in
    let long : length (take (suc q) ys ++ x ∷ drop (suc q) ys) ≡ suc (length ys) = length_with ys (suc q) x (omega arith) in
    swap_cons y (take (suc q) ys ++ x ∷ drop (suc q) ys) q (suc q) (omega (arith, long)) (omega (arith, long)) ∙ ap (λ l. y ∷ l) (swap_down ys q x below)

pub moved_down : {X : Type 0} (xs now : List X) (p q : ℕ) (x : X) → p ≡ suc q → p ≤ length xs → now ≡ take p xs ++ x ∷ drop p xs → swap now q p ≡ take q xs ++ x ∷ drop q xs
moved_down xs now p q x next within same = rw same (rw next (swap_down xs q x (omega arith)))

-- the one above its place is one of the old ones
pub above : {X : Type 0} (xs now : List X) (p q : ℕ) (x d : X) → p ≡ suc q → p ≤ length xs → now ≡ take p xs ++ x ∷ drop p xs → get_or now q d ≡ get_or xs q d
above xs now p q x d next within same = rw same (grind (arith, common_steps))

pub passed_more : {E : Type 0} (xs : List (Timed E)) (time p q : ℕ) (d : Timed E) → p ≡ suc q → p ≤ length xs → IsUpTo time (drop p xs) → (get_or xs q d).time ≤ time → IsUpTo time (drop q xs)
passed_more xs time p q d next within up on =
    rw (drop-cons xs q d (omega arith)) (IsUpTo-cons time (get_or xs q d) (drop (suc q) xs) on (rw (← next) up))

-- ---- an event at its place
parts : {X : Type 0} (xs : List X) (p : ℕ) → reverse xs ≡ reverse (drop p xs) ++ reverse (take p xs)
parts xs p = ap reverse (sym (take-append-drop p xs)) ∙ reverse-append (take p xs) (drop p xs)

parts_with : {X : Type 0} (xs : List X) (p : ℕ) (x : X) → reverse (take p xs ++ x ∷ drop p xs) ≡ reverse (drop p xs) ++ x ∷ reverse (take p xs)
parts_with xs p x =
    reverse-append (take p xs) (x ∷ drop p xs) ∙ ap (λ l. l ++ reverse (take p xs)) (reverse-cons x (drop p xs)) ∙ append_assoc (reverse (drop p xs)) (x ∷ []) (reverse (take p xs))

later_head : {E : Type 0} (time : ℕ) (e : Timed E) (es : List (Timed E)) → AreInOrder (e ∷ es) → time < e.time → IsFrom (suc time) (e ∷ es)
later_head time e es h after = record { none_before = λ t before. events_at-apart t e es (λ k. omega arith) ∙ h.0.none_before t (omega arith) }

-- the later ones, where the one above is later
later_above : {E : Type 0} (xs : List (Timed E)) (time q : ℕ) (d : Timed E) → q < length xs → AreInOrder (reverse (take (suc q) xs)) → time < (get_or xs q d).time → IsFrom (suc time) (reverse (take (suc q) xs))
later_above xs time q d within h after =
    let shape : reverse (take (suc q) xs) ≡ get_or xs q d ∷ reverse (take q xs) = ap reverse (take-suc xs q d within) ∙ reverse-append (take q xs) (get_or xs q d ∷ []) in
    rw shape (later_head time (get_or xs q d) (reverse (take q xs)) (rw shape at h) after)

-- what is found of the one above the place of an event: there is none, or it is due later
pub record IsBelow {E : Type 0} (time : ℕ) (xs : List (Timed E)) (p : ℕ) : Type 0 where
  pub later : IsFrom (suc time) (reverse (take p xs))

pub below_none : {E : Type 0} (time : ℕ) (xs : List (Timed E)) (p : ℕ) → p ≡ 0 → IsBelow time xs p
below_none time xs p none = record { later = rw none (record { none_before = λ t before. refl }) }

pub below_later : {E : Type 0} (time : ℕ) (xs : List (Timed E)) (p q : ℕ) (d : Timed E) → p ≡ suc q → p ≤ length xs → AreInOrder (reverse xs) → time < (get_or xs q d).time → IsBelow time xs p
below_later time xs p q d next within h after =
    record { later = rw next (later_above xs time q d (omega arith) (in_order-behind (reverse (drop (suc q) xs)) (reverse (take (suc q) xs)) (rw (parts xs (suc q)) at h)) after) }

pub in_order_at : {E : Type 0} (xs now : List (Timed E)) (p : ℕ) (x : Timed E) → now ≡ take p xs ++ x ∷ drop p xs → AreInOrder (reverse xs) → IsUpTo x.time (drop p xs) → IsBelow x.time xs p → AreInOrder (reverse now)
in_order_at xs now p x same h up below =
    rw (ap reverse same ∙ parts_with xs p x)
    (in_order-between (reverse (drop p xs)) (reverse (take p xs)) x (rw (parts xs p) at h) (IsUpTo-reverse x.time (drop p xs) up)
    (record { none_before = λ t before. below.later.none_before t (omega arith) }))

pub newest_at : {E : Type 0} (xs now : List (Timed E)) (p : ℕ) (x : Timed E) → now ≡ take p xs ++ x ∷ drop p xs → IsBelow x.time xs p → SameBag (reverse now) (reverse xs ++ x ∷ [])
newest_at xs now p x same below =
    rw (ap reverse same ∙ parts_with xs p x) (rw (parts xs p)
    (newest_between (reverse (drop p xs)) (reverse (take p xs)) x (below.later.none_before x.time (omega arith))))

-- ---- the list and the calendar
pub listed_added : {E : Type 0} (l' l b : List (Timed E)) (x : Timed E) → SameBag l' (l ++ x ∷ []) → events_at x.time b ≡ [] → SameBag (l' ++ b) ((l ++ b) ++ x ∷ [])
listed_added l' l b x s none =
    SameBag-trans (SameBag-append l' (l ++ x ∷ []) b s)
    (SameBag-trans (SameBag-from_eq (append_assoc l (x ∷ []) b)) (SameBag-trans (SameBag-behind l (x ∷ b) (b ++ x ∷ []) (newest_of x.time x.event b none)) (SameBag-from_eq (sym (append_assoc l b (x ∷ []))))))

pub late_added : {E : Type 0} (l b' b : List (Timed E)) (x : Timed E) → SameBag b' (b ++ x ∷ []) → SameBag (l ++ b') ((l ++ b) ++ x ∷ [])
late_added l b' b x s = SameBag-trans (SameBag-behind l b' (b ++ x ∷ []) s) (SameBag-from_eq (sym (append_assoc l b (x ∷ []))))

-- the soonest of the list and those of the calendar have the least time
sooner_twice : (t u : ℕ) (o : Option ℕ) → t ≤ u → sooner t (sooner u o) ≡ sooner t o
sooner_twice t u None on = ap Some (let e : min t u ≡ t = omega arith in e)
sooner_twice t u (Some v) on = ap Some (let e : min t (min u v) ≡ min t v = omega arith in e)

from_head : {E : Type 0} (t : ℕ) (e : Timed E) (es : List (Timed E)) → IsFrom t (e ∷ es) → t ≤ e.time
from_head t e es from = elim (cases_lt e.time t) [ inl h ↦ absurd (none_here e.time e es (from.none_before e.time h) refl) | inr h ↦ h ]

from_rest : {E : Type 0} (t : ℕ) (e : Timed E) (es : List (Timed E)) → IsFrom t (e ∷ es) → IsFrom t es
from_rest t e es from = record { none_before = λ u before. none_behind u e es (from.none_before u before) }

sooner_over : {E : Type 0} (t : ℕ) (es b : List (Timed E)) → IsFrom t es → sooner t (least_time (es ++ b)) ≡ sooner t (least_time b)
sooner_over t [] b from = refl
sooner_over t (e ∷ es) b from = sooner_twice t e.time (least_time (es ++ b)) (from_head t e es from) ∙ sooner_over t es b (from_rest t e es from)

next_listed : {E : Type 0} (e : Timed E) (es b : List (Timed E)) → AreInOrder (e ∷ es) → sooner e.time (least_time b) ≡ least_time ((e ∷ es) ++ b)
next_listed e es b h = sym (sooner_over e.time es b h.0)

pub next_of_both : {E : Type 0} (l b : List (Timed E)) (least : Option ℕ) → AreInOrder l → least ≡ least_time b → next_in_order l least ≡ least_time (l ++ b)
next_of_both [] b least h e = e
next_of_both (x ∷ xs) b least h e = ap (sooner x.time) e ∙ next_listed x xs b h

-- ---- where the soonest of the list isn't due
pub at_most_late : {E : Type 0} (time : ℕ) (l b : List (Timed E)) → ForSome (least_time (l ++ b)) (λ next. time ≤ next) → ForSome (least_time b) (λ next. time ≤ next)
at_most_late time [] b h = h
at_most_late time (e ∷ es) b h = at_most_late time es b (at_most_of e.time time (least_time (es ++ b)) h)

at_most_head : (t time : ℕ) (o : Option ℕ) → ForSome (sooner t o) (λ next. time ≤ next) → time ≤ t
at_most_head t time None h = h t refl
at_most_head t time (Some u) h = let m : time ≤ min t u = h (min t u) refl in omega arith

pub none_listed : {E : Type 0} (time : ℕ) (l b : List (Timed E)) → AreInOrder l → (IsNextDue time l → ⊥) → ForSome (least_time (l ++ b)) (λ next. time ≤ next) → events_at time l ≡ []
none_listed time [] b h apart on = refl
none_listed time (e ∷ es) b h apart on =
    let low : time ≤ e.time = at_most_head e.time time (least_time (es ++ b)) on in
    let other : e.time ≢ time = apart in
    events_at-apart time e es apart ∙ h.0.none_before time (omega arith)

pub oldest_at-late : {E : Type 0} (time : ℕ) (l b : List (Timed E)) → events_at time l ≡ [] → oldest_at time b ≡ oldest_at time (l ++ b)
oldest_at-late time l b none =
    oldest_at-first time b ∙ ap first_of (sym (events_at-append time l b ∙ ap (λ xs. xs ++ events_at time b) none)) ∙ sym (oldest_at-first time (l ++ b))

pub rest_late : {E : Type 0} (time : ℕ) (l b' b : List (Timed E)) → events_at time l ≡ [] → SameBag b' (without_oldest time b) → SameBag (l ++ b') (without_oldest time (l ++ b))
rest_late time l b' b none s = record {
  at_each = λ t. elim (cases_eq time t) [
    | inl here ↦
        let bare : events_at t l ≡ [] = subst (λ u. events_at u l ≡ []) here none in
        let left : events_at t (l ++ b') ≡ events_at t b' = events_at-append t l b' ∙ ap (λ xs. xs ++ events_at t b') bare in
        let right : events_at t (l ++ b) ≡ events_at t b = events_at-append t l b ∙ ap (λ xs. xs ++ events_at t b) bare in
        left ∙ s.at_each t ∙ subst (λ u. events_at u (without_oldest time b) ≡ events_at u (without_oldest time (l ++ b))) here
        (events_at-without_oldest time b ∙ ap (drop 1) (subst (λ u. events_at u b ≡ events_at u (l ++ b)) (sym here) (sym right)) ∙ sym (events_at-without_oldest time (l ++ b)))
    | inr apart ↦
        events_at-append t l b' ∙ ap (λ xs. events_at t l ++ xs) (s.at_each t ∙ events_at-without_other time t b apart)
        ∙ sym (events_at-append t l b) ∙ sym (events_at-without_other time t (l ++ b) apart)
  ];
}

-- the last of a list is the first the other way round
last_first : {X : Type 0} (l : List X) (x : X) → slice_get l (length l - 1) ≡ Some x → reverse l ≡ x ∷ reverse (take (length l - 1) l)
last_first [] x found = cc
last_first (e ∷ es) x found =
    let long : suc (length (e ∷ es) - 1) ≡ length (e ∷ es) = omega arith in
    let here : get_or (e ∷ es) (length (e ∷ es) - 1) x ≡ x = get_or_from_slice_get (e ∷ es) (length (e ∷ es) - 1) x x found in
    let shape : e ∷ es ≡ take (length (e ∷ es) - 1) (e ∷ es) ++ x ∷ [] =
    sym (take-length (e ∷ es)) ∙ ap (λ n. take n (e ∷ es)) (sym long) ∙ take-suc (e ∷ es) (length (e ∷ es) - 1) x (omega (arith, long)) ∙ ap (λ y. take (length (e ∷ es) - 1) (e ∷ es) ++ y ∷ []) here in
    ap reverse shape ∙ reverse-append (take (length (e ∷ es) - 1) (e ∷ es)) (x ∷ [])

pub next_of_list : {E : Type 0} (l : List (Timed E)) (least : Option ℕ) (x : Timed E) → slice_get l (length l - 1) ≡ Some x → sooner x.time least ≡ next_in_order (reverse l) least
next_of_list l least x found = rw (last_first l x found) refl

-- ---- one more, and one less
pub least_more : {E : Type 0} (a b : List (Timed E)) (time : ℕ) (x : E) (next : Option ℕ) → next ≡ least_time b → SameBag a (b ++ record { time = time; event = x } ∷ []) → sooner time next ≡ least_time a
least_more a b time x next e s = ap (sooner time) e ∙ sym (least_time-snoc b time x) ∙ sym (least_time-same a (b ++ record { time = time; event = x } ∷ []) s)

pub in_order_popped : {E : Type 0} (l l' : List (Timed E)) (o : Option (Timed E)) → l ≡ l' ++ option_to_list o → AreInOrder (reverse l) → AreInOrder (reverse l')
in_order_popped l l' None e h = rw (e ∙ append-nil l') at h
in_order_popped l l' (Some x) e h = (rw (ap reverse e ∙ reverse-append l' (x ∷ [])) at h).1
