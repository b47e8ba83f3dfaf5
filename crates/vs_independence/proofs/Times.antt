-- Time goes on: a delay ends later than now, and so does the next slot begin.
use Rattle.std.proofs.Common.{not, ◌&&◌, min, slice_get, filter, eq-eqb, ◌≡◌, ℕ, zero, suc, ◌+◌, ◌<◌, ◌≤◌, ◌==◌, ◌⊎◌, Bool, true, false, Option, Some, None, List, [], ◌∷◌, map, get_or, ltb, leb, refl, sym, ◌∙◌, ap, subst, inl, inr, arith, lt-ltb, le-leb, leb-true, ltb-true}
use Rattle.std.specs.List.{list_all}
use Rattle.std.proofs.lemmas.Bool.{cond_both, cases_Bool, cases_lt, eqb-false, and_parts, and_from, or_left, false≢true}
use Rattle.std.proofs.lemmas.List.Folds.{list_all-map}
use Rattle.vs_design.specs.declared.design.Process.{Process}
use Rattle.vs_design.specs.Parts.{Parts}
use Rattle.vs_design.specs.Writes.{Write, names}
use Rattle.vs_process.specs.declared.gait.Gait.{Gait}
use Rattle.vs_process.specs.declared.gait.Gait.TheVariants.{Woken, Fresh}
use Rattle.vs_process.specs.Places.{Todo, Place, going, sleeping, inactive, waiting, ended, active_at, stepped_gait, start_place, flat}
use Rattle.vs_process.specs.Steps.{Next, on, after, wait, step}
use Rattle.vs_process.specs.States.{State, Update, place_after_step, paused, triggered, woken_at}
use Rattle.vs_process.specs.Executions.{earlier, next_wake, next_update, next_time, ends, after_slot, places_at, time_at}
use Rattle.vs_process.proofs.ProcessLists.{list_all_like}
use Rattle.vs_process.specs.Threads.{Thread, Fired, found, IsThread, turn_at, turn, iterate, opening}
use Rattle.vs_process.proofs.ThreadStores.{names_some, by, filter_hit, filter_miss}
use Rattle.vs_independence.proofs.Running.{is_waiting}

-- a delay ends later than this time
abbrev pub is_later : ℕ → Place → Bool
is_later time (sleeping due todo) = ltb time due
is_later time (going gait todo) = true
is_later time (inactive todo) = true
is_later time (waiting terms todo) = true
is_later time ended = true

later_active : (time : ℕ) (gait : Gait) (todo : Todo) → is_later time (active_at gait todo) ≡ true
later_active time gait [] = refl
later_active time gait (i ∷ rest) = refl

later_paused : (time ticks : ℕ) (todo : Todo) → is_later time (paused time ticks todo) ≡ true
later_paused time ticks todo =
    cond_both (ticks == 0) (inactive todo) (sleeping (time + ticks) todo) (λ p. is_later time p ≡ true) (λ e. refl)
    (λ e. let ne : ticks ≡ 0 → ⊥ = eqb-false ticks 0 e in lt-ltb time (time + ticks) (omega (arith, ne)))

later_behind : (time : ℕ) (gait : Gait) (todo : Todo) (next : Next) → is_later time (place_after_step (going gait todo) time next) ≡ true
later_behind time gait todo (on rest) = later_active time (stepped_gait gait) rest
later_behind time gait todo (after n ticks rest) = later_paused time ticks rest
later_behind time gait todo (wait n terms rest) = refl

later_turn : (time i : ℕ) (p : Place) (th : Thread) → is_later time th.place ≡ true → is_later time (turn_at time i p th).place ≡ true
later_turn time i (going gait todo) th h = later_behind time gait todo (step todo th.view time).next
later_turn time i (inactive todo) th h = later_active time Woken todo
later_turn time i (sleeping due todo) th h = h
later_turn time i (waiting terms todo) th h = h
later_turn time i ended th h = h

later_iterate : (time i n : ℕ) (o : Thread) → is_later time o.place ≡ true → is_later time (iterate n (turn time i) o).place ≡ true
later_iterate time i zero o h = h
later_iterate time i (suc n) o h =
    let th = iterate n (turn time i) o in
    later_turn time i th.place th (later_iterate time i n o h)

later_triggered : (time : ℕ) (p : Place) → is_later time p ≡ true → is_later time (triggered p) ≡ true
later_triggered time (waiting terms todo) h = later_active time Woken todo
later_triggered time (going gait todo) h = h
later_triggered time (sleeping due todo) h = h
later_triggered time (inactive todo) h = h
later_triggered time ended h = h

later_opening : (blocks : ℕ → Bool) (b : State) (i : ℕ) (o : Option Fired) → is_later b.time (found blocks b i) ≡ true → is_later b.time (opening blocks b i o).place ≡ true
later_opening blocks b i None h = h
later_opening blocks b i (Some f) h = later_triggered b.time (found blocks b i) h

pub all_from_get : {A : Type 0} (p : A → Bool) (xs : List A) (x : A) → ((i : ℕ) → p (get_or xs i x) ≡ true) → list_all p xs ≡ true
all_from_get p [] x h = refl
all_from_get p (y ∷ xs) x h = and_from (p y) (list_all p xs) (h 0) (all_from_get p xs x (λ i. h (suc i)))

pub get_from_all : {A : Type 0} (p : A → Bool) (xs : List A) (x : A) → p x ≡ true → list_all p xs ≡ true → (i : ℕ) → p (get_or xs i x) ≡ true
get_from_all p [] x h g i = h
get_from_all p (y ∷ xs) x h g zero = (and_parts (p y) (list_all p xs) g).0
get_from_all p (y ∷ xs) x h g (suc i) = get_from_all p xs x h (and_parts (p y) (list_all p xs) g).1 i

-- a thread of a slot in which all delays end later
pub later_thread : (d : Parts) (blocks : ℕ → Bool) (b : State) (i : ℕ) (th : Thread) → list_all (is_later b.time) b.places ≡ true → IsThread d blocks b i th → is_later b.time th.place ≡ true
later_thread d blocks b i th h is =
    ap (λ t. is_later b.time t.place) (sym is.is)
    ∙ later_iterate b.time i is.count (opening blocks b i is.input) (later_opening blocks b i is.input (cond_both (blocks i) ended (get_or b.places i ended) (λ p. is_later b.time p ≡ true) (λ e. refl) (λ e. get_from_all (is_later b.time) b.places ended refl h i)))

pub later_start : (ps : List Process) (time : ℕ) → list_all (is_later time) (map (λ (p : Process). start_place p.body) ps) ≡ true
later_start [] time = refl
later_start (p ∷ ps) time = and_from (is_later time (start_place p.body)) _ (later_active time Fresh (flat p.body)) (later_start ps time)

abbrev Above : ℕ → Option ℕ → Type 0
Above low None = Unit {0}
Above low (Some t) = low < t

abbrev pub AtMost : ℕ → Option ℕ → Type 0
AtMost t None = Unit {0}
AtMost t (Some u) = t ≤ u

abbrev pub is_after : ℕ → Place → Bool
is_after t (sleeping due todo) = leb t due
is_after t (going gait todo) = true
is_after t (inactive todo) = true
is_after t (waiting terms todo) = true
is_after t ended = true

above_earlier : (low : ℕ) (best : Option ℕ) (due : ℕ) → Above low best → low < due → Above low (earlier best due)
above_earlier low None due h lt = lt
above_earlier low (Some u) due h lt = omega (arith, h, lt)

most_earlier : (t : ℕ) (best : Option ℕ) (due : ℕ) → AtMost t (earlier best due) → AtMost t best × (t ≤ due)
most_earlier t None due h = (tt, h)
most_earlier t (Some u) due h = (omega (arith, h), omega (arith, h))

above_some : (low : ℕ) (o : Option ℕ) (t : ℕ) → Above low o → o ≡ Some t → low < t
above_some low o t h e = subst (Above low) e h

most_some : (o : Option ℕ) (t : ℕ) → o ≡ Some t → AtMost t o
most_some o t e = let here : t ≤ t = omega arith in subst (AtMost t) (sym e) here

above_wake : (low : ℕ) (best : Option ℕ) (places : List Place) → Above low best → list_all (is_later low) places ≡ true → Above low (next_wake best places)
above_wake low best [] a h = a
above_wake low best (sleeping due todo ∷ places) a h =
    let parts = and_parts (ltb low due) (list_all (is_later low) places) h in
    above_wake low (earlier best due) places (above_earlier low best due a (ltb-true low due parts.0)) parts.1
above_wake low best (going gait todo ∷ places) a h = above_wake low best places a h
above_wake low best (inactive todo ∷ places) a h = above_wake low best places a h
above_wake low best (waiting terms todo ∷ places) a h = above_wake low best places a h
above_wake low best (ended ∷ places) a h = above_wake low best places a h

-- an update that is due later
abbrev pub is_future : ℕ → Update → Bool
is_future time u = not u.active && ltb time u.due && names_some u.what

future_due : (time : ℕ) (u : Update) → is_future time u ≡ true → time < u.due
future_due time u h = ltb-true time u.due (and_parts (not u.active) (ltb time u.due) (and_parts (not u.active && ltb time u.due) (names_some u.what) h).0).1

above_update : (low : ℕ) (best : Option ℕ) (us : List Update) → Above low best → list_all (is_future low) us ≡ true → Above low (next_update best us)
above_update low best [] a h = a
above_update low best (u ∷ us) a h =
    let parts = and_parts (is_future low u) (list_all (is_future low) us) h in
    above_update low (earlier best u.due) us (above_earlier low best u.due a (future_due low u parts.0)) parts.1

wake_least : (best : Option ℕ) (places : List Place) (t : ℕ) → next_wake best places ≡ Some t → AtMost t best × (list_all (is_after t) places ≡ true)
wake_least best [] t e = (most_some best t e, refl)
wake_least best (sleeping due todo ∷ places) t e =
    let r = wake_least (earlier best due) places t e in
    let q = most_earlier t best due r.0 in
    (q.0, and_from (leb t due) (list_all (is_after t) places) (le-leb t due q.1) r.1)
wake_least best (going gait todo ∷ places) t e = wake_least best places t e
wake_least best (inactive todo ∷ places) t e = wake_least best places t e
wake_least best (waiting terms todo ∷ places) t e = wake_least best places t e
wake_least best (ended ∷ places) t e = wake_least best places t e

-- where no delay ends, none ends before anything
wake_none : (best : Option ℕ) (places : List Place) (t : ℕ) → next_wake best places ≡ None → (best ≡ None) × (list_all (is_after t) places ≡ true)
wake_none best [] t e = (e, refl)
wake_none best (sleeping due todo ∷ places) t e = absurd (never best due (wake_none (earlier best due) places t e).0)
  where
    never : (best : Option ℕ) (due : ℕ) → earlier best due ≡ None → ⊥
    never None due e = cc
    never (Some u) due e = cc
wake_none best (going gait todo ∷ places) t e = wake_none best places t e
wake_none best (inactive todo ∷ places) t e = wake_none best places t e
wake_none best (waiting terms todo ∷ places) t e = wake_none best places t e
wake_none best (ended ∷ places) t e = wake_none best places t e

update_least : (best : Option ℕ) (us : List Update) (t : ℕ) → next_update best us ≡ Some t → AtMost t best × (list_all (λ (u : Update). leb t u.due) us ≡ true)
update_least best [] t e = (most_some best t e, refl)
update_least best (u ∷ us) t e =
    let r = update_least (earlier best u.due) us t e in
    let q = most_earlier t best u.due r.0 in
    (q.0, and_from (leb t u.due) (list_all (λ (u : Update). leb t u.due) us) (le-leb t u.due q.1) r.1)

earlier_some : (best : Option ℕ) (due : ℕ) → earlier best due ≡ None → ⊥
earlier_some None due e = cc
earlier_some (Some u) due e = cc

update_none : (best : Option ℕ) (us : List Update) → next_update best us ≡ None → (best ≡ None) × (us ≡ [])
update_none best [] e = (e, refl)
update_none best (u ∷ us) e = absurd (earlier_some best u.due (update_none (earlier best u.due) us e).0)

earlier_is : (best : Option ℕ) (due t : ℕ) → earlier best due ≡ Some t → (best ≡ Some t) ⊎ (due ≡ t)
earlier_is None due t e = inr (some_is due t e)
  where
    some_is : (a b : ℕ) → Some a ≡ Some b → a ≡ b
    some_is a b e = cc
earlier_is (Some u) due t e =
    let is : min u due ≡ t = some_is (min u due) t e in
    elim (cases_lt u due) [
      | inl lt ↦ let same : u ≡ t = omega (arith, is, lt) in inl (ap (λ n. Some n) same)
      | inr le ↦ inr (omega (arith, is, le))
    ]
  where
    some_is : (a b : ℕ) → Some a ≡ Some b → a ≡ b
    some_is a b e = cc

-- the least due time is that of some update
update_reached : (best : Option ℕ) (us : List Update) (t : ℕ) → next_update best us ≡ Some t → (best ≡ Some t) ⊎ ((i : ℕ) × (u : Update) × (slice_get us i ≡ Some u) × (u.due ≡ t))
update_reached best [] t e = inl e
update_reached best (u ∷ us) t e = elim (update_reached (earlier best u.due) us t e) [
  | inl first ↦ elim (earlier_is best u.due t first) [
    | inl before ↦ inl before
    | inr here ↦ inr (0, u, refl, here)
  ]
  | inr later ↦ inr (suc later.0, later.1, later.2, later.3)
]

-- each update of the one list is one of the other
abbrev pub Within : List Update → List Update → Type 0
Within us ws = (i : ℕ) (u : Update) → slice_get us i ≡ Some u → (j : ℕ) × (slice_get ws j ≡ Some u)

all_at : {A : Type 0} (p : A → Bool) (xs : List A) (i : ℕ) (x : A) → list_all p xs ≡ true → slice_get xs i ≡ Some x → p x ≡ true
all_at p [] i x h is = cc
all_at p (y ∷ xs) zero x h is = let e : y ≡ x = cc in ap p (sym e) ∙ (and_parts (p y) (list_all p xs) h).0
all_at p (y ∷ xs) (suc i) x h is = all_at p xs i x (and_parts (p y) (list_all p xs) h).1 is

update_below : (best : Option ℕ) (us ws : List Update) (t u : ℕ) → Within ws us → next_update best us ≡ Some t → next_update best ws ≡ Some u → t ≤ u
update_below best us ws t u within e f = elim (update_reached best ws u f) [
  | inl first ↦ subst (AtMost t) first (update_least best us t e).0
  | inr later ↦
      let there = within later.0 later.1 later.2 in
      let le : t ≤ later.1.due = leb-true t later.1.due (all_at (λ (w : Update). leb t w.due) us there.0 later.1 (update_least best us t e).1 there.1) in
      let is = later.3 in
      omega (arith, le, is)
]

-- lists of the same updates have the same least due time
same_update : (best : Option ℕ) (us ws : List Update) → Within us ws → Within ws us → next_update best us ≡ next_update best ws
same_update best us ws there back = by_options (next_update best us) (next_update best ws) refl refl
  where
    no_more : us ≡ [] → best ≡ None → (u : ℕ) → next_update best ws ≡ Some u → ⊥
    no_more none nil u f = elim (update_reached best ws u f) [
      | inl first ↦ let e : None ≡ Some u = sym nil ∙ first in cc
      | inr later ↦ let r = back later.0 later.1 later.2 in let e : None ≡ Some later.1 = ap (λ l. slice_get l r.0) (sym none) ∙ r.1 in cc
    ]

    no_more_back : ws ≡ [] → best ≡ None → (u : ℕ) → next_update best us ≡ Some u → ⊥
    no_more_back none nil u f = elim (update_reached best us u f) [
      | inl first ↦ let e : None ≡ Some u = sym nil ∙ first in cc
      | inr later ↦ let r = there later.0 later.1 later.2 in let e : None ≡ Some later.1 = ap (λ l. slice_get l r.0) (sym none) ∙ r.1 in cc
    ]

    by_options : (a b : Option ℕ) → next_update best us ≡ a → next_update best ws ≡ b → next_update best us ≡ next_update best ws
    by_options None None e f = e ∙ sym f
    by_options None (Some u) e f = let n = update_none best us e in absurd (no_more n.1 n.0 u f)
    by_options (Some t) None e f = let n = update_none best ws f in absurd (no_more_back n.1 n.0 t e)
    by_options (Some t) (Some u) e f =
        let a = update_below best us ws t u back e f in
        let b = update_below best ws us u t there f e in
        let same : t ≡ u = omega (arith, a, b) in
        e ∙ ap (λ n. Some n) same ∙ sym f

filter_in : {A : Type 0} (p : A → Bool) (xs : List A) (i : ℕ) (x : A) → slice_get xs i ≡ Some x → p x ≡ true → (j : ℕ) × (slice_get (filter p xs) j ≡ Some x)
filter_in p [] i x is h = cc
filter_in p (y ∷ xs) zero x is h = let e : y ≡ x = cc in (0, ap (λ l. slice_get l 0) (filter_hit p y xs (ap p e ∙ h)) ∙ ap (λ z. Some z) e)
filter_in p (y ∷ xs) (suc i) x is h =
    let r = filter_in p xs i x is h in
    elim (cases_Bool (p y)) [
      | inl hit ↦ (suc r.0, ap (λ l. slice_get l (suc r.0)) (filter_hit p y xs hit) ∙ r.1)
      | inr miss ↦ (r.0, ap (λ l. slice_get l r.0) (filter_miss p y xs miss) ∙ r.1)
    ]

filter_out : {A : Type 0} (p : A → Bool) (xs : List A) (j : ℕ) (x : A) → slice_get (filter p xs) j ≡ Some x → (i : ℕ) × (slice_get xs i ≡ Some x)
filter_out p [] j x is = cc
filter_out {A = A} p (y ∷ xs) j x is =
    elim (cases_Bool (p y)) [
      | inl hit ↦ of_head j (ap (λ l. slice_get l j) (sym (filter_hit p y xs hit)) ∙ is) (filter_out p xs)
      | inr miss ↦ let r = filter_out p xs j x (ap (λ l. slice_get l j) (sym (filter_miss p y xs miss)) ∙ is) in (suc r.0, r.1)
    ]
  where
    of_head : (j : ℕ) → slice_get (y ∷ filter p xs) j ≡ Some x → ((j : ℕ) (z : A) → slice_get (filter p xs) j ≡ Some z → (i : ℕ) × (slice_get xs i ≡ Some z)) → (i : ℕ) × (slice_get (y ∷ xs) i ≡ Some x)
    of_head zero h below = (0, h)
    of_head (suc j) h below = let r = below j x h in (suc r.0, r.1)

names_first : (w : Write) → names_some w ≡ true → (v : ℕ) × (names w v ≡ true)
names_first [] h = absurd (false≢true h)
names_first (p ∷ ps) h = (p.signal, or_left (p.signal == p.signal) (names ps p.signal) (eq-eqb p.signal p.signal refl))

-- lists that are equal signal by signal have the same updates
pub within_by : (us ws : List Update) → list_all (λ (u : Update). names_some u.what) us ≡ true → ((v : ℕ) → by v us ≡ by v ws) → Within us ws
within_by us ws some same i u is =
    let v = names_first u.what (all_at (λ (u : Update). names_some u.what) us i u some is) in
    let there = filter_in (λ (x : Update). names x.what v.0) us i u is v.1 in
    filter_out (λ (x : Update). names x.what v.0) ws there.0 u (ap (λ l. slice_get l there.0) (sym (same v.0)) ∙ there.1)

future_some : (time : ℕ) (us : List Update) → list_all (is_future time) us ≡ true → list_all (λ (u : Update). names_some u.what) us ≡ true
future_some time us h = list_all_like (is_future time) (λ (u : Update). names_some u.what) us (λ u f. (and_parts (not u.active && ltb time u.due) (names_some u.what) f).1) h

-- so have two states in which the processes are at the same places
pub same_next : (s t : State) (time : ℕ) → s.places ≡ t.places → list_all (is_future time) s.updates ≡ true → list_all (is_future time) t.updates ≡ true → ((v : ℕ) → by v s.updates ≡ by v t.updates) → next_time s ≡ next_time t
same_next s t time places fs ft same =
    same_update (next_wake None s.places) s.updates t.updates (within_by s.updates t.updates (future_some time s.updates fs) same)
    (within_by t.updates s.updates (future_some time t.updates ft) (λ v. sym (same v)))
    ∙ ap (λ l. next_update (next_wake None l) t.updates) places

after_less : (t u : ℕ) (p : Place) → t ≤ u → is_after u p ≡ true → is_after t p ≡ true
after_less t u (going gait todo) le h = refl
after_less t u (inactive todo) le h = refl
after_less t u (waiting terms todo) le h = refl
after_less t u ended le h = refl
after_less t u (sleeping due todo) le h = let more : u ≤ due = leb-true u due h in le-leb t due (omega (arith, le, more))

-- no delay ends before the next due time
pub after_next : (s : State) (t : ℕ) → next_time s ≡ Some t → list_all (is_after t) s.places ≡ true
after_next s t e = by_wake (next_wake None s.places) refl (update_least (next_wake None s.places) s.updates t e).0
  where
    by_wake : (o : Option ℕ) → next_wake None s.places ≡ o → AtMost t o → list_all (is_after t) s.places ≡ true
    by_wake None is most = (wake_none None s.places t is).1
    by_wake (Some u) is most = list_all_like (is_after u) (is_after t) s.places (λ p h. after_less t u p most h) (wake_least None s.places u is).1

later_woken : (t : ℕ) (p : Place) → is_after t p ≡ true → is_later t (woken_at t p) ≡ true
later_woken t (going gait todo) h = refl
later_woken t (inactive todo) h = refl
later_woken t (waiting terms todo) h = refl
later_woken t ended h = refl
later_woken t (sleeping due todo) h =
    cond_both (due == t) (active_at Woken todo) (sleeping due todo) (λ p. is_later t p ≡ true) (λ e. later_active t Woken todo)
    (λ e. let ne : due ≡ t → ⊥ = eqb-false due t e in let le : t ≤ due = leb-true t due h in lt-ltb t due (omega (arith, ne, le)))

list_all_both : {A : Type 0} (p q : A → Bool) (xs : List A) → list_all p xs ≡ true → list_all q xs ≡ true → list_all (λ x. p x && q x) xs ≡ true
list_all_both p q [] h g = refl
list_all_both p q (x ∷ xs) h g =
    let a = and_parts (p x) (list_all p xs) h in
    let b = and_parts (q x) (list_all q xs) g in
    and_from (p x && q x) (list_all (λ x. p x && q x) xs) (and_from (p x) (q x) a.0 b.0) (list_all_both p q xs a.1 b.1)

waiting_from : (time t : ℕ) (u : Update) → t ≤ u.due → is_future time u ≡ true → is_waiting t u ≡ true
waiting_from time t u le h =
    let last = and_parts (not u.active && ltb time u.due) (names_some u.what) h in
    and_from (not u.active && leb t u.due) (names_some u.what) (and_from (not u.active) (leb t u.due) (and_parts (not u.active) (ltb time u.due) last.0).0 (le-leb t u.due le)) last.1

-- the next slot: later, with delays and updates that are due later still; or the end of all
pub record GoesOn (s : State) : Type 0 where
  pub later : list_all (is_later (after_slot s).time) (after_slot s).places ≡ true
  pub waiting : list_all (is_waiting (after_slot s).time) s.updates ≡ true
  pub up : s.time ≤ (after_slot s).time

record GoesOnAt (s : State) (over : Bool) (next : Option ℕ) : Type 0 where
  later : list_all (is_later (time_at over next s.time)) (places_at over next s.places) ≡ true
  waiting : list_all (is_waiting (time_at over next s.time)) s.updates ≡ true
  up : s.time ≤ time_at over next s.time

still_waiting : (s : State) → list_all (is_future s.time) s.updates ≡ true → list_all (is_waiting s.time) s.updates ≡ true
still_waiting s f = list_all_like (is_future s.time) (is_waiting s.time) s.updates (λ u h. let lt = future_due s.time u h in waiting_from s.time s.time u (omega (arith, lt)) h) f

goes_on_at : (s : State) (over : Bool) (next : Option ℕ) → list_all (is_later s.time) s.places ≡ true → list_all (is_future s.time) s.updates ≡ true → next_time s ≡ next → GoesOnAt s over next
goes_on_at s true next h f e = record { later = h; waiting = still_waiting s f; up = omega arith }
goes_on_at s false None h f e = record { later = h; waiting = still_waiting s f; up = omega arith }
goes_on_at s false (Some t) h f e =
    let up : s.time < t = above_some s.time (next_time s) t (above_update s.time (next_wake None s.places) s.updates (above_wake s.time None s.places tt h) f) e in
    record {
      later = list_all-map (is_later t) (woken_at t) s.places ∙ list_all_like (is_after t) (λ p. is_later t (woken_at t p)) s.places (later_woken t) (after_next s t e);
      waiting = list_all_like (λ (u : Update). is_future s.time u && leb t u.due) (is_waiting t) s.updates
          (λ u g. let parts = and_parts (is_future s.time u) (leb t u.due) g in waiting_from s.time t u (leb-true t u.due parts.1) parts.0)
          (list_all_both (is_future s.time) (λ (u : Update). leb t u.due) s.updates f (update_least (next_wake None s.places) s.updates t e).1);
      up = omega (arith, up);
    }

pub goes_on : (s : State) → list_all (is_later s.time) s.places ≡ true → list_all (is_future s.time) s.updates ≡ true → GoesOn s
goes_on s h f =
    let r = goes_on_at s (ends s) (next_time s) h f refl in
    record { later = r.later; waiting = r.waiting; up = r.up }
