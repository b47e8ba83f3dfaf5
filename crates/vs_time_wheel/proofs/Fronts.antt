-- An event in front of the others of a queue.
use Rattle.std.proofs.Common.{◌≡◌, ℕ, ◌<◌, ◌≤◌, ◌≢◌, List, [], ◌∷◌, ◌++◌, Option, None, Some, true, false, Result, Ok, Err, drop, min, refl, sym, ap, ◌∙◌, subst, inl, inr, arith, append-nil}
use Rattle.std.specs.Prelude.{nat_eq}
use Rattle.std.proofs.lemmas.Bool.{cases_eq, eq-eqb, ne_eqb, cond-true, cond-false}
use Rattle.std.specs.Option.{ForSome, is_some, option_eq}
use Rattle.std.specs.Result.{OnOk, OnErr}
use Rattle.vs_time_wheel.specs.Rotation.{first_of}
use Rattle.vs_time_wheel.specs.declared.timing.Timed.{Timed}
use Rattle.vs_time_wheel.specs.Bag.{events_at, SameBag, IsFrom, oldest_at, without_oldest, least_time, sooner}
use Rattle.vs_time_wheel.specs.Front.{front, IsAhead, IsDue, MakesWay}
use Rattle.vs_time_wheel.proofs.Bags.{events_at-append, events_at-here, events_at-apart, events_at-without_oldest, events_at-without_other, none_before, oldest_at-first, SameBag-sym, SameBag-trans, IsLeast, least_time-is_least}

-- ---- before the least time
ahead_none : {E : Type 0} (time : ℕ) (o : Option ℕ) (b : List (Timed E)) → IsLeast o b → IsAhead time o → (t : ℕ) → t ≤ time → events_at t b ≡ []
ahead_none time None b bare h t on = bare.nothing_at t
ahead_none time (Some next) b soonest h t on = soonest.nothing_before t (omega arith)

-- no event is due up to a time that is before the least
pub none_up_to : {E : Type 0} (time : ℕ) (least : Option ℕ) (b : List (Timed E)) → least ≡ least_time b → IsAhead time least → (t : ℕ) → t ≤ time → events_at t b ≡ []
none_up_to time least b e h t on = ahead_none time least b (rw e (least_time-is_least b)) h t on

ahead_some : (time : ℕ) (o : Option ℕ) → IsAhead time o → ForSome o (λ next. time ≤ next)
ahead_some time None h = λ next e. absurd (let k : None ≡ Some next = e in cc)
ahead_some time (Some u) h = λ next e. let k : Some u ≡ Some next = e in let f : u ≡ next = cc in omega arith

pub ahead_at_most : (time : ℕ) (least least' : Option ℕ) → least ≡ least' → IsAhead time least → ForSome least' (λ next. time ≤ next)
ahead_at_most time least least' e h = rw (sym e) (ahead_some time least h)

-- a bag without an oldest event of a time at which none is due
pub without_none : {E : Type 0} (time : ℕ) (b : List (Timed E)) → events_at time b ≡ [] → SameBag (without_oldest time b) b
without_none time b none = record {
  at_each = λ u. elim (cases_eq time u) [
    | inl h ↦ ap (λ v. events_at v (without_oldest time b)) (sym h) ∙ events_at-without_oldest time b ∙ ap (λ xs. drop 1 xs) none ∙ sym none ∙ ap (λ v. events_at v b) h
    | inr h ↦ events_at-without_other time u b h
  ];
}

-- ---- an event more
sooner-swap : (t u : ℕ) (o : Option ℕ) → sooner t (sooner u o) ≡ sooner u (sooner t o)
sooner-swap t u None = ap Some (let e : min t u ≡ min u t = omega arith in e)
sooner-swap t u (Some v) = ap Some (let e : min t (min u v) ≡ min u (min t v) = omega arith in e)

pub least_time-snoc : {E : Type 0} (b : List (Timed E)) (time : ℕ) (x : E) → least_time (b ++ record { time = time; event = x } ∷ []) ≡ sooner time (least_time b)
least_time-snoc [] time x = refl
least_time-snoc (e ∷ es) time x = ap (sooner e.time) (least_time-snoc es time x) ∙ sooner-swap e.time time (least_time es)

-- the events in front of two like bags
pub SameBag-behind : {E : Type 0} (c a b : List (Timed E)) → SameBag a b → SameBag (c ++ a) (c ++ b)
SameBag-behind c a b s = record { at_each = λ t. events_at-append t c a ∙ ap (λ l. events_at t c ++ l) (s.at_each t) ∙ sym (events_at-append t c b) }

-- an event at whose time no other one is due is the newest
pub newest_of : {E : Type 0} (time : ℕ) (x : E) (b : List (Timed E)) → events_at time b ≡ [] → SameBag (record { time = time; event = x } ∷ b) (b ++ record { time = time; event = x } ∷ [])
newest_of time x b alone = record {
  at_each = λ t. elim (cases_eq time t) [
    | inl here ↦
        let none : events_at t b ≡ [] = subst (λ u. events_at u b ≡ []) here alone in
        events_at-here t (record { time = time; event = x }) b here ∙ ap (λ l. x ∷ l) none
        ∙ sym (events_at-append t b (record { time = time; event = x } ∷ []) ∙ ap (λ l. l ++ events_at t (record { time = time; event = x } ∷ [])) none ∙ events_at-here t (record { time = time; event = x }) [] here)
    | inr apart ↦
        events_at-apart t (record { time = time; event = x }) b apart ∙ sym (append-nil (events_at t b))
        ∙ sym (events_at-append t b (record { time = time; event = x } ∷ []) ∙ ap (λ l. events_at t b ++ l) (events_at-apart t (record { time = time; event = x }) [] apart))
  ];
}

-- so is one that is due before all others
pub ahead_is_newest : {E : Type 0} (time : ℕ) (x : E) (least : Option ℕ) (b : List (Timed E)) → least ≡ least_time b → IsAhead time least →
    SameBag (record { time = time; event = x } ∷ b) (b ++ record { time = time; event = x } ∷ [])
ahead_is_newest time x least b e h = newest_of time x b (none_up_to time least b e h time (omega arith))

-- ---- the oldest of a time
-- an event in front that isn't due leaves the oldest to the others
pub oldest_at-behind : {E : Type 0} (time : ℕ) (first : Option (Timed E)) (b : List (Timed E)) → (IsDue time first → ⊥) → oldest_at time (front first ++ b) ≡ oldest_at time b
oldest_at-behind time None b h = refl
oldest_at-behind time (Some f) b h = cond-false (nat_eq f.time time) _ _ (ne_eqb f.time time h)

pub without_oldest-behind : {E : Type 0} (time : ℕ) (first : Option (Timed E)) (b : List (Timed E)) → (IsDue time first → ⊥) → without_oldest time (front first ++ b) ≡ front first ++ without_oldest time b
without_oldest-behind time None b h = refl
without_oldest-behind time (Some f) b h = cond-false (nat_eq f.time time) _ _ (ne_eqb f.time time h)

-- an event in front that is due is the oldest
pub oldest_at-front : {E : Type 0} (time : ℕ) (f : Timed E) (b : List (Timed E)) → f.time ≡ time → oldest_at time (f ∷ b) ≡ Some f.event
oldest_at-front time f b h = cond-true (nat_eq f.time time) _ _ (eq-eqb f.time time h)

pub without_oldest-front : {E : Type 0} (time : ℕ) (f : Timed E) (b : List (Timed E)) → f.time ≡ time → without_oldest time (f ∷ b) ≡ b
without_oldest-front time f b h = cond-true (nat_eq f.time time) _ _ (eq-eqb f.time time h)

pub at_most_of : (t time : ℕ) (o : Option ℕ) → ForSome (sooner t o) (λ next. time ≤ next) → ForSome o (λ next. time ≤ next)
at_most_of t time None h = λ next e. absurd (let k : None ≡ Some next = e in cc)
at_most_of t time (Some u) h = λ next e. let k : Some u ≡ Some next = e in let f : u ≡ next = cc in let m : time ≤ min t u = h (min t u) refl in omega arith

-- the times behind the front are not before a time that none of all is before
pub at_most_behind : {E : Type 0} (time : ℕ) (first : Option (Timed E)) (b : List (Timed E)) → ForSome (least_time (front first ++ b)) (λ next. time ≤ next) → ForSome (least_time b) (λ next. time ≤ next)
at_most_behind time None b h = h
at_most_behind time (Some f) b h = at_most_of f.time time (least_time b) h

none_of : {E : Type 0} (time : ℕ) (o : Option ℕ) (b : List (Timed E)) → IsLeast o b → ForSome o (λ next. time ≤ next) → o ≢ Some time → events_at time b ≡ []
none_of time None b bare h apart = bare.nothing_at time
none_of time (Some next) b soonest h apart = let on : time ≤ next = h next refl in let other : time ≢ next = λ e. apart (ap Some (sym e)) in soonest.nothing_before time (omega arith)

-- where the least time is another one, and no time is before this one, none is due at it
pub none_at : {E : Type 0} (time : ℕ) (b : List (Timed E)) → ForSome (least_time b) (λ next. time ≤ next) → least_time b ≢ Some time → events_at time b ≡ []
none_at time b h apart = none_of time (least_time b) b (least_time-is_least b) h apart

-- ---- a wheel
-- the sooner of an event in front and the others is the least time of all
pub next_in_front : {E : Type 0} (first : Option (Timed E)) (f : Timed E) (least : Option ℕ) (b : List (Timed E)) (result : Option ℕ) → first ≡ Some f → least ≡ least_time b → result ≡ sooner f.time least →
    result ≡ least_time (front first ++ b)
next_in_front first f least b result i e h = h ∙ ap (sooner f.time) e ∙ sym (ap (λ o. least_time (front o ++ b)) i)

pub next_behind : {E : Type 0} (first : Option (Timed E)) (least : Option ℕ) (b : List (Timed E)) → first ≡ None → least ≡ least_time b → least ≡ least_time (front first ++ b)
next_behind first least b i e = e ∙ sym (ap (λ o. least_time (front o ++ b)) i)

pub front_none : {E : Type 0} (first : Option (Timed E)) → is_some first ≡ false → front first ≡ []
front_none None h = refl
front_none (Some f) h = cc

-- no event is due before the time now, also with one more
pub from_added : {E F : Type 0} (r : Result (Unit {0}) F) (now time : ℕ) (x : E) (c a b : List (Timed E)) → IsFrom now (c ++ b) → now ≤ time →
    OnOk r (SameBag a (b ++ record { time = time; event = x } ∷ [])) → OnErr r (SameBag a b) → IsFrom now (c ++ a)
from_added (Ok done) now time x c a b from on s _ = record {
  none_before = λ t before.
      let none : events_at t (record { time = time; event = x } ∷ []) ≡ [] = events_at-apart t (record { time = time; event = x }) [] (λ e. omega arith) in
      events_at-append t c a
      ∙ ap (λ l. events_at t c ++ l) (s.at_each t ∙ events_at-append t b (record { time = time; event = x } ∷ []) ∙ ap (λ l. events_at t b ++ l) none ∙ append-nil (events_at t b))
      ∙ sym (events_at-append t c b) ∙ from.none_before t before;
}
from_added (Err refused) now time x c a b from on _ s = record { none_before = λ t before. (SameBag-behind c a b s).at_each t ∙ from.none_before t before }

-- nor where the clock has moved on, with or without the event in front, or without the oldest of the others
pub from_here : {E : Type 0} (time : ℕ) (b : List (Timed E)) → ForSome (least_time b) (λ next. time ≤ next) → IsFrom time b
from_here time b h = record { none_before = λ t before. none_before b time h t before }

pub from_behind : {E : Type 0} (time : ℕ) (first : Option (Timed E)) (b : List (Timed E)) → ForSome (least_time (front first ++ b)) (λ next. time ≤ next) → IsFrom time b
from_behind time first b h = from_here time b (at_most_behind time first b h)

pub from_taken : {E : Type 0} (time : ℕ) (first : Option (Timed E)) (a b : List (Timed E)) → ForSome (least_time (front first ++ b)) (λ next. time ≤ next) → SameBag a (without_oldest time b) → IsFrom time (front first ++ a)
from_taken time first a b h s = record {
  none_before = λ t before.
      events_at-append t (front first) a
      ∙ ap (λ l. events_at t (front first) ++ l) (s.at_each t ∙ events_at-without_other time t b (λ e. omega arith))
      ∙ sym (events_at-append t (front first) b) ∙ none_before (front first ++ b) time h t before;
}

-- neither the event in front nor one of the others is due
pub none_due : {E : Type 0} (time : ℕ) (first : Option (Timed E)) (b : List (Timed E)) → (IsDue time first → ⊥) → ForSome (least_time (front first ++ b)) (λ next. time ≤ next) → least_time b ≢ Some time →
    events_at time (front first ++ b) ≡ []
none_due time None b apart h other = none_at time b h other
none_due time (Some f) b apart h other = events_at-apart time f b apart ∙ none_at time b (at_most_behind time (Some f) b h) other

pub oldest_at-none : {E : Type 0} (time : ℕ) (b : List (Timed E)) → events_at time b ≡ [] → oldest_at time b ≡ None
oldest_at-none time b none = oldest_at-first time b ∙ ap first_of none

-- the least time of the others was compared with a time
pub apart_from_test : (least least' : Option ℕ) (time : ℕ) → least ≡ least' → false ≡ option_eq nat_eq least (Some time) → least' ≢ Some time
apart_from_test least least' time same test = λ e. let f : least ≡ Some time = same ∙ e in let k : false ≡ nat_eq time time = test ∙ ap (λ o. option_eq nat_eq o (Some time)) f in let l : nat_eq time time ≡ true = eq-eqb time time refl in absurd (let m : false ≡ true = k ∙ l in cc)

-- ---- the event in front makes way
sooner_ahead : (time t : ℕ) (least : Option ℕ) → time < t → IsAhead t least → IsAhead time (sooner t least)
sooner_ahead time t None before h = before
sooner_ahead time t (Some u) before h = let on : time < min t u = omega arith in on

pub added_in_front : {E : Type 0} (time : ℕ) (x : E) (f : Timed E) (least : Option ℕ) (a b : List (Timed E)) → least ≡ least_time b → time < f.time → IsAhead f.time least → SameBag a (b ++ f ∷ []) →
    SameBag (record { time = time; event = x } ∷ a) ((f ∷ b) ++ record { time = time; event = x } ∷ [])
added_in_front time x f least a b e before h s =
    SameBag-trans (SameBag-behind (record { time = time; event = x } ∷ []) a (f ∷ b) (SameBag-trans s (SameBag-sym (ahead_is_newest f.time f.event least b e h))))
    (ahead_is_newest time x (sooner f.time least) (f ∷ b) (ap (sooner f.time) e) (sooner_ahead time f.time least before h))

pub IsFrom-same : {E : Type 0} (now : ℕ) (a b : List (Timed E)) → SameBag a b → IsFrom now b → IsFrom now a
IsFrom-same now a b s from = record { none_before = λ t before. s.at_each t ∙ from.none_before t before }

pub displaced : {E : Type 0} (first : Option (Timed E)) (f : Timed E) (first' : Option (Timed E)) (time : ℕ) (x : E) (least : Option ℕ) (a b : List (Timed E)) → Some f ≡ first → first' ≡ Some (record { time = time; event = x }) → least ≡ least_time b →
    MakesWay time first least → SameBag a (b ++ f ∷ []) → SameBag (front first' ++ a) ((front first ++ b) ++ record { time = time; event = x } ∷ [])
displaced first f first' time x least a b was is e h s =
    let way : MakesWay time (Some f) least = subst (λ o. MakesWay time o least) (sym was) h in
    subst (λ o. SameBag (front o ++ a) ((front first ++ b) ++ record { time = time; event = x } ∷ [])) (sym is)
    (subst (λ o. SameBag (record { time = time; event = x } ∷ a) ((front o ++ b) ++ record { time = time; event = x } ∷ [])) was (added_in_front time x f least a b e way.0 way.1 s))

pub put_back : {E : Type 0} (first first' : Option (Timed E)) (t : ℕ) (x y : E) → first' ≡ Some (record { time = t; event = x }) → x ≡ y → Some (record { time = t; event = y }) ≡ first → first' ≡ first
put_back first first' t x y is e was = is ∙ subst (λ z. Some (record { time = t; event = z }) ≡ first) (sym e) was

pub from_kept : {E : Type 0} (now : ℕ) (first first' : Option (Timed E)) (a b : List (Timed E)) → first' ≡ first → SameBag a b → IsFrom now (front first ++ b) → IsFrom now (front first' ++ a)
from_kept now first first' a b e s from = subst (λ o. IsFrom now (front o ++ a)) (sym e) (IsFrom-same now (front first ++ a) (front first ++ b) (SameBag-behind (front first) a b s) from)
