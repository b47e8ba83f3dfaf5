-- Bags of timed events: each word on a bag reads the events of each time alone.
use Rattle.std.proofs.Common.{◌≡◌, ℕ, ◌<◌, ◌≤◌, ◌≢◌, Bool, true, false, cond, List, [], ◌∷◌, ◌++◌, Option, None, Some, drop, min, refl, sym, ap, ◌∙◌, subst, inl, inr, arith}
use Rattle.std.specs.Prelude.{nat_eq}
use Rattle.std.proofs.lemmas.Bool.{eqb-true, eq-eqb, ne_eqb, cases_lt, cases_eq, cond-true, cond-false}
use Rattle.std.specs.Option.{ForSome, IfSome}
use Rattle.vs_time_wheel.specs.declared.timing.Timed.{Timed}
use Rattle.vs_time_wheel.specs.Rotation.{first_of}
use Rattle.vs_time_wheel.specs.Bag.{events_at, SameBag, IsFrom, oldest_at, without_oldest, sooner, least_time}

-- ---- one bag
pub SameBag-refl : {E : Type 0} (a : List (Timed E)) → SameBag a a
SameBag-refl a = record { at_each = λ t. refl }

pub SameBag-sym : {E : Type 0} {a b : List (Timed E)} → SameBag a b → SameBag b a
SameBag-sym s = record { at_each = λ t. sym (s.at_each t) }

pub SameBag-trans : {E : Type 0} {a b c : List (Timed E)} → SameBag a b → SameBag b c → SameBag a c
SameBag-trans s r = record { at_each = λ t. s.at_each t ∙ r.at_each t }

pub SameBag-from_eq : {E : Type 0} {a b : List (Timed E)} → a ≡ b → SameBag a b
SameBag-from_eq e = record { at_each = λ t. ap (events_at t) e }

-- ---- the events of a time
put : {E : Type 0} (c : Bool) (x : E) (xs ys zs : List E) → xs ≡ ys ++ zs → cond c (x ∷ xs) xs ≡ cond c (x ∷ ys) ys ++ zs
put true x xs ys zs e = ap (λ l. x ∷ l) e
put false x xs ys zs e = e

pub events_at-append : {E : Type 0} (t : ℕ) (a b : List (Timed E)) → events_at t (a ++ b) ≡ events_at t a ++ events_at t b
events_at-append t [] b = refl
events_at-append t (e ∷ es) b = put (nat_eq e.time t) e.event _ _ _ (events_at-append t es b)

pub events_at-here : {E : Type 0} (t : ℕ) (e : Timed E) (es : List (Timed E)) → e.time ≡ t → events_at t (e ∷ es) ≡ e.event ∷ events_at t es
events_at-here t e es h = cond-true (nat_eq e.time t) _ _ (eq-eqb e.time t h)

pub events_at-apart : {E : Type 0} (t : ℕ) (e : Timed E) (es : List (Timed E)) → e.time ≢ t → events_at t (e ∷ es) ≡ events_at t es
events_at-apart t e es h = cond-false (nat_eq e.time t) _ _ (ne_eqb e.time t h)

-- ---- the oldest
oldest_by : {E : Type 0} (c : Bool) (x : E) (o : Option E) (xs : List E) → o ≡ first_of xs → cond c (Some x) o ≡ first_of (cond c (x ∷ xs) xs)
oldest_by true x o xs e = refl
oldest_by false x o xs e = e

pub oldest_at-first : {E : Type 0} (t : ℕ) (b : List (Timed E)) → oldest_at t b ≡ first_of (events_at t b)
oldest_at-first t [] = refl
oldest_at-first t (e ∷ es) = oldest_by (nat_eq e.time t) e.event _ _ (oldest_at-first t es)

pub events_at-without_oldest : {E : Type 0} (t : ℕ) (b : List (Timed E)) → events_at t (without_oldest t b) ≡ drop 1 (events_at t b)
events_at-without_oldest t [] = refl
events_at-without_oldest t (e ∷ es) = elim (cases_eq e.time t) [
  | inl h ↦ ap (events_at t) (cond-true (nat_eq e.time t) es (e ∷ without_oldest t es) (eq-eqb e.time t h)) ∙ sym (ap (drop 1) (events_at-here t e es h))
  | inr h ↦ ap (events_at t) (cond-false (nat_eq e.time t) es (e ∷ without_oldest t es) (ne_eqb e.time t h)) ∙ events_at-apart t e (without_oldest t es) h ∙ events_at-without_oldest t es ∙ sym (ap (drop 1) (events_at-apart t e es h))
]

kept : {E : Type 0} (u : ℕ) (e : Timed E) (c : Bool) (xs ys : List (Timed E)) → (c ≡ true → e.time ≢ u) → events_at u ys ≡ events_at u xs → events_at u (cond c xs (e ∷ ys)) ≡ events_at u (e ∷ xs)
kept u e true xs ys apart h = sym (events_at-apart u e xs (apart refl))
kept u e false xs ys apart h = elim (cases_eq e.time u) [
  | inl here ↦ events_at-here u e ys here ∙ ap (λ l. e.event ∷ l) h ∙ sym (events_at-here u e xs here)
  | inr other ↦ events_at-apart u e ys other ∙ h ∙ sym (events_at-apart u e xs other)
]

pub events_at-without_other : {E : Type 0} (t u : ℕ) (b : List (Timed E)) → t ≢ u → events_at u (without_oldest t b) ≡ events_at u b
events_at-without_other t u [] apart = refl
events_at-without_other t u (e ∷ es) apart = kept u e (nat_eq e.time t) es (without_oldest t es) (λ c f. apart (sym (eqb-true e.time t c) ∙ f)) (events_at-without_other t u es apart)

-- ---- the least time
-- no event is due
pub record IsBare {E : Type 0} (b : List (Timed E)) : Type 0 where
  pub nothing_at : (t : ℕ) → events_at t b ≡ []

-- an event is due at t, and none before
pub record IsSoonest {E : Type 0} (t : ℕ) (b : List (Timed E)) : Type 0 where
  pub something : events_at t b ≢ []
  pub nothing_before : (u : ℕ) → u < t → events_at u b ≡ []

abbrev pub IsLeast : {E : Type 0} → Option ℕ → List (Timed E) → Type 0
IsLeast None b = IsBare b
IsLeast (Some t) b = IsSoonest t b

least_step : {E : Type 0} (e : Timed E) (es : List (Timed E)) (o : Option ℕ) → IsLeast o es → IsLeast (sooner e.time o) (e ∷ es)
least_step e es None bare = record {
  something = λ h. let k : e.event ∷ events_at e.time es ≡ [] = sym (events_at-here e.time e es refl) ∙ h in cc;
  nothing_before = λ u before. events_at-apart u e es (λ h. omega arith) ∙ bare.nothing_at u;
}
least_step e es (Some v) soonest = elim (cases_eq (min e.time v) e.time) [
  | inl h ↦ record {
    something = λ none. let k : e.event ∷ events_at (min e.time v) es ≡ [] = sym (events_at-here (min e.time v) e es (sym h)) ∙ none in cc;
    nothing_before = λ u before. events_at-apart u e es (λ f. omega arith) ∙ soonest.nothing_before u (omega arith);
  }
  | inr h ↦
      let same : min e.time v ≡ v = omega arith in
      let apart : e.time ≢ min e.time v = λ f. h (sym f) in
      record {
        something = λ none. soonest.something (ap (λ t. events_at t es) (sym same) ∙ sym (events_at-apart (min e.time v) e es apart) ∙ none);
        nothing_before = λ u before. events_at-apart u e es (λ f. omega arith) ∙ soonest.nothing_before u (omega arith);
      }
]

pub least_time-is_least : {E : Type 0} (b : List (Timed E)) → IsLeast (least_time b) b
least_time-is_least [] = record { nothing_at = λ t. refl }
least_time-is_least (e ∷ es) = least_step e es (least_time es) (least_time-is_least es)

at_most : {E : Type 0} (v w : ℕ) (b : List (Timed E)) → IsSoonest v b → IsSoonest w b → v ≤ w
at_most v w b p q = elim (cases_lt w v) [ inl h ↦ absurd (q.something (p.nothing_before w h)) | inr h ↦ h ]

only_least : {E : Type 0} (o p : Option ℕ) (b : List (Timed E)) → IsLeast o b → IsLeast p b → o ≡ p
only_least None None b x y = refl
only_least None (Some t) b x y = absurd (y.something (x.nothing_at t))
only_least (Some t) None b x y = absurd (x.something (y.nothing_at t))
only_least (Some t) (Some u) b x y = let low : u ≤ t = at_most u t b y x in let high : t ≤ u = at_most t u b x y in let e : t ≡ u = omega arith in ap Some e

-- what is least is the least time
pub least_time-from : {E : Type 0} (o : Option ℕ) (b : List (Timed E)) → IsLeast o b → least_time b ≡ o
least_time-from o b h = only_least (least_time b) o b (least_time-is_least b) h

like : {E : Type 0} (o : Option ℕ) (a b : List (Timed E)) → SameBag a b → IsLeast o a → IsLeast o b
like None a b s x = record { nothing_at = λ t. sym (s.at_each t) ∙ x.nothing_at t }
like (Some t) a b s x = record { something = λ h. x.something (s.at_each t ∙ h); nothing_before = λ u before. sym (s.at_each u) ∙ x.nothing_before u before }

-- ---- each word reads the bag alone
pub least_time-same : {E : Type 0} (a b : List (Timed E)) → SameBag a b → least_time a ≡ least_time b
least_time-same a b s = sym (least_time-from (least_time a) b (like (least_time a) a b s (least_time-is_least a)))

pub oldest_at-same : {E : Type 0} (t : ℕ) (a b : List (Timed E)) → SameBag a b → oldest_at t a ≡ oldest_at t b
oldest_at-same t a b s = oldest_at-first t a ∙ ap first_of (s.at_each t) ∙ sym (oldest_at-first t b)

pub SameBag-append : {E : Type 0} (a b c : List (Timed E)) → SameBag a b → SameBag (a ++ c) (b ++ c)
SameBag-append a b c s = record { at_each = λ t. events_at-append t a c ∙ ap (λ l. l ++ events_at t c) (s.at_each t) ∙ sym (events_at-append t b c) }

pub SameBag-without_oldest : {E : Type 0} (t : ℕ) (a b : List (Timed E)) → SameBag a b → SameBag (without_oldest t a) (without_oldest t b)
SameBag-without_oldest t a b s = record {
  at_each = λ u. elim (cases_eq t u) [
    | inl h ↦ subst (λ v. events_at v (without_oldest t a) ≡ events_at v (without_oldest t b)) h (events_at-without_oldest t a ∙ ap (drop 1) (s.at_each t) ∙ sym (events_at-without_oldest t b))
    | inr h ↦ events_at-without_other t u a h ∙ s.at_each u ∙ sym (events_at-without_other t u b h)
  ];
}

-- ---- the least time, from the front
-- the least of a time and those of a list
abbrev pub least_from : {E : Type 0} → Option ℕ → List (Timed E) → Option ℕ
least_from o [] = o
least_from o (e ∷ es) = least_from (sooner e.time o) es

-- the less of two times, of which each may be missing
abbrev pub soonest_of : Option ℕ → Option ℕ → Option ℕ
soonest_of None p = p
soonest_of (Some t) p = sooner t p

soonest_of-sooner : (t : ℕ) (o p : Option ℕ) → soonest_of (sooner t o) p ≡ soonest_of o (sooner t p)
soonest_of-sooner t None p = refl
soonest_of-sooner t (Some u) None = ap Some (let e : min t u ≡ min u t = omega arith in e)
soonest_of-sooner t (Some u) (Some v) = ap Some (let e : min (min t u) v ≡ min u (min t v) = omega arith in e)

soonest_of-None : (o : Option ℕ) → soonest_of o None ≡ o
soonest_of-None None = refl
soonest_of-None (Some t) = refl

least_from-time : {E : Type 0} (o : Option ℕ) (es : List (Timed E)) → least_from o es ≡ soonest_of o (least_time es)
least_from-time o [] = sym (soonest_of-None o)
least_from-time o (e ∷ es) = least_from-time (sooner e.time o) es ∙ soonest_of-sooner e.time o (least_time es)

pub least_from-start : {E : Type 0} (es : List (Timed E)) → least_from None es ≡ least_time es
least_from-start es = least_from-time None es

none_by : {E : Type 0} (o : Option ℕ) (b : List (Timed E)) (time : ℕ) → IsLeast o b → ForSome o (λ next. time ≤ next) → (t : ℕ) → t < time → events_at t b ≡ []
none_by None b time bare h t before = bare.nothing_at t
none_by (Some u) b time soonest h t before = let le : time ≤ u = h u refl in soonest.nothing_before t (omega arith)

-- where a time isn't past the least, no event is due before it
pub none_before : {E : Type 0} (b : List (Timed E)) (time : ℕ) → ForSome (least_time b) (λ next. time ≤ next) → (t : ℕ) → t < time → events_at t b ≡ []
none_before b time h t before = none_by (least_time b) b time (least_time-is_least b) h t before

-- ---- no event is due before a time
pub IsFrom-nil : {E : Type 0} (time : ℕ) → IsFrom {E = E} time []
IsFrom-nil time = record { none_before = λ t h. refl }

pub IsFrom-snoc : {E : Type 0} (time due : ℕ) (b : List (Timed E)) (x : E) → IsFrom time b → time ≤ due → IsFrom time (b ++ record { time = due; event = x } ∷ [])
IsFrom-snoc time due b x from on = record {
  none_before = λ t h.
      events_at-append t b (record { time = due; event = x } ∷ []) ∙ ap (λ xs. xs ++ events_at t (record { time = due; event = x } ∷ [])) (from.none_before t h)
      ∙ events_at-apart t (record { time = due; event = x }) [] (λ e. omega arith);
}

pub IsFrom-without_oldest : {E : Type 0} (time : ℕ) (b : List (Timed E)) → ForSome (least_time b) (λ next. time ≤ next) → IsFrom time (without_oldest time b)
IsFrom-without_oldest time b h = record { none_before = λ t before. events_at-without_other time t b (λ e. omega arith) ∙ none_before b time h t before }

from_least : {E : Type 0} (time : ℕ) (o : Option ℕ) (b : List (Timed E)) → IsLeast o b → IsFrom time b → IfSome o (λ next. time ≤ next)
from_least time None b least from = tt
from_least time (Some next) b least from = elim (cases_lt next time) [ inl h ↦ absurd (least.something (from.none_before next h)) | inr h ↦ h ]

pub least_time-from_time : {E : Type 0} (time : ℕ) (b : List (Timed E)) → IsFrom time b → IfSome (least_time b) (λ next. time ≤ next)
least_time-from_time time b from = from_least time (least_time b) b (least_time-is_least b) from

pub IsFrom-pushed : {E : Type 0} (done : Bool) (time due : ℕ) (b : List (Timed E)) (x : E) → IsFrom time b → time ≤ due → IsFrom time (cond done (b ++ record { time = due; event = x } ∷ []) b)
IsFrom-pushed true time due b x from on = IsFrom-snoc time due b x from on
IsFrom-pushed false time due b x from on = from

-- what a call that answers the least time says of it
pub not_over : {E : Type 0} (time : ℕ) (b : List (Timed E)) (result : Option ℕ) → IsFrom time b → result ≡ least_time b → IfSome result (λ next. time ≤ next)
not_over time b result from e = subst (λ o. IfSome o (λ next. time ≤ next)) (sym e) (least_time-from_time time b from)
