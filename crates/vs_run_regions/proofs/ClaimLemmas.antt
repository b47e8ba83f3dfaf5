-- Claims of updates.
use Rattle.std.proofs.Common.{◌≡◌, ℕ, zero, suc, ◌+◌, ◌<◌, ◌≤◌, ◌&&◌, ◌||◌, Bool, true, false, cond, Option, Some, None, List, [], ◌∷◌, length, get_or, map, take, drop, slice_get, slice_set, refl, sym, ap, ◌∙◌, subst, inl, inr, arith}
use Rattle.std.specs.Prelude.{nat_eq, not}
use Rattle.std.specs.List.{list_any}
use Rattle.std.proofs.lemmas.Bool.{cases_Bool, cases_eq, eq-eqb, ne_eqb}
use Rattle.std.proofs.lemmas.Option.{slice_get_read}
use Rattle.vs_design.specs.Stores.{changed_at}
use Rattle.vs_design.specs.Writes.{Write, names, shares}
use Rattle.vs_process.proofs.Stores.{changed_other}
use Rattle.vs_design.specs.vs_logic4.proofs.Basics.{map_at as slice_map}
use Rattle.vs_run_regions.specs.declared.claims.Claim.{Claim}
use Rattle.vs_run_regions.specs.declared.claims.Claim.TheVariants.{Nothing, Once, Often}
use Rattle.vs_run_regions.specs.declared.update.Update.{Update}
use Rattle.vs_run_regions.specs.declared.update.Update.TheVariants as u
use Rattle.vs_run_regions.specs.Claims.{AreClaimed, HoldOf, Holds, are_once, claimed, is_once, named, one_of, parts_of, with_all, with_write}
use Rattle.vs_run_regions.specs.Updates.{is_first_left, is_shared, is_shown, left_of, what_of}
use Rattle.vs_run_regions.proofs.UpdatesLemmas.{is_left, slice_get-drop}

-- ---- claims that hold

holds_none : (c : Claim) → Holds c 0
holds_none Nothing = refl
holds_none Once = omega arith
holds_none Often = tt

holds_fewer : (c : Claim) (n m : ℕ) → m ≤ n → Holds c n → Holds c m
holds_fewer Nothing n m le h = omega (arith, le, h)
holds_fewer Once n m le h = omega (arith, le, h)
holds_fewer Often n m le h = tt

holds_more : (c : Claim) (n : ℕ) → Holds c n → Holds (claimed false c) (1 + n)
holds_more Nothing n h = omega (arith, h)
holds_more Once n h = tt
holds_more Often n h = tt

hold_fewer : (claims : List Claim) (f g : ℕ → ℕ) → ((v : ℕ) → g v ≤ f v) → HoldOf claims f → HoldOf claims g
hold_fewer claims f g le h v c is = holds_fewer c (f v) (g v) (le v) (h v c is)

-- ---- one part more

one_here : (v : ℕ) → one_of v v ≡ 1
one_here v = ap (λ b. cond b 1 0) (eq-eqb v v refl)

one_there : (signal v : ℕ) → (signal ≡ v → ⊥) → one_of signal v ≡ 0
one_there signal v ne = ap (λ b. cond b 1 0) (ne_eqb signal v ne)

changed_here : (claims : List Claim) (v : ℕ) (c : Claim) → slice_get (changed_at (claimed false) v claims) v ≡ Some c →
    (b : Claim) × (slice_get claims v ≡ Some b) × (c ≡ claimed false b)
changed_here [] v c is = cc
changed_here (x ∷ claims) zero c is = (x, refl, cc)
changed_here (x ∷ claims) (suc v) c is = changed_here claims v c is

pub claims_past : (f : Claim → Claim) (claims : List Claim) (signal : ℕ) → length claims ≤ signal → claims ≡ changed_at f signal claims
claims_past f [] signal h = refl
claims_past f (x ∷ claims) zero h = absurd (omega (arith, h))
claims_past f (x ∷ claims) (suc signal) h = ap (λ l. x ∷ l) (claims_past f claims signal (omega (arith, h)))

set_there : (f : Claim → Claim) (claims : List Claim) (signal : ℕ) (b : Claim) → slice_get claims signal ≡ Some b → slice_set claims signal (f b) ≡ changed_at f signal claims
set_there f [] signal b is = cc
set_there f (x ∷ claims) zero b is = let e : x ≡ b = cc in ap (λ y. f y ∷ claims) (sym e)
set_there f (x ∷ claims) (suc signal) b is = ap (λ l. x ∷ l) (set_there f claims signal b is)

pub claims_set : (f : Claim → Claim) (claims : List Claim) (signal : ℕ) (b c : Claim) → signal < length claims → b ≡ get_or claims signal b → c ≡ f b →
    slice_set claims signal c ≡ changed_at f signal claims
claims_set f claims signal b c within read is =
    ap (slice_set claims signal) is ∙ set_there f claims signal b (slice_get_read claims (length claims) signal b refl within read)

part_more : (claims : List Claim) (signal : ℕ) (f : ℕ → ℕ) → HoldOf claims f → HoldOf (changed_at (claimed false) signal claims) (λ v. one_of signal v + f v)
part_more claims signal f h v c is = elim (cases_eq signal v) [
  | inl here ↦
      let was = changed_here claims v c (subst (λ s. slice_get (changed_at (claimed false) s claims) v ≡ Some c) here is) in
      let one : one_of signal v ≡ 1 = subst (λ s. one_of s v ≡ 1) (sym here) (one_here v) in
      let counted : 1 + f v ≡ one_of signal v + f v = omega (arith, one) in
      subst (Holds c) counted (subst (λ x. Holds x (1 + f v)) (sym was.2) (holds_more was.0 (f v) (h v was.0 was.1)))
  | inr other ↦
      let none = one_there signal v other in
      let counted : f v ≡ one_of signal v + f v = omega (arith, none) in
      subst (Holds c) counted (h v c (sym (changed_other (claimed false) signal v claims (λ e. other (sym e))) ∙ is))
]

write_more : (w : Write) (claims : List Claim) (f : ℕ → ℕ) → HoldOf claims f → HoldOf (with_write false w claims) (λ v. parts_of v w + f v)
write_more [] claims f h = hold_fewer claims f (λ v. parts_of v [] + f v) (λ v. omega arith) h
write_more (p ∷ ps) claims f h =
    hold_fewer (with_write false ps (changed_at (claimed false) p.signal claims)) (λ v. parts_of v ps + (one_of p.signal v + f v)) (λ v. parts_of v (p ∷ ps) + f v) (λ v. omega arith)
    (write_more ps (changed_at (claimed false) p.signal claims) (λ v. one_of p.signal v + f v) (part_more claims p.signal f h))

all_more : (us : List (Option Write)) (claims : List Claim) (f : ℕ → ℕ) → HoldOf claims f → HoldOf (with_all false us claims) (λ v. named v us + f v)
all_more [] claims f h = hold_fewer claims f (λ v. named v [] + f v) (λ v. omega arith) h
all_more (None ∷ us) claims f h = all_more us claims f h
all_more (Some w ∷ us) claims f h =
    hold_fewer (with_all false us (with_write false w claims)) (λ v. named v us + (parts_of v w + f v)) (λ v. named v (Some w ∷ us) + f v) (λ v. omega arith)
    (all_more us (with_write false w claims) (λ v. parts_of v w + f v) (write_more w claims f h))

-- whatever was claimed before
claimed_anew : (us : List (Option Write)) (claims : List Claim) → HoldOf (with_all false us claims) (λ v. named v us)
claimed_anew us claims =
    hold_fewer (with_all false us claims) (λ v. named v us + 0) (λ v. named v us) (λ v. omega arith) (all_more us claims (λ v. 0) (λ v c is. holds_none c))

-- ---- updates leave

named_set : (v k : ℕ) (us : List (Option Write)) → named v (slice_set us k None) ≤ named v us
named_set v zero [] = omega arith
named_set v (suc k) [] = omega arith
named_set v zero (None ∷ us) = omega arith
named_set v zero (Some w ∷ us) = omega arith
named_set v (suc k) (None ∷ us) = named_set v k us
named_set v (suc k) (Some w ∷ us) = let rest = named_set v k us in omega (arith, rest)

named_next : (v : ℕ) (o : Option Write) (us : List (Option Write)) → named v us ≤ named v (o ∷ us)
named_next v None us = omega arith
named_next v (Some w) us = omega arith

named_drop : (ws : List Write) (v k : ℕ) (xs : List Update) → named v (map (left_of ws) (drop k xs)) ≤ named v (map (left_of ws) xs)
named_drop ws v zero [] = omega arith
named_drop ws v (suc k) [] = omega arith
named_drop ws v zero (x ∷ xs) = omega arith
named_drop ws v (suc k) (x ∷ xs) =
    let rest = named_drop ws v k xs in
    let next = named_next v (left_of ws x) (map (left_of ws) xs) in
    omega (arith, rest, next)

-- the claims of all updates hold of those that aren't made
pub claims_made : (ws : List Write) (made : ℕ) (xs : List Update) (before claims : List Claim) → claims ≡ with_all false (map (left_of ws) xs) before → (b : Bool) →
    AreClaimed b claims (map (left_of ws) (drop made xs))
claims_made ws made xs before claims e b told =
    hold_fewer claims (λ v. named v (map (left_of ws) xs)) (λ v. named v (map (left_of ws) (drop made xs))) (λ v. named_drop ws v made xs)
    (subst (λ l. HoldOf l (λ v. named v (map (left_of ws) xs))) (sym e) (claimed_anew (map (left_of ws) xs) before))

pub claims_taken : (b : Bool) (claims : List Claim) (us vs : List (Option Write)) (k : ℕ) → vs ≡ slice_set us k None → AreClaimed b claims us → AreClaimed b claims vs
claims_taken b claims us vs k e h told =
    subst (λ (l : List (Option Write)). HoldOf claims (λ v. named v l)) (sym e)
    (hold_fewer claims (λ v. named v us) (λ v. named v (slice_set us k None)) (λ v. named_set v k us) (h told))

pub claims_next : (b : Bool) (claims : List Claim) (us vs : List (Option Write)) (o : Option Write) → us ≡ o ∷ vs → AreClaimed b claims us → AreClaimed b claims vs
claims_next b claims us vs o e h told =
    hold_fewer claims (λ v. named v (o ∷ vs)) (λ v. named v vs) (λ v. named_next v o vs)
    (subst (λ (l : List (Option Write)). HoldOf claims (λ v. named v l)) e (h told))

-- ---- an update that no other one shares a signal with

parts_some : (w : Write) (v : ℕ) → names w v ≡ true → 1 ≤ parts_of v w
parts_some [] v h = cc
parts_some (p ∷ ps) v h = elim (cases_eq p.signal v) [
  | inl here ↦ let one : one_of p.signal v ≡ 1 = subst (λ s. one_of s v ≡ 1) (sym here) (one_here v) in omega (arith, one)
  | inr other ↦
      let rest = parts_some ps v (ap (λ b. b || names ps v) (sym (ne_eqb p.signal v other)) ∙ h) in
      omega (arith, rest)
]

named_some : (us : List (Option Write)) (i : ℕ) (w : Write) (v : ℕ) → slice_get us i ≡ Some (Some w) → parts_of v w ≤ named v us
named_some [] i w v is = cc
named_some (None ∷ us) zero w v is = cc
named_some (Some x ∷ us) zero w v is = let same : parts_of v x ≡ parts_of v w = cc in omega (arith, same)
named_some (None ∷ us) (suc i) w v is = named_some us i w v is
named_some (Some x ∷ us) (suc i) w v is = let rest = named_some us i w v is in omega (arith, rest)

-- a write that has a signal of another one names one that this other one names
shared : (a b : Write) → shares a b ≡ true → (v : ℕ) × (names a v ≡ true) × (names b v ≡ true)
shared [] b h = cc
shared (p ∷ ps) b h = elim (cases_Bool (names b p.signal)) [
  | inl here ↦ (p.signal, ap (λ x. x || names ps p.signal) (eq-eqb p.signal p.signal refl), here)
  | inr other ↦
      let rest = shared ps b (ap (λ x. x || shares ps b) (sym other) ∙ h) in
      (rest.0, or_right (nat_eq p.signal rest.0) (names ps rest.0) rest.1, rest.2)
]
  where
    or_right : (x y : Bool) → y ≡ true → (x || y) ≡ true
    or_right true y h = refl
    or_right false y h = h

once_at : (claims : List Claim) (f : ℕ → ℕ) (v : ℕ) (o : Option Claim) → slice_get claims v ≡ o → is_once o ≡ true → HoldOf claims f → f v ≤ 1
once_at claims f v None is once h = cc
once_at claims f v (Some Nothing) is once h = let none : f v ≡ 0 = h v Nothing is in omega (arith, none)
once_at claims f v (Some Once) is once h = h v Once is
once_at claims f v (Some Often) is once h = cc

once_named : (claims : List Claim) (f : ℕ → ℕ) (w : Write) (v : ℕ) → are_once claims w ≡ true → names w v ≡ true → HoldOf claims f → f v ≤ 1
once_named claims f [] v once n h = cc
once_named claims f (p ∷ ps) v once n h =
    let both = and_true (is_once (slice_get claims p.signal)) (are_once claims ps) once in
    elim (cases_eq p.signal v) [
      | inl here ↦ subst (λ s. f s ≤ 1) here (once_at claims f p.signal (slice_get claims p.signal) refl both.0 h)
      | inr other ↦ once_named claims f ps v both.1 (ap (λ b. b || names ps v) (sym (ne_eqb p.signal v other)) ∙ n) h
    ]
  where
    and_true : (x y : Bool) → (x && y) ≡ true → (x ≡ true) × (y ≡ true)
    and_true true y h = (refl, h)
    and_true false y h = cc

-- older updates name a signal of which another part stands after them no more than once
none_older : (us : List (Option Write)) (i : ℕ) (w : Write) → slice_get us i ≡ Some (Some w) → ((v : ℕ) → names w v ≡ true → named v us ≤ 1) →
    list_any (is_shared w) (take i us) ≡ false
none_older [] i w is once = cc
none_older (x ∷ us) zero w is once = refl
none_older (None ∷ us) (suc i) w is once = none_older us i w is once
none_older (Some x ∷ us) (suc i) w is once =
    let rest : list_any (is_shared w) (take i us) ≡ false =
    none_older us i w is (λ v n. let all = once v n in omega (arith, all))
    in
    elim (cases_Bool (shares x w)) [
      | inl clash ↦
          let both = shared x w clash in
          let here = parts_some x both.0 both.1 in
          let later = parts_some w both.0 both.2 in
          let below = named_some us i w both.0 is in
          let all = once both.0 both.2 in
          absurd (omega (arith, here, later, below, all))
      | inr free ↦ ap (λ b. b || list_any (is_shared w) (take i us)) free ∙ rest
    ]

pub alone_is_first : (claims : List Claim) (us : List (Option Write)) (i : ℕ) (w : Write) → slice_get us i ≡ Some (Some w) → are_once claims w ≡ true → AreClaimed true claims us →
    list_any (is_shared w) (take i us) ≡ false
alone_is_first claims us i w is once h = none_older us i w is (λ v n. once_named claims (λ s. named s us) w v once n (h refl))

-- what claims tell of the one of a number
pub alone_shown : (ws : List Write) (active : List Update) (made n at : ℕ) → at ≡ made + n → (x : Update) → slice_get active at ≡ Some x → (x ≡ u.Gone → ⊥) → (claims : List Claim) →
    are_once claims (what_of ws x) ≡ true → AreClaimed true claims (map (left_of ws) (drop made active)) → true ≡ is_first_left (map (left_of ws) (drop made active)) n
alone_shown ws active made n at at_is x is some claims once h =
    let us = map (left_of ws) (drop made active) in
    let there : slice_get us n ≡ Some (Some (what_of ws x)) =
    slice_map (left_of ws) (drop made active) n x (slice_get-drop active made n ∙ ap (slice_get active) (sym at_is) ∙ is) ∙ ap Some (is_left ws x some)
    in
    sym (ap not (alone_is_first claims us n (what_of ws x) there once h)) ∙ sym (ap (is_shown (take n us)) there)
