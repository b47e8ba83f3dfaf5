-- Elements of lists.
use Rattle.std.proofs.Common.{◌≡◌, ℕ, zero, suc, ◌⊎◌, Bool, true, false, ◌||◌, Some, List, [], ◌∷◌, map, slice_get, slice_set, refl, sym, ◌∙◌, ap, subst, inl, inr}
use Rattle.std.specs.List.{list_any, list_all, All, IsDistinct, AllByRecursion}
use Rattle.std.proofs.lemmas.Map.Keys.{IsDistinct-head, IsDistinct-tail}
use Rattle.std.proofs.lemmas.List.Elements.{All-get_or}
use Rattle.std.proofs.lemmas.Option.{slice_get_within, get_or_from_slice_get}
use Rattle.std.proofs.lemmas.Bool.{cases_eq, cases_Bool, and_parts, and_from, or_left, or_right, or_from, true≢false}
use Rattle.vs_process.specs.States.{without}
use Rattle.std.proofs.lemmas.Map.Keys.{any_passes_from_place as at_any}

pub set_same : {A : Type 0} (xs : List A) (i : ℕ) (x y : A) → slice_get xs i ≡ Some x → slice_get (slice_set xs i y) i ≡ Some y
set_same [] i x y h = cc
set_same (z ∷ zs) zero x y h = refl
set_same (z ∷ zs) (suc i) x y h = set_same zs i x y h

pub set_other : {A : Type 0} (xs : List A) (i j : ℕ) (y : A) → (j ≡ i → ⊥) → slice_get (slice_set xs i y) j ≡ slice_get xs j
set_other [] i j y h = refl
set_other (z ∷ zs) zero zero y h = absurd (h refl)
set_other (z ∷ zs) zero (suc j) y h = refl
set_other (z ∷ zs) (suc i) zero y h = refl
set_other (z ∷ zs) (suc i) (suc j) y h = set_other zs i j y (λ e. h (ap suc e))

-- an element of a list of which one element was set
pub set_cases : {A : Type 0} (xs : List A) (i j : ℕ) (x y z : A) → slice_get xs i ≡ Some x → slice_get (slice_set xs i y) j ≡ Some z →
    ((j ≡ i) × (z ≡ y)) ⊎ ((j ≡ i → ⊥) × (slice_get xs j ≡ Some z))
set_cases xs i j x y z h g =
    elim (cases_eq j i) [
      | inl e ↦ let at_i : slice_get (slice_set xs i y) i ≡ Some z = subst (λ k. slice_get (slice_set xs i y) k ≡ Some z) e g in
          let y_is : slice_get (slice_set xs i y) i ≡ Some y = set_same xs i x y h in
          inl (e, cc)
      | inr ne ↦ inr (ne, sym (set_other xs i j y ne) ∙ g)
    ]

-- an element of a mapped list
pub map_cases : {A B : Type 0} (f : A → B) (xs : List A) (j : ℕ) (y : B) → slice_get (map f xs) j ≡ Some y → (x : A) × (slice_get xs j ≡ Some x) × (f x ≡ y)
map_cases f [] j y h = cc
map_cases f (x ∷ xs) zero y h = (x, refl, cc)
map_cases f (x ∷ xs) (suc j) y h = map_cases f xs j y h

pub list_all_like : {A : Type 0} (p q : A → Bool) (xs : List A) → ((x : A) → p x ≡ true → q x ≡ true) → list_all p xs ≡ true → list_all q xs ≡ true
list_all_like p q [] f h = refl
list_all_like p q (x ∷ xs) f h =
    let parts = and_parts (p x) (list_all p xs) h in
    and_from (q x) (list_all q xs) (f x parts.0) (list_all_like p q xs f parts.1)

-- no element of which a list has none
pub none_at : {A : Type 0} (p : A → Bool) (xs : List A) (i : ℕ) (x : A) → slice_get xs i ≡ Some x → list_any p xs ≡ false → p x ≡ false
none_at p xs i x h g =
    elim (cases_Bool (p x)) [
      | inl hit ↦ absurd (true≢false (sym (at_any p xs i x h hit) ∙ g))
      | inr miss ↦ miss
    ]

pub none_from : {A : Type 0} (p : A → Bool) (xs : List A) → ((i : ℕ) (x : A) → slice_get xs i ≡ Some x → p x ≡ false) → list_any p xs ≡ false
none_from p [] h = refl
none_from p (x ∷ xs) h = or_from (p x) (list_any p xs) (h 0 x refl) (none_from p xs (λ i. h (suc i)))

-- an element of a list of which all pass
pub all_slice : {A : Type 0} (P : A → Type 0) (xs : List A) (i : ℕ) (x : A) → slice_get xs i ≡ Some x → All P xs → P x
all_slice P xs i x is h = subst P (get_or_from_slice_get xs i x x is) (All-get_or P xs i x (slice_get_within xs i x is) h)

pub all_of : {A : Type 0} (P : A → Type 0) (xs : List A) (i : ℕ) (x : A) → slice_get xs i ≡ Some x → AllByRecursion P xs → P x
all_of P [] i x is h = cc
all_of P (y ∷ xs) zero x is h = let e : y ≡ x = cc in subst P e h.0
all_of P (y ∷ xs) (suc i) x is h = all_of P xs i x is h.1

-- equal elements of a list whose elements differ stand at one place
pub distinct_place : {K : Type 0} (eq : K → K → Bool) → ((x z : K) → x ≡ z → eq x z ≡ true) → (ks : List K) (j k : ℕ) (x z : K) → IsDistinct eq ks → slice_get ks j ≡ Some x → slice_get ks k ≡ Some z → x ≡ z → j ≡ k
distinct_place eq same [] j k x z h at_j at_k e = cc
distinct_place eq same (y ∷ ks) zero zero x z h at_j at_k e = refl
distinct_place eq same (y ∷ ks) zero (suc k) x z h at_j at_k e =
    let s : y ≡ z = cc in
    absurd (true≢false (sym (same y z s) ∙ all_of (λ q. eq y q ≡ false) ks k z at_k (IsDistinct-head eq y ks h)))
distinct_place eq same (y ∷ ks) (suc j) zero x z h at_j at_k e =
    let s : y ≡ x = cc in
    absurd (true≢false (sym (same y x s) ∙ all_of (λ q. eq y q ≡ false) ks j x at_j (IsDistinct-head eq y ks h)))
distinct_place eq same (y ∷ ks) (suc j) (suc k) x z h at_j at_k e = ap suc (distinct_place eq same ks j k x z (IsDistinct-tail eq y ks h) at_j at_k e)

-- a list of which one element was set
pub all_set : {A : Type 0} (p : A → Bool) (xs : List A) (i : ℕ) (y : A) → p y ≡ true → list_all p xs ≡ true → list_all p (slice_set xs i y) ≡ true
all_set p [] i y h all = refl
all_set p (x ∷ xs) zero y h all = and_from (p y) (list_all p xs) h (and_parts (p x) (list_all p xs) all).1
all_set p (x ∷ xs) (suc i) y h all = let parts = and_parts (p x) (list_all p xs) all in and_from (p x) (list_all p (slice_set xs i y)) parts.0 (all_set p xs i y h parts.1)

-- a list without one of its elements
pub any_without : {A : Type 0} (p : A → Bool) (i : ℕ) (xs : List A) → list_any p (without i xs) ≡ true → list_any p xs ≡ true
any_without p i [] h = h
any_without p zero (x ∷ xs) h = or_right (p x) (list_any p xs) h
any_without p (suc i) (x ∷ xs) h =
    elim (cases_Bool (p x)) [
      | inl hit ↦ or_left (p x) (list_any p xs) hit
      | inr miss ↦ or_right (p x) (list_any p xs) (any_without p i xs (sym (ap (λ b. b || list_any p (without i xs)) miss) ∙ h))
    ]
