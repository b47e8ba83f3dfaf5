-- Lists from a place on.
use Rattle.std.proofs.Common.{◌≡◌, ℕ, zero, suc, ◌<◌, Some, List, [], ◌∷◌, ◌++◌, length, take, drop, ap, arith}
use Rattle.std.specs.Prelude.{slice_get}
use Rattle.std.specs.List.{All}

-- the element at a place, and those after it
pub drop_head : {A : Type 0} (n : ℕ) (l : List A) (x : A) (xs : List A) → drop n l ≡ x ∷ xs
    → (slice_get l n ≡ Some x) × (drop (suc n) l ≡ xs) × (n < length l)
drop_head zero [] x xs e = absurd cc
drop_head zero (y ∷ l) x xs e =
    let first : y ≡ x = cc in
    let rest : l ≡ xs = cc in
    (ap Some first, rest, omega arith)
drop_head (suc n) [] x xs e = absurd cc
drop_head (suc n) (y ∷ l) x xs e =
    let h = drop_head n l x xs e in
    (h.0, h.1, omega (arith, h.2))

pub take_head : {A : Type 0} (n : ℕ) (l : List A) (x : A) (xs : List A) → drop n l ≡ x ∷ xs → take (suc n) l ≡ take n l ++ x ∷ []
take_head zero [] x xs e = absurd cc
take_head zero (y ∷ l) x xs e = let first : y ≡ x = cc in ap (λ z. z ∷ []) first
take_head (suc n) [] x xs e = absurd cc
take_head (suc n) (y ∷ l) x xs e = ap (λ z. y ∷ z) (take_head n l x xs e)

pub all_head : {A : Type 0} (P : A → Type 0) (x : A) (xs : List A) → All P (x ∷ xs) → P x
all_head P x xs h = h 0 x (omega arith)

pub all_tail : {A : Type 0} (P : A → Type 0) (x : A) (xs : List A) → All P (x ∷ xs) → All P xs
all_tail P x xs h = λ k d within. h (suc k) d (omega (arith, within))
