-- Lemmas on elements of lists.
use Rattle.std.proofs.Common.{◌≡◌, ◌≢◌, ℕ, zero, suc, ◌<◌, Some, List, [], ◌∷◌, ◌++◌, length, refl, ap, arith, ◌⊎◌, inl, inr, ⊎_elim}
use Rattle.std.specs.Prelude.{slice_get, slice_set}

pub at_front : {A : Type 0} (xs ys : List A) (i : ℕ) → i < length xs → slice_get (xs ++ ys) i ≡ slice_get xs i
at_front [] ys i h = absurd (omega arith)
at_front (x ∷ xs) ys zero h = refl
at_front (x ∷ xs) ys (suc i) h = at_front xs ys i (omega arith)

-- an element of a list with one more at its end
pub of_pushed : {A : Type 0} (xs : List A) (y z : A) (i : ℕ) → slice_get (xs ++ y ∷ []) i ≡ Some z → (i < length xs) ⊎ ((i ≡ length xs) × (y ≡ z))
of_pushed [] y z zero e = inr (refl, cc)
of_pushed [] y z (suc i) e = absurd (cc)
of_pushed (x ∷ xs) y z zero e = inl (omega arith)
of_pushed (x ∷ xs) y z (suc i) e = ⊎_elim (λ h. inl (omega arith)) (λ h. inr (omega (arith, h.0), h.1)) (of_pushed xs y z i e)

pub set_other : {A : Type 0} (xs : List A) (i j : ℕ) (y : A) → j ≢ i → slice_get (slice_set xs i y) j ≡ slice_get xs j
set_other [] i j y h = refl
set_other (x ∷ xs) zero zero y h = absurd (h refl)
set_other (x ∷ xs) zero (suc j) y h = refl
set_other (x ∷ xs) (suc i) zero y h = refl
set_other (x ∷ xs) (suc i) (suc j) y h = set_other xs i j y (λ e. h (ap suc e))
