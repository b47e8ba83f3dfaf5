-- What is kept beside a list: how many of its elements pass a test, and which.
use Rattle.std.specs.Prelude.{ℕ, ◌≡◌, ◌+◌, cond, zero, suc, ◌||◌, Bool, true, false, List, [], ◌∷◌, slice_get}
use Rattle.vs_process.specs.Executions.{if_some}

-- how many elements pass a test
abbrev pub count : {A : Type 0} → (A → Bool) → List A → ℕ
count test [] = 0
count test (x ∷ xs) = cond (test x) 1 0 + count test xs

-- whether a number is this one
abbrev pub is_number : ℕ → ℕ → Bool
is_number zero zero = true
is_number zero (suc i) = false
is_number (suc n) zero = false
is_number (suc n) (suc i) = is_number n i

-- whether a number stands in a list
abbrev pub names : List ℕ → ℕ → Bool
names [] i = false
names (n ∷ ns) i = is_number n i || names ns i

-- the numbers of a list are those of the elements that pass a test
pub record Lists {A : Type 0} (test : A → Bool) (xs : List A) (numbers : List ℕ) : Type 0 where
  pub each : (i : ℕ) → names numbers i ≡ if_some test (slice_get xs i)
