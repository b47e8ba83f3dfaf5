-- Rows of things: a list for each number below a bound.
use Rattle.std.specs.Prelude.{ℕ, zero, suc, ◌<◌, ◌↔◌, List, [], ◌∷◌, ◌++◌, get_or, map, replicate}
use Rattle.std.specs.List.{Contains}
use Rattle.std.specs.declared.vec.Vec.{Vec}
use Rattle.std.specs.declared.alloc.Global.{Global}

-- the rows of a table, as lists
abbrev pub rows : {A : Type 0} → List (Vec A Global) → List (List A)
rows {A = A} table = map (λ (row : Vec A Global). row.items) table

-- so many empty rows
abbrev pub empty_rows : {A : Type 0} → ℕ → List (List A)
empty_rows n = replicate n []

-- the row of a number; past the end it is empty
abbrev pub row : {A : Type 0} → List (List A) → ℕ → List A
row table i = get_or table i []

-- rows with a thing at the end of that of a number; past the end there is none
abbrev pub with_one : {A : Type 0} → ℕ → A → List (List A) → List (List A)
with_one i x [] = []
with_one zero x (xs ∷ table) = (xs ++ x ∷ []) ∷ table
with_one (suc i) x (xs ∷ table) = xs ∷ with_one i x table

-- rows with a thing at the ends of those of some numbers
abbrev pub with_all : {A : Type 0} → List ℕ → A → List (List A) → List (List A)
with_all [] x table = table
with_all (i ∷ numbers) x table = with_all numbers x (with_one i x table)

-- the row of each number below n has those of m things that have the number
abbrev pub AreRows : (ℕ → ℕ → Type 0) → ℕ → ℕ → List (List ℕ) → Type 0
AreRows has m n table = (r i : ℕ) → r < n → (Contains (row table r) i ↔ ((i < m) × has i r))
