-- Numbers that rise, and one that isn't there.
use Rattle.std.proofs.Common.{◌≡◌, ℕ, ◌<◌, ◌≤◌, ◌⊎◌, inl, inr, None, Result, Err, List, length, get_or, subst, arith}
use Rattle.std.specs.Result.{MatchResult}
use Rattle.std.proofs.lemmas.Bool.{ne_eqb, cases_lt}
use Rattle.vs_graph.specs.Numbers.{IsPlaceOf, Rise}

cases : (i j : ℕ) → i ≤ j → (i < j) ⊎ (i ≡ j)
cases i j h = grind (arith, h)

-- numbers that rise don't fall
pub no_fall : (xs : List ℕ) → Rise xs → (i j : ℕ) → i ≤ j → j < length xs → get_or xs i 0 ≤ get_or xs j 0
no_fall xs rises i j h within = elim (cases i j h) [
  | inl l ↦ let c = rises i j l within in omega (arith, c)
  | inr e ↦ subst (λ (n : ℕ). get_or xs i 0 ≤ get_or xs n 0) e (omega arith)
]

-- what a search by halves tells of a number that it doesn't find
abbrev pub IsNotFound : List ℕ → ℕ → Result ℕ ℕ → Type 0
IsNotFound xs x r = MatchResult r (λ i. (i < length xs) × (get_or xs i 0 ≡ x)) (λ i. (i ≤ length xs) × ((k : ℕ) → k < i → get_or xs k 0 < x)
    × ((k : ℕ) → i ≤ k → k < length xs → x < get_or xs k 0))

pub not_there : (xs : List ℕ) (x i : ℕ) (r : Result ℕ ℕ) → r ≡ Err i → IsNotFound xs x r → IsPlaceOf xs x None
not_there xs x i r is told k within =
    let h = subst (IsNotFound xs x) is told in
    ne_eqb (get_or xs k 0) x (λ e. elim (cases_lt k i) [
      | inl l ↦ let c = h.1 k l in omega (arith, c, e)
      | inr m ↦ let c = h.2 k m within in omega (arith, c, e)
    ])
