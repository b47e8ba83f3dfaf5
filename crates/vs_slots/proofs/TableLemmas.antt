-- Rows, one after another.
use Rattle.std.proofs.Common.{ℕ, ◌+◌, ◌<◌, ◌↔◌, inl, inr, List, [], ◌∷◌, ◌++◌, length, sym, subst, arith}
use Rattle.std.specs.List.{Contains}
use Rattle.vs_design.specs.vs_logic4.proofs.Basics.{below_or}
use Rattle.vs_graph.specs.Rows.{row}
use Rattle.vs_maps.proofs.SiteLemmas.{row_before, row_last}

-- the first rows say what they have to
abbrev pub AreRows : (ℕ → ℕ → Type 0) → List (List ℕ) → Type 0
AreRows has table = (k r : ℕ) → k < length table → (Contains (row table k) r ↔ has k r)

pub no_rows : (has : ℕ → ℕ → Type 0) → AreRows has []
no_rows has k r h = absurd (omega (arith, h))

-- with a row more
pub row_more : (has : ℕ → ℕ → Type 0) (xs : List (List ℕ)) (own : List ℕ) → AreRows has xs → ((r : ℕ) → (Contains own r ↔ has (length xs) r)) →
    (k r : ℕ) → k < length xs + 1 → (Contains (row (xs ++ own ∷ []) k) r ↔ has k r)
row_more has xs own before here k r h = elim (below_or k (length xs) h) [
  | inl l ↦ subst (λ (ys : List ℕ). (Contains ys r ↔ has k r)) (sym (row_before xs own k l)) (before k r l)
  | inr e ↦ subst (λ (n : ℕ). (Contains (row (xs ++ own ∷ []) n) r ↔ has n r)) (sym e)
      (subst (λ (ys : List ℕ). (Contains ys r ↔ has (length xs) r)) (sym (row_last xs own)) (here r))
]
