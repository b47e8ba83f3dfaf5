-- What all elements of lists do.
use Rattle.std.proofs.Common.{◌≡◌, ℕ, ◌+◌, ◌<◌, ◌⊎◌, inl, inr, List, get_or, sym, subst, arith}

pub further : (P : ℕ → Type 0) (xs : List ℕ) (i : ℕ) → ((k : ℕ) → k < i → P (get_or xs k 0)) → P (get_or xs i 0) → (k : ℕ) → k < i + 1 → P (get_or xs k 0)
further P xs i before here k h = elim (below k i h) [ inl l ↦ before k l | inr e ↦ subst (λ (n : ℕ). P (get_or xs n 0)) (sym e) here ] where
  below : (k n : ℕ) → k < n + 1 → (k < n) ⊎ (k ≡ n)
  below k n h = grind (arith, h)
