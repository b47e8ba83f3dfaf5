-- Residues after some ticks.
use Rattle.std.proofs.Common.{◌≡◌, ℕ, ◌+◌, ◌%◌, ◌<◌, inl, inr, List, [], get_or, sym, ◌∙◌, ap, subst, arith}
use Rattle.std.proofs.Math.Nat.{add-mod-mod}
use Rattle.vs_design.specs.vs_logic4.proofs.Basics.{below_or}

pub mod_both : (r t m : ℕ) → (r % m + t % m) % m ≡ (r + t) % m
mod_both r t m = add-mod-mod (r % m) t m ∙ ap (λ (n : ℕ). n % m) (omega arith) ∙ add-mod-mod t r m ∙ ap (λ (n : ℕ). n % m) (omega arith)

pub further : (P : ℕ → Type 0) (xs : List ℕ) (i : ℕ) → ((k : ℕ) → k < i → P (get_or xs k 0)) → P (get_or xs i 0) → (k : ℕ) → k < i + 1 → P (get_or xs k 0)
further P xs i before here k h = elim (below_or k i h) [ inl l ↦ before k l | inr e ↦ subst (λ (n : ℕ). P (get_or xs n 0)) (sym e) here ]
