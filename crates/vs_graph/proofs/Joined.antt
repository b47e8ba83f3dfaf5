-- Lists that are put together.
use Rattle.std.proofs.Common.{◌≡◌, ℕ, ◌⊎◌, ◌↔◌, inl, inr, List, ◌++◌, sym, subst}
use Rattle.std.specs.List.{Contains}
use Rattle.std.proofs.lemmas.List.Elements.{Contains-append_left, Contains-append_right, Contains-append_cases}

pub put_on : (old more all kept : List ℕ) → kept ≡ old → all ≡ kept ++ more → (r : ℕ) → (Contains all r ↔ (Contains old r ⊎ Contains more r))
put_on old more all kept is made r = (
  λ h. elim (Contains-append_cases kept more r (subst (λ (l : List ℕ). Contains l r) made h)) [
    | inl a ↦ inl (subst (λ (l : List ℕ). Contains l r) is a)
    | inr b ↦ inr b
  ],
  λ y. subst (λ (l : List ℕ). Contains l r) (sym made) (elim y [
    | inl a ↦ Contains-append_left kept more r (subst (λ (l : List ℕ). Contains l r) (sym is) a)
    | inr b ↦ Contains-append_right kept more r b
  ]),
)

-- and then put in order
pub settled : (base all new : Type 0) → (new ↔ all) → (all ↔ base) → (new ↔ base)
settled base all new a b = (λ h. b.0 (a.0 h), λ h. a.1 (b.1 h))
