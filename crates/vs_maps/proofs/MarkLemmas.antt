-- Lists that are put together.
use Rattle.std.proofs.Common.{◌≡◌, ◌⊎◌, ◌↔◌, inl, inr, List, ◌++◌, sym, subst}
use Rattle.std.specs.List.{Contains}
use Rattle.std.proofs.lemmas.List.Elements.{Contains-append_left, Contains-append_right, Contains-append_cases}

-- a list put at the end of one
pub put_more : {A : Type 0} (P : Type 0) (out rs new tos : List A) → P → new ≡ out ++ rs → rs ≡ tos → (r : A) → (Contains new r ↔ (Contains out r ⊎ (P × Contains tos r)))
put_more P out rs new tos p made same r = (
  λ c. elim (Contains-append_cases out rs r (subst (λ l. Contains l r) made c)) [ inl a ↦ inl a | inr b ↦ inr (p, subst (λ l. Contains l r) same b) ],
  λ y. subst (λ l. Contains l r) (sym made) (elim y [
    | inl a ↦ Contains-append_left out rs r a
    | inr b ↦ Contains-append_right out rs r (subst (λ l. Contains l r) (sym same) b.1)
  ]),
)
