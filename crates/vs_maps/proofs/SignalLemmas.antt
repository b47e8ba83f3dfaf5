-- Images put at the end of a list.
use Rattle.std.proofs.Common.{◌≡◌, ℕ, ◌⊎◌, ◌↔◌, inl, inr, List, [], ◌∷◌, ◌++◌, map, sym, ◌∙◌, ap, subst, arith}
use Rattle.std.specs.List.{Contains}
use Rattle.std.proofs.lemmas.List.Elements.{Contains-append_left, Contains-append_right, Contains-append_cases}
use Rattle.vs_graph.proofs.RowLemmas.{head_in as first_in}
use Rattle.vs_maps.proofs.RangeLemmas.{later_in, in_either}

pub image_in : {A B : Type 0} (f : A → B) (xs : List A) (v : B) → Contains (map f xs) v → (x : A) × Contains xs x × (f x ≡ v)
image_in f [] v h = absurd (omega (arith, h.1))
image_in f (x ∷ xs) v h = elim (in_either (f x) (map f xs) v h) [
  | inl e ↦ (x, first_in x xs, e)
  | inr m ↦ let y = image_in f xs v m in (y.0, later_in x xs y.0 y.1, y.2)
]

in_image : {A B : Type 0} (f : A → B) (xs : List A) (v : B) (x : A) → Contains xs x → f x ≡ v → Contains (map f xs) v
in_image f [] v x h e = absurd (omega (arith, h.1))
in_image f (y ∷ xs) v x h e = elim (in_either y xs x h) [
  | inl s ↦ subst (Contains (f y ∷ map f xs)) (ap f s ∙ e) (first_in (f y) (map f xs))
  | inr m ↦ later_in (f y) (map f xs) v (in_image f xs v x m e)
]

-- images put at the end of a list
pub images_put : {A B : Type 0} (f : A → B) (old new : List B) (xs : List A) → new ≡ old ++ map f xs → (v : B) →
    (Contains new v ↔ (Contains old v ⊎ ((x : A) × Contains xs x × (f x ≡ v))))
images_put f old new xs made v = (
  λ c. elim (Contains-append_cases old (map f xs) v (subst (λ l. Contains l v) made c)) [ inl a ↦ inl a | inr b ↦ inr (image_in f xs v b) ],
  λ y. subst (λ l. Contains l v) (sym made) (elim y [
    | inl a ↦ Contains-append_left old (map f xs) v a
    | inr b ↦ Contains-append_right old (map f xs) v (in_image f xs v b.0 b.1 b.2)
  ]),
)

-- nothing is put
pub none_put : (old : List ℕ) (Q : ℕ → Type 0) → ((v : ℕ) → Q v → ⊥) → (v : ℕ) → (Contains old v ↔ (Contains old v ⊎ Q v))
none_put old Q none v = (λ c. inl c, λ y. elim y [ inl a ↦ a | inr b ↦ absurd (none v b) ])
