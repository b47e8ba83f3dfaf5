-- What lists have, and lists that are joined.
use Rattle.std.proofs.Common.{inl, inr, List, [], ◌∷◌, map, sym, subst}
use Rattle.std.specs.List.{Contains}
use Rattle.std.proofs.lemmas.List.Elements.{Contains-append_left, Contains-append_right, Contains-append_cases}
use Rattle.vs_design.specs.Uses.{joined}
use Rattle.vs_design.specs.vs_logic4.proofs.Basics.{none_in}
use Rattle.vs_maps.specs.vs_graph.proofs.RowLemmas.{head_in, tail_in, in_either}

-- of a list that is joined, and of the lists that it is joined of
pub joined_on : {A B : Type 0} (f : A → List B) (xs : List A) (b : B) → Contains (joined (map f xs)) b → (a : A) × Contains xs a × Contains (f a) b
joined_on f [] b h = absurd (none_in b h)
joined_on {A = A} {B = B} f (x ∷ xs) b h = elim (Contains-append_cases (f x) (joined (map f xs)) b h) [
  | inl l ↦ (x, head_in x xs, l)
  | inr r ↦ let y = joined_on f xs b r in (y.0, tail_in x y.0 xs y.1, y.2)
]

pub joined_back : {A B : Type 0} (f : A → List B) (xs : List A) (a : A) (b : B) → Contains xs a → Contains (f a) b → Contains (joined (map f xs)) b
joined_back f [] a b c h = absurd (none_in a c)
joined_back {A = A} {B = B} f (x ∷ xs) a b c h = elim (in_either x a xs c) [
  | inl e ↦ Contains-append_left (f x) (joined (map f xs)) b (subst (λ (y : A). Contains (f y) b) (sym e) h)
  | inr l ↦ Contains-append_right (f x) (joined (map f xs)) b (joined_back f xs a b l h)
]
