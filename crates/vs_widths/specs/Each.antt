-- Two lists of which each element is related to that of the other.
use Rattle.std.specs.Prelude.{List, [], ◌∷◌}

-- a relation of the elements of two lists, one after another
pub data Each {A B : Type 0} (R : A → B → Type 0) : List A → List B → Type 0 where
  each_none : Each R [] []
  each_more : (x : A) (y : B) (xs : List A) (ys : List B) → R x y → Each R xs ys → Each R (x ∷ xs) (y ∷ ys)
