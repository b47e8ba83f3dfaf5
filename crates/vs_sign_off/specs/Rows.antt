-- The rows of a text.
use Rattle.std.specs.Prelude.{◌≡◌, ℕ, ◌+◌, ◌==◌, List, [], ◌∷◌, ◌++◌, if◌then◌else◌}
use Rattle.std.specs.Str.{bytes_eq}
use Rattle.vs_sign_off.specs.declared.uneven.Uneven.{Uneven}

-- the rows of a text that goes on where a row has begun with these bytes: each ends with a line feed, which is no part of it; what stands behind the last
-- line feed is no row
abbrev pub rows_from : List ℕ → List ℕ → List (List ℕ)
rows_from begun [] = []
rows_from begun (b ∷ text) = if b == 10 then begun ∷ rows_from [] text else rows_from (begun ++ b ∷ []) text

-- the rows of a text
abbrev pub rows : List ℕ → List (List ℕ)
rows text = rows_from [] text

-- how often a row stands among others
abbrev pub times : List ℕ → List (List ℕ) → ℕ
times row [] = 0
times row (r ∷ rs) = (if bytes_eq r row then 1 else 0) + times row rs

-- a row stands so often in one text, and not so often in another one
pub record AreUneven (one two : List ℕ) (u : Uneven) : Type 0 where
  pub first : times u.row.items (rows one) ≡ u.first
  pub other : times u.row.items (rows two) ≡ u.other
  pub unequal : u.first ≡ u.other → ⊥
