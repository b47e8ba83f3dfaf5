-- How often names stand among others.
use Rattle.std.specs.Prelude.{◌≡◌, ℕ, suc, Bool, true, false, List, [], ◌∷◌, ◌++◌, Option, Some, None, if◌then◌else◌}
use Rattle.std.specs.List.{list_any}
use Rattle.std.specs.Str.{bytes_eq}
use Rattle.vs_widths.specs.Names.{meaning_of}
use Rattle.vs_scopes.specs.Ports.{without_name, left_over}

-- how often a name stands among these
abbrev pub occurrences : List (List ℕ) → List ℕ → ℕ
occurrences [] n = 0
occurrences (m ∷ ms) n = if bytes_eq n m then suc (occurrences ms n) else occurrences ms n

-- a count, none where there is none
abbrev pub count_of : Option ℕ → ℕ
count_of None = 0
count_of (Some k) = k

-- how often each name stands among these
abbrev pub Counts : List (List ℕ) → List (List ℕ × ℕ) → Type 0
Counts ns counts = (n : List ℕ) → count_of (meaning_of counts n) ≡ occurrences ns n

-- a name that was taken away once, or isn't among these
abbrev pub TakesOne : List (List ℕ) → List ℕ → List (List ℕ × ℕ) → Bool → Type 0
TakesOne ns n counts true = (list_any (bytes_eq n) ns ≡ true) × Counts (without_name n ns) counts
TakesOne ns n counts false = (list_any (bytes_eq n) ns ≡ false) × Counts ns counts

-- names that are left over behind those before, where these stand among others so often; and what is left to count
pub record Leaves (ns ms : List (List ℕ)) (old new : List (List ℕ)) (counts : List (List ℕ × ℕ)) : Type 0 where
  pub left : List (List ℕ)
  pub counts_left : Counts left counts
  pub same : (rest : List (List ℕ)) → new ++ left_over left rest ≡ old ++ left_over ns (ms ++ rest)
