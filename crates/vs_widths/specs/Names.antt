-- Names and what they mean.
use Rattle.std.specs.Prelude.{◌≡◌, ℕ, Bool, true, false, List, [], ◌∷◌, ◌++◌, Option, Some, None, IsSome, map}
use Rattle.std.specs.Map.{lookup, update}
use Rattle.std.specs.Str.{bytes_eq}
use Rattle.std.specs.Borrow.{Bor}

-- entries under borrowed names, by the names' bytes
abbrev pub by_bytes : {V : Type 0} → List (Bor (List ℕ) × V) → List (List ℕ × V)
by_bytes es = map (λ e. (e.0.now, e.1)) es

-- what a name means, where it is declared
abbrev pub meaning_of : {V : Type 0} → List (List ℕ × V) → List ℕ → Option V
meaning_of names n = lookup (bytes_eq n) names

-- a name means what it is given, and the others what they did
abbrev pub Binds : {V : Type 0} → List (List ℕ × V) → List (List ℕ × V) → List ℕ → V → Type 0
Binds old new n v = (k : List ℕ) → meaning_of new k ≡ update bytes_eq (meaning_of old) n (Some v) k

-- a fresh name means what it is given, and the others what they did; another one is there already
abbrev pub Declares : {V : Type 0} → Bool → List (List ℕ × V) → List (List ℕ × V) → List ℕ → V → Type 0
Declares true old new n v = (meaning_of old n ≡ None) × Binds old new n v
Declares false old new n v = IsSome (meaning_of old n)

-- the names of scopes, those of the first before the others'
abbrev pub nested_names : {V : Type 0} → List (Bor (List (List ℕ × V))) → List (List ℕ × V)
nested_names [] = []
nested_names (names ∷ others) = names.now ++ nested_names others
