-- Names that are none of others.
use Rattle.std.specs.Prelude.{ℕ, Bool, not, List}
use Rattle.std.specs.List.{list_any}
use Rattle.std.specs.Str.{bytes_eq}

-- whether one of some names is none of these
abbrev pub has_other_name : List (List ℕ) → List (List ℕ) → Bool
has_other_name ns ms = list_any (λ m. not (list_any (bytes_eq m) ns)) ms
