-- What the functions on names of unnamed blocks answer.
use Rattle.std.specs.Prelude.{◌≡◌, ℕ, List, Option, is_some}
use Rattle.std.specs.List.{list_any}
use Rattle.std.specs.Option.{option_map}
use Rattle.std.specs.Str.{bytes_eq}
use Rattle.vs_widths.specs.Names.{meaning_of}
use Rattle.vs_scopes.specs.Generate.{numbered_name}

-- these names, and no others, have a meaning
abbrev pub AreNames : {V : Type 0} → List (List ℕ) → List (List ℕ × V) → Type 0
AreNames ns bs = (n : List ℕ) → is_some (meaning_of bs n) ≡ list_any (bytes_eq n) ns

-- the name of an unnamed block of this number with so many zeros
abbrev pub free_with : ℕ → Option ℕ → Option (List ℕ)
free_with number o = option_map (λ (padding : ℕ). numbered_name padding number) o
