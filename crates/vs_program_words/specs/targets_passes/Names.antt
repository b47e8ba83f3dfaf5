-- Names in order, for private clauses.
use Rattle.std.specs.Prelude.{ℕ, ◌≡◌, Bool, List, is_some}
use Rattle.std.specs.List.{list_any}
use Rattle.std.specs.Str.{bytes_eq}
use Rattle.vs_widths.specs.Names.{meaning_of}

-- just these names have a meaning
abbrev pub AreIndexed : List (List ℕ) → List (List ℕ × Bool) → Type 0
AreIndexed names index = (n : List ℕ) → is_some (meaning_of index n) ≡ list_any (bytes_eq n) names
