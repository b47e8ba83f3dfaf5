-- Names in lists, by their places.
use Rattle.std.specs.Prelude.{ℕ, suc, Option, Some, None, List, [], ◌∷◌, map, option_map, if◌then◌else◌}
use Rattle.std.specs.Str.{bytes_eq}
use Rattle.std.specs.Borrow.{Bor}
use Rattle.vs_rules.specs.Claims.{Name}

-- the first place of a name in a list, where it is there
abbrev pub place_in : List Name → Name → Option ℕ
place_in [] name = None
place_in (n ∷ ns) name = if bytes_eq n name then Some 0 else option_map suc (place_in ns name)

-- that of a name that may be there
abbrev pub place_for : List Name → Option Name → Option ℕ
place_for ns None = None
place_for ns (Some name) = place_in ns name

-- names as they are kept
abbrev pub texts : List (Bor Name) → List Name
texts names = map (λ (n : Bor Name). n.now) names
