-- Files that a call writes.
use Rattle.std.specs.Prelude.{ℕ, ◌≡◌, Option, Some, None, List}

-- a file was opened by this name, where it is known by which one
abbrev pub IsNamed : Option (List ℕ) → List ℕ → Type 0
IsNamed None path = Unit {0}
IsNamed (Some name) path = name ≡ path
