-- The limits of macros (profile).
use Rattle.std.specs.Prelude.{ℕ}

-- the most bytes of a name
abbrev pub name_limit : ℕ
name_limit = 1024
