-- Classes of bytes.
use Rattle.std.specs.Prelude.{ℕ, ◌==◌, ◌&&◌, ◌||◌, Bool, not}
use Rattle.vs_lexer.specs.Bytes.{is_white, in_name, in_escaped, in_line}
use Rattle.vs_prep_macros.specs.declared.classes.Class.{Class}
use Rattle.vs_prep_macros.specs.declared.classes.Class.TheVariants as c

-- white space that stands on a line
abbrev pub is_blank : ℕ → Bool
is_blank b = not (b == 10) && is_white b

-- what the digits behind a base go on with: letters, digits, `_`, `$` and `?` (clause 3.5.1, and what is glued to it)
abbrev pub in_based : ℕ → Bool
in_based b = b == 63 || in_name b

-- carriage returns
abbrev pub is_return : ℕ → Bool
is_return b = b == 13

-- the bytes of a class
abbrev pub in_class : Class → ℕ → Bool
in_class c.White = is_white
in_class c.Blank = is_blank
in_class c.Line = in_line
in_class c.Escaped = in_escaped
in_class c.Name = in_name
in_class c.Digits = in_based
in_class c.Return = is_return
