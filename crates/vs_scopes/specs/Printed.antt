-- How names and paths are printed.
use Rattle.std.specs.Prelude.{ℕ, ℤ, Bool, true, false, ◌&&◌, ◌||◌, ◌==◌, nat_le, List, [], ◌∷◌, ◌++◌, Option, None, Some, map, codes, if◌then◌else◌}
use Rattle.std.specs.List.{flat_map, list_all, join_with_byte}
use Rattle.std.specs.Fmt.{decimal, signed_decimal}
use Rattle.std.specs.Ordering.{int_eq}
use Rattle.std.specs.Cmp.Lexicographic.{pointwise}
use Rattle.std.specs.Str.{bytes_eq}

-- a letter or `_` (clause 3.7)
abbrev pub is_letter : ℕ → Bool
is_letter c = (nat_le 65 c && nat_le c 90) || (nat_le 97 c && nat_le c 122) || (c == 95)

-- a letter, a digit, `_` or `$` (clause 3.7)
abbrev pub is_name_byte : ℕ → Bool
is_name_byte c = is_letter c || (nat_le 48 c && nat_le c 57) || (c == 36)

-- whether these bytes are a simple name (clause 3.7)
abbrev pub is_simple : List ℕ → Bool
is_simple [] = false
is_simple (c ∷ cs) = is_letter c && list_all is_name_byte cs

-- A byte of an escaped name as it is printed. No name of a text holds a space or the byte 127; in a tree that no text has, they are spelled with the
-- byte 127 before them, so that the first space ends a printed name, and printed paths differ whatever the names are (clause 3.7.1; profile).
abbrev pub escaped_byte : ℕ → List ℕ
escaped_byte c = if c == 32 then 127 ∷ 49 ∷ [] else if c == 127 then 127 ∷ 48 ∷ [] else c ∷ []

-- a name as it is printed: one that isn't simple is escaped, with a backslash before and a space behind it (clause 3.7.1; profile)
abbrev pub printed_name : List ℕ → List ℕ
printed_name n = if is_simple n then n else 92 ∷ flat_map escaped_byte n ++ 32 ∷ []

-- a name of a path, with the value of the genvar where it is that of a turn of a generate loop (clauses 12.4.1 and 12.5)
pub record PathName : Type 0 where
  pub name : List ℕ
  pub turn : Option ℤ

-- a name that is no turn of a loop
abbrev pub plainly : List ℕ → PathName
plainly n = record { name = n; turn = None }

-- a value of a genvar as it is printed behind the name of a loop's block (clause 12.4.1)
abbrev pub printed_turn : Option ℤ → List ℕ
printed_turn None = []
printed_turn (Some v) = 91 ∷ signed_decimal v ++ 93 ∷ []

-- a name of a path as it is printed
abbrev pub printed_part : PathName → List ℕ
printed_part p = printed_name p.name ++ printed_turn p.turn

-- the names from the top to a scope or a signal (clause 12.5)
abbrev pub Path : Type 0
Path = List PathName

-- whether two turns are the same
abbrev pub same_turn : Option ℤ → Option ℤ → Bool
same_turn None None = true
same_turn (Some a) (Some b) = int_eq a b
same_turn _ _ = false

-- whether two names of paths are the same, and whether two paths are
abbrev pub same_part : PathName → PathName → Bool
same_part p q = bytes_eq p.name q.name && same_turn p.turn q.turn

abbrev pub same_path : Path → Path → Bool
same_path = pointwise same_part

-- a path as it is printed: its names joined by `.` (clause 12.5)
abbrev pub printed : Path → List ℕ
printed p = join_with_byte 46 (map printed_part p)

-- the name of a part in its scope: `#`, a letter and the number (profile)
abbrev pub own_name : ℕ → ℕ → List ℕ
own_name letter k = 35 ∷ letter ∷ decimal k

-- the name of the continuous assignment of a port in the port's scope: `#io:` and the port's name (profile)
abbrev pub port_assign_name : List ℕ → List ℕ
port_assign_name n = codes "#io:" ++ printed_name n

-- a part by the path of its scope and its name there
abbrev pub part_name : Path → List ℕ → List ℕ
part_name p n = printed p ++ n
