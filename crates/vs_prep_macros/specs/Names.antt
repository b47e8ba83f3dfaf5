-- Names that directives and uses want (IEEE 1364-2005, clause 19).
use Rattle.std.specs.Prelude.{ℕ, List, [], ◌∷◌, Option, None, Some, Result, Ok, Err, length, nat_lt, if◌then◌else◌}
use Rattle.vs_prep_macros.specs.Parts.{Part, parts_of}
use Rattle.vs_prep_macros.specs.declared.piece.Form.{Form}
use Rattle.vs_prep_macros.specs.declared.piece.Form.TheVariants as f
use Rattle.vs_prep_macros.specs.declared.fault.Fault.TheVariants as d
use Rattle.vs_prep_macros.specs.declared.fault.Halt.{Halt}
use Rattle.vs_prep_macros.specs.declared.fault.Halt.TheVariants as h
use Rattle.vs_prep_macros.specs.Limits.{name_limit}
use Rattle.vs_prep_macros.specs.Spaces.{skip_blank}

-- a piece that is a name, with the bytes behind it
abbrev pub named : Form → Part → Option (List ℕ × List ℕ)
named f.Name p = Some (p.text, p.rest)
named _ p = None

abbrev pub first_name : List Part → Option (List ℕ × List ℕ)
first_name [] = None
first_name (p ∷ ps) = named p.form p

-- the name at the front, with the bytes behind it
unfoldable pub name_at : List ℕ → Option (List ℕ × List ℕ)
name_at bytes = first_name (parts_of bytes)

-- the name at the front, or nothing, with the bytes behind it
abbrev pub split : List ℕ → Option (List ℕ × List ℕ) → List ℕ × List ℕ
split bytes None = ([], bytes)
split bytes (Some x) = (x.0, x.1)

abbrev pub split_name : List ℕ → List ℕ × List ℕ
split_name bytes = split bytes (name_at bytes)

-- a name that is wanted, which stands at these bytes
abbrev pub wanted_at : List ℕ → Option (List ℕ × List ℕ) → Result (List ℕ × List ℕ) Halt
wanted_at at None = Err (h.Here d.NoName)
wanted_at at (Some x) = if nat_lt name_limit (length x.0) then Err (h.At d.LongName (length at)) else Ok (x.0, x.1)

-- the name that a directive wants on its line, with the bytes behind it (profile: of at most 1,024 bytes)
unfoldable pub wanted_name : List ℕ → Result (List ℕ × List ℕ) Halt
wanted_name bytes = wanted_at (skip_blank bytes) (name_at (skip_blank bytes))
