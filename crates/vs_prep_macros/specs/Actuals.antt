-- The actual arguments of a macro's use (IEEE 1364-2005, clause 19.3.1).
use Rattle.std.specs.Prelude.{ℕ, ◌==◌, ◌&&◌, ◌||◌, ◌+◌, ◌-◌, List, [], ◌∷◌, ◌++◌, Option, None, Some, Result, Ok, Err, length, if◌then◌else◌}
use Rattle.vs_prep_macros.specs.Parts.{Part, parts_of, bytes_from}
use Rattle.vs_prep_macros.specs.declared.piece.Form.{Form}
use Rattle.vs_prep_macros.specs.declared.piece.Form.TheVariants as f
use Rattle.vs_prep_macros.specs.declared.actuals.Move.{Move}
use Rattle.vs_prep_macros.specs.declared.actuals.Move.TheVariants as m
use Rattle.vs_prep_macros.specs.declared.fault.Fault.{Fault}
use Rattle.vs_prep_macros.specs.declared.fault.Fault.TheVariants as d
use Rattle.vs_prep_macros.specs.declared.fault.Halt.{Halt}
use Rattle.vs_prep_macros.specs.declared.fault.Halt.TheVariants as h
use Rattle.vs_prep_macros.specs.Bodies.{is_mark}
use Rattle.vs_prep_macros.specs.Folds.{Turn, Goes, Ends, over}
use Rattle.vs_prep_macros.specs.Names.{name_at}
use Rattle.vs_prep_macros.specs.Spaces.{skip_space}
use Rattle.vs_prep_macros.specs.Directives.{is_directive}

-- a backquote behind which no name stands
abbrev pub nameless : List ℕ → Fault
nameless [] = d.LoneBackquote
nameless (b ∷ bs) = if is_mark b then d.Pasting else d.LoneBackquote

-- a use among actuals, from which on so many bytes are left: it is no directive
abbrev pub used : ℕ → ℕ → List ℕ → Option (List ℕ × List ℕ) → Result Move Halt
used depth left after None = Err (h.At (nameless after) left)
used depth left after (Some x) = if is_directive x.0 then Err (h.At d.DirectiveInActuals left) else Ok (m.Stays depth)

-- a parenthesis, a bracket or a brace is closed
abbrev pub closed : ℕ → Result Move Halt → Result Move Halt
closed depth outermost = if depth == 0 then outermost else Ok (m.Stays (depth - 1))

-- what a byte does, so deep in parentheses, brackets and braces
abbrev pub byte_move : ℕ → ℕ → Result Move Halt
byte_move depth b =
    if b == 40 || (b == 91 || b == 123) then Ok (m.Stays (depth + 1))
    else (if b == 41 then closed depth (Ok m.Closes)
    else (if b == 93 || b == 125 then closed depth (Err (h.Here d.OpenActuals))
    else (if b == 44 && depth == 0 then Ok m.Splits
    else Ok (m.Stays depth))))

abbrev pub first_move : ℕ → List ℕ → Result Move Halt
first_move depth [] = Ok (m.Stays depth)
first_move depth (b ∷ bs) = byte_move depth b

-- what a piece does, from which on so many bytes are left: it closes the actuals, splits them, or leaves them so deep; or it is at fault
abbrev pub move_by : Form → ℕ → ℕ → Part → Result Move Halt
move_by f.Other depth left p = first_move depth p.text
move_by f.OpenComment depth left p = Err (h.Here d.OpenActuals)
move_by f.CutText depth left p = Err (h.At d.CutText left)
move_by f.Backquote depth left p = used depth left p.rest (name_at p.rest)
move_by _ depth left p = Ok (m.Stays depth)

-- how deep the reading of actuals is in parentheses, brackets and braces, the bytes of this one so far, and those before it
pub record Reading : Type 0 where
  pub depth : ℕ
  pub text : List ℕ
  pub before : List (List ℕ)

-- the actuals, and the bytes behind the parenthesis that closes them
abbrev pub Found : Type 0
Found = Result (List (List ℕ) × List ℕ) Halt

abbrev pub moved : Reading → Part → Result Move Halt → Turn Reading Found
moved s p (Err e) = Ends (Err e)
moved s p (Ok m.Closes) = Ends (Ok (s.before ++ s.text ∷ [], p.rest))
moved s p (Ok m.Splits) = Goes (record { depth = 0; text = []; before = s.before ++ s.text ∷ [] })
moved s p (Ok (m.Stays depth)) = Goes (record { depth = depth; text = s.text ++ p.text; before = s.before })

-- a piece among actuals
abbrev pub read_piece : Reading → Part → Turn Reading Found
read_piece s p = moved s p (move_by p.form s.depth (length (bytes_from p)) p)

-- the actuals behind the parenthesis that opens them
unfoldable pub actuals_in : List ℕ → Found
actuals_in inside = over read_piece (λ s. Err (h.Here d.OpenActuals)) (record { depth = 0; text = []; before = [] }) (parts_of inside)

-- the actuals that stand first behind the name of a macro
abbrev pub opened : List ℕ → Found
opened [] = Err (h.Here d.NoActuals)
opened (b ∷ bs) = if b == 40 then actuals_in bs else Err (h.Here d.NoActuals)

abbrev pub actuals_of : List ℕ → Found
actuals_of bytes = opened (skip_space bytes)
