-- Combinational blocks that have taken a step since their control, at grain block.
use Rattle.std.specs.Prelude.{ℕ, suc, ◌≡◌, ◌&&◌, Bool, true, false, Option, Some, None, List, [], ◌∷◌, slice_get, if◌then◌else◌}
use Rattle.vs_design.specs.declared.design.Process.{Process}
use Rattle.vs_design.specs.Parts.{Parts}
use Rattle.vs_process.specs.declared.moves.Grain.TheVariants.{Block}
use Rattle.vs_process.specs.declared.moves.Move.{Move}
use Rattle.vs_process.specs.declared.moves.Move.TheVariants.{Step}
use Rattle.vs_process.specs.Places.{Place, is_inside}
use Rattle.vs_process.specs.States.{State, start}
use Rattle.vs_process.specs.Executions.{after, allowed, apply, is_combinational, is_enabled, is_free, is_step_of, Legal}

-- whether a process is a combinational block that has taken a step since its timing control ended
abbrev pub is_inside_block : Process → Place → Bool
is_inside_block p place = is_combinational p && is_inside place

-- of processes that are numbered from a number on, the first such block
abbrev pub inside_from : ℕ → List Process → List Place → Option ℕ
inside_from number [] places = None
inside_from number (p ∷ ps) [] = None
inside_from number (p ∷ ps) (place ∷ places) = if is_inside_block p place then Some number else inside_from (suc number) ps places

-- the first such block of a design's processes, by its number
abbrev pub inside_block : List Process → List Place → Option ℕ
inside_block ps places = inside_from 0 ps places

-- the same of a process and a place where there are both
abbrev pub is_inside_at : Option Process → Option Place → Bool
is_inside_at (Some p) (Some place) = is_inside_block p place
is_inside_at _ _ = false

-- whether the process of this number is such a block
abbrev pub is_inside_number : List Process → List Place → ℕ → Bool
is_inside_number ps places i = is_inside_at (slice_get ps i) (slice_get places i)

-- whether a move is a step of the process of this number, where there is one; any move is, where there is none
abbrev pub is_step_of_any : Option ℕ → Move → Bool
is_step_of_any None m = true
is_step_of_any (Some i) m = is_step_of i m

-- in a state that an execution at grain block reaches at most one combinational block has taken a step since its control, and a move is free
-- where none has, or where it is a step of that one (profile)
abbrev pub BlocksExclude : Type 0
BlocksExclude =
    (d : Parts) (moves : List Move) → Legal Block d moves →
    ((i k : ℕ) → is_inside_number d.processes (after d moves).places i ≡ true → is_inside_number d.processes (after d moves).places k ≡ true → i ≡ k) ×
    ((m : Move) → is_free Block d (after d moves) m ≡ is_step_of_any (inside_block d.processes (after d moves).places) m)

-- the block that has taken a step since its control, behind a move: that of the step's process alone
abbrev pub inside_after_move : List Process → List Place → Move → Option ℕ
inside_after_move ps places (Step i) = if is_inside_number ps places i then Some i else None
inside_after_move ps places _ = None

-- behind a move that is allowed at grain block it is that
abbrev pub InsideFollows : Type 0
InsideFollows =
    (d : Parts) (s : State) (m : Move) → allowed Block d s m ≡ true → inside_block d.processes (apply m s).places ≡ inside_after_move d.processes (apply m s).places m

-- where an execution begins, no block has taken a step since its control
abbrev pub NoneInsideFirst : Type 0
NoneInsideFirst = (d : Parts) → inside_block d.processes (start d).places ≡ None

-- a block that has taken a step since its control can take the next one
abbrev pub InsideGoesOn : Type 0
InsideGoesOn = (d : Parts) (s : State) (i : ℕ) → inside_block d.processes s.places ≡ Some i → is_enabled s (Step i) ≡ true
