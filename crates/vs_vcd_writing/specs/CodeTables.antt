-- The table of codes that the header is written by: nothing that is promised rests on it.
use Rattle.std.specs.Prelude.{ℕ, suc, Option, Some, None, List, [], ◌∷◌, if◌then◌else◌}
use Rattle.vs_design.specs.declared.signal.Signal.{Signal}
use Rattle.vs_vcd_writing.specs.Codes.{is_array}

-- of each signal the number of its code, where it has one; that of the first is this one
abbrev pub code_table : ℕ → List Signal → List (Option ℕ)
code_table first [] = []
code_table first (s ∷ ss) = if is_array s then None ∷ code_table first ss else Some first ∷ code_table (suc first) ss
