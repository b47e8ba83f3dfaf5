-- The lines that a run prints.
use Rattle.std.specs.Prelude.{ℕ, List, [], ◌∷◌, ◌++◌}
use Rattle.vs_design.specs.Traces.{Line}

-- the bytes of lines, one after another; each ends with its line feed
abbrev pub lines_text : List Line → List ℕ
lines_text [] = []
lines_text (l ∷ ls) = l.text ++ lines_text ls
