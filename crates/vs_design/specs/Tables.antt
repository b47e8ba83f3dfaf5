-- The tables of readers, of listeners and of places in a store that a design keeps: nothing that is promised rests on these.
use Rattle.std.specs.Prelude.{ℕ, suc, ◌==◌, ◌≡◌, Bool, false, if◌then◌else◌, List, [], ◌∷◌, ◌++◌, map, get_or, replicate}
use Rattle.std.specs.declared.vec.Vec.{Vec}
use Rattle.std.specs.declared.alloc.Global.{Global}
use Rattle.vs_design.specs.declared.design.Assign.{Assign}
use Rattle.vs_design.specs.declared.design.Process.{Process}
use Rattle.vs_design.specs.declared.extent.Layout.{Layout}
use Rattle.vs_design.specs.declared.signal.Signal.{Signal}
use Rattle.vs_design.specs.declared.statement.EventTerm.{EventTerm}
use Rattle.vs_design.specs.declared.range.BitRange.{BitRange}
use Rattle.vs_design.specs.declared.readers.Reader.{Reader}
use Rattle.vs_design.specs.Stores.{changed_at}
use Rattle.vs_design.specs.Uses.{reads}
use Rattle.vs_design.specs.Readers.{readers}
use Rattle.vs_design.specs.Statements.{event_terms}
use Rattle.vs_design.specs.Listeners.{listeners}
use Rattle.vs_design.specs.passes.Planes.{AreInTurn, counts_of, widths_of}

-- the rows of a table, as lists
abbrev pub rows : {A : Type 0} → List (Vec A Global) → List (List A)
rows {A = A} table = map (λ (row : Vec A Global). row.items) table

-- a table with one reader more, in the row of the signal that it reads
abbrev pub noted : Reader → List (List Reader) → List (List Reader)
noted r table = changed_at (λ row. row ++ r ∷ []) r.range.signal table

abbrev pub all_noted : ℕ → List BitRange → List (List Reader) → List (List Reader)
all_noted number [] table = table
all_noted number (r ∷ rs) table = all_noted number rs (noted (record { assign = number; range = r }) table)

-- a table with the readings of continuous assignments, numbered from one on
abbrev pub tabled : ℕ → List Assign → List (List Reader) → List (List Reader)
tabled number [] table = table
tabled number (a ∷ rest) table = tabled (suc number) rest (all_noted number (reads a.source) table)

-- so many empty rows
abbrev pub empty_rows : {A : Type 0} → ℕ → List (List A)
empty_rows n = replicate n []

-- the table of a design: of each signal its readers, and of a signal past the end none
abbrev pub AreReaders : List Assign → List (Vec Reader Global) → Type 0
AreReaders assigns table = (signal : ℕ) → get_or (rows table) signal [] ≡ readers assigns signal

-- whether a number is the last one of a row
abbrev pub ends_with : ℕ → List ℕ → Bool
ends_with number [] = false
ends_with number (n ∷ []) = n == number
ends_with number (n ∷ m ∷ rest) = ends_with number (m ∷ rest)

-- a row with a number at its end, where it isn't there yet
abbrev pub ending_with : ℕ → List ℕ → List ℕ
ending_with number row = if ends_with number row then row else row ++ number ∷ []

-- a table with a process in the row of each signal that event terms name
abbrev pub all_heard : ℕ → List EventTerm → List (List ℕ) → List (List ℕ)
all_heard number [] table = table
all_heard number (t ∷ ts) table = all_heard number ts (changed_at (ending_with number) t.range.signal table)

-- a table with what processes wait for, numbered from one on
abbrev pub heard : ℕ → List Process → List (List ℕ) → List (List ℕ)
heard number [] table = table
heard number (p ∷ rest) table = heard (suc number) rest (all_heard number (event_terms p.body) table)

-- the table of a design: of each signal its listeners, and of a signal past the end none
abbrev pub AreListeners : List Process → List (Vec ℕ Global) → Type 0
AreListeners processes table = (signal : ℕ) → get_or (rows table) signal [] ≡ listeners processes signal

-- the table of a design: of each signal as many words of its size, those of one behind those of another
pub record AreExtents (signals : List Signal) (extents : List Layout) : Type 0 where
  pub in_turn : AreInTurn extents
  pub counts : counts_of extents ≡ map (λ (s : Signal). s.count) signals
  pub widths : widths_of extents ≡ map (λ (s : Signal). s.width) signals
