-- The listing of a design: a line for each signal, continuous assignment and process (profile).
use Rattle.std.specs.Prelude.{ℕ, Bool, true, false, Option, List, [], ◌∷◌, ◌++◌, codes}
use Rattle.std.specs.List.{flat_map}
use Rattle.std.specs.Fmt.{decimal}
use Rattle.std.specs.Io.KnownBytes.{Appends}
use Rattle.vs_design.specs.declared.signal.Signal.{Signal}
use Rattle.vs_design.specs.declared.signal.SignalKind.{SignalKind}
use Rattle.vs_design.specs.declared.signal.SignalKind.TheVariants.{Wire, Reg, Integer}
use Rattle.vs_design.specs.declared.design.Assign.{Assign}
use Rattle.vs_design.specs.declared.design.Process.{Process}
use Rattle.vs_design.specs.declared.design.ProcessKind.{ProcessKind}
use Rattle.vs_design.specs.declared.design.ProcessKind.TheVariants.{Initial, Always}
use Rattle.vs_design.specs.Parts.{Parts}
use Rattle.vs_kernel.specs.vs_vcd_writing.specs.Sinks.{AppendsPart}
use Rattle.vs_simulate.specs.Honesty.{Defines}

-- the word of what a signal was declared as
abbrev pub kind_word : SignalKind → List ℕ
kind_word Wire = codes "wire"
kind_word Reg = codes "reg"
kind_word Integer = codes "integer"

-- the word of a sign
abbrev pub sign_word : Bool → List ℕ
sign_word true = codes "signed"
sign_word false = codes "unsigned"

-- the word of what a process was written as
abbrev pub process_word : ProcessKind → List ℕ
process_word Initial = codes "initial"
process_word Always = codes "always"

-- a word behind a space
abbrev pub spaced : List ℕ → List ℕ
spaced word = 32 ∷ word

-- the line of a signal: its path, what it was declared as, its size, its sign and how many words it has
abbrev pub signal_line : Signal → List ℕ
signal_line s =
    s.path.items ++ spaced (kind_word s.kind) ++ spaced (decimal s.width) ++ spaced (sign_word s.signed) ++ spaced (decimal s.count) ++ 10 ∷ []

-- the line of a continuous assignment
abbrev pub assign_line : Assign → List ℕ
assign_line a = a.name.items ++ spaced (codes "assign") ++ 10 ∷ []

-- the line of a process
abbrev pub process_line : Process → List ℕ
process_line p = p.name.items ++ spaced (process_word p.kind) ++ 10 ∷ []

-- the lines of a design, in design order
abbrev pub listing : Parts → List ℕ
listing d = flat_map signal_line d.signals ++ flat_map assign_line d.assigns ++ flat_map process_line d.processes

-- the listing of the design that bytes and a top define was appended to the known bytes of a sink
pub record IsListing (bytes top : List ℕ) (old new : Option (List ℕ)) : Type 0 where
  pub design : Parts
  pub defined : Defines bytes top design
  pub written : Appends old new (listing design)

-- what a listing leaves whose writing failed: a beginning of the listing of the design that the bytes and the top define was appended to the known
-- bytes of a sink
pub record HasBegunListing (bytes top : List ℕ) (old new : Option (List ℕ)) : Type 0 where
  pub design : Parts
  pub defined : Defines bytes top design
  pub begun : AppendsPart old new (listing design)
