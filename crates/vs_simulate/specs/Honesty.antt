-- What a simulation is, from the bytes of a source to the bytes of its value change dump.
use Rattle.std.specs.Prelude.{ℕ, ◌≡◌, ◌⊎◌, Bool, true, false, Option, Result, Ok, Err, List}
use Rattle.vs_syntax.specs.vs_lexer.specs.Tokens.{Lexeme}
use Rattle.vs_syntax.specs.vs_lexer.specs.Spelling.{IsSpelled, Fails as LexFails}
use Rattle.vs_syntax.specs.Symbols.{symbols}
use Rattle.vs_syntax.specs.Derives.{Derives}
use Rattle.vs_syntax.specs.declared.tree.Source.{Source}
use Rattle.vs_parser.specs.Faults.{IsRefused}
use Rattle.vs_parser.specs.declared.fault.ParseFault.{ParseFault}
use Rattle.vs_elaborate.specs.vs_scopes.specs.declared.faults.ElabFault.{ElabFault}
use Rattle.vs_design.specs.Parts.{Parts}
use Rattle.vs_elaborate.specs.DesignOf.{DesignOf}
use Rattle.vs_elaborate.specs.Faults.{Faults}
use Rattle.vs_kernel.specs.Runs.{RanTo, HasBegun}
use Rattle.vs_kernel.specs.Shows.{ShowsSlotEnds}
use Rattle.vs_kernel.specs.declared.outcome.Outcome.{Outcome}
use Rattle.vs_kernel.specs.declared.outcome.RunFault.TheVariants as run
use Rattle.vs_simulate.specs.declared.fault.SimFault.{SimFault}
use Rattle.vs_simulate.specs.declared.fault.SimFault.TheVariants.{Lex, Parse, Elab, Run, Memory}

-- the bytes spell tokens, these derive a source (clause 3, annex A)
pub record ReadsSource (bytes : List ℕ) (source : Source) : Type 0 where
  pub tokens : List Lexeme
  pub spelled : IsSpelled bytes tokens
  pub derived : Derives (symbols tokens) source

-- the bytes and the name of a top module define a design (clause 12)
pub record Defines (bytes top : List ℕ) (d : Parts) : Type 0 where
  pub source : Source
  pub read : ReadsSource bytes source
  pub defined : DesignOf source top d

-- the bytes spell tokens that derive no source, as the fault says
pub record DerivesNone (bytes : List ℕ) (fault : ParseFault) : Type 0 where
  pub tokens : List Lexeme
  pub spelled : IsSpelled bytes tokens
  pub refused : IsRefused tokens fault

-- the bytes spell tokens that derive a source, which with this top defines no design, as the fault says
pub record ElaboratesToNone (bytes top : List ℕ) (fault : ElabFault) : Type 0 where
  pub source : Source
  pub read : ReadsSource bytes source
  pub refused : Faults source top fault

-- what a fault before the run says of the bytes and the top
abbrev pub DefinesNone : List ℕ → List ℕ → SimFault → Type 0
DefinesNone bytes top (Lex fault) = LexFails bytes fault
DefinesNone bytes top (Parse fault) = DerivesNone bytes fault
DefinesNone bytes top (Elab fault) = ElaboratesToNone bytes top fault
DefinesNone bytes top (Run fault) = ⊥
DefinesNone bytes top Memory = ⊥

-- what a fault says of the bytes and the top: a refusal stands, and a run fails for memory or a write alone
abbrev pub SimulationFails : List ℕ → List ℕ → SimFault → Type 0
SimulationFails bytes top (Lex fault) = LexFails bytes fault
SimulationFails bytes top (Parse fault) = DerivesNone bytes fault
SimulationFails bytes top (Elab fault) = ElaboratesToNone bytes top fault
SimulationFails bytes top (Run fault) = ((d : Parts) × Defines bytes top d) × ((fault ≡ run.Memory) ⊎ (fault ≡ run.Write))
SimulationFails bytes top Memory = Unit {0}

-- whether a fault is told before the run
abbrev pub is_refusal : SimFault → Bool
is_refusal (Run fault) = false
is_refusal _ = true

-- a simulation that answered an outcome: the design that the bytes and the top define ran to the moment in at most so many steps, and the value
-- change dump of this run was appended to the known bytes of a sink, and its lines to those of another one; the dump shows, of each signal that is no
-- array, at each time, the value at the end of the last slot at or before that time
pub record IsRun (bytes top : List ℕ) (until steps : ℕ) (outcome : Outcome) (old new lines_old lines_new : Option (List ℕ)) : Type 0 where
  pub design : Parts
  pub defined : Defines bytes top design
  pub ran : RanTo design until steps outcome old new lines_old lines_new
  pub shows : ShowsSlotEnds design ran.moves until

-- whether a simulation failed because a sink did
abbrev pub is_write : {A : Type 0} → Result A SimFault → Bool
is_write (Ok x) = false
is_write (Err (Run run.Write)) = true
is_write (Err _) = false

-- what a simulation leaves whose run failed: a beginning of the value change dump of an execution of the design that the bytes and the top define
-- was appended to the known bytes of a sink, and a beginning of its lines to those of another one
pub record HasBegunRun (bytes top : List ℕ) (until steps : ℕ) (old new lines_old lines_new : Option (List ℕ)) : Type 0 where
  pub design : Parts
  pub defined : Defines bytes top design
  pub begun : HasBegun design until steps old new lines_old lines_new
