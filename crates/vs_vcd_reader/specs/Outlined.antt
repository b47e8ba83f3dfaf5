-- Which outlines are those of value change dumps.
use Rattle.std.specs.Prelude.{ℕ, List}
use Rattle.std.specs.List.{All}
use Rattle.vs_syntax.specs.vs_lexer.specs.Spelling.{IsSpelled}
use Rattle.vs_syntax.specs.vs_lexer.specs.Tokens.{Lexeme}
use Rattle.vs_syntax.specs.declared.tree.Source.{Source}
use Rattle.vs_syntax.specs.Derives.{Derives}
use Rattle.vs_syntax.specs.Symbols.{symbols}
use Rattle.vs_design.specs.declared.design.Entry.{Entry}
use Rattle.vs_design.specs.declared.design.Entry.TheVariants.{Enter, Declare, Leave}
use Rattle.vs_design.specs.declared.signal.Signal.{Signal}
use Rattle.vs_design.specs.Parts.{Parts}
use Rattle.vs_elaborate.specs.DesignOf.{DesignOf}
use Rattle.vs_vcd_lines.specs.Lines.{IsRange}
use Rattle.vs_vcd_lines.specs.Names.{IsName, IsScopeName}
use Rattle.vs_vcd_reader.specs.Conditions.{IsOutlined}

-- a signal has a name as it is printed, and a range with bounds from -2^63 to 2^63 - 1 where it has one
pub record IsPrintedSignal (s : Signal) : Type 0 where
  pub named : IsName s.name.items
  pub ranged : IsRange s.range

-- a scope that is opened has a name as it is printed
abbrev pub IsPrintedEntry : Entry → Type 0
IsPrintedEntry (Enter kind name) = IsScopeName kind name.items
IsPrintedEntry (Declare signal) = Unit {0}
IsPrintedEntry Leave = Unit {0}

-- the names of a design are as they are printed
pub record HasPrintedNames (d : Parts) : Type 0 where
  pub signals : All IsPrintedSignal d.signals
  pub scopes : All IsPrintedEntry d.outline

-- the outline of such a design that a source and a top define is that of a dump
abbrev pub OutlinesAreInOrder : Type 0
OutlinesAreInOrder = (source : Source) (top : List ℕ) (d : Parts) → DesignOf source top d → HasPrintedNames d → IsOutlined d

-- ---- designs of texts

-- the bounds of ranges are numbers of 64 bits, as those of every design in memory are
abbrev pub HasShortRanges : Parts → Type 0
HasShortRanges d = All (λ (s : Signal). IsRange s.range) d.signals

-- the bytes spell tokens that derive a source, and this with a top defines a design
pub record IsOfText (bytes top : List ℕ) (d : Parts) : Type 0 where
  pub tokens : List Lexeme
  pub source : Source
  pub spelled : IsSpelled bytes tokens
  pub derived : Derives (symbols tokens) source
  pub defined : DesignOf source top d

-- the names of the design of a text are as they are printed (clauses 3.7, 3.7.1 and 12.5)
abbrev pub NamesArePrinted : Type 0
NamesArePrinted = (bytes top : List ℕ) (d : Parts) → IsOfText bytes top d → HasShortRanges d → HasPrintedNames d

-- so its outline is that of a dump
abbrev pub OutlinesOfTextsAreInOrder : Type 0
OutlinesOfTextsAreInOrder = (bytes top : List ℕ) (d : Parts) → IsOfText bytes top d → HasShortRanges d → IsOutlined d
