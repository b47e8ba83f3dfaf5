-- Names of a design, as those of its source that they print.
use Rattle.std.specs.Prelude.{◌≡◌, ℕ, ℤ, Bool, true, IsTrue, List, ◌++◌, Option, None}
use Rattle.std.specs.List.{All, list_all}
use Rattle.vs_syntax.specs.vs_lexer.specs.Tokens.{Lexeme}
use Rattle.vs_elaborate.specs.PrintableNames.{token_passes}
use Rattle.vs_syntax.specs.declared.tree.Module.{Module}
use Rattle.vs_syntax.specs.declared.tree.Source.{Source}
use Rattle.vs_syntax.specs.Derives.{Derives}
use Rattle.vs_syntax.specs.SourceNames.{declared_names}
use Rattle.vs_syntax.specs.Symbols.{symbols}
use Rattle.vs_scopes.specs.Uses.{names_used_among}
use Rattle.vs_design.specs.declared.design.Entry.{Entry}
use Rattle.vs_design.specs.declared.design.Entry.TheVariants.{Enter, Declare, Leave}
use Rattle.vs_design.specs.declared.design.ScopeKind.{ScopeKind}
use Rattle.vs_design.specs.declared.design.ScopeKind.TheVariants as k
use Rattle.vs_design.specs.declared.signal.Signal.{Signal}
use Rattle.vs_design.specs.Parts.{Parts}
use Rattle.vs_elaborate.specs.vs_scopes.specs.Generate.{numbered_name}
use Rattle.vs_elaborate.specs.vs_scopes.specs.Printed.{PathName, printed_name, printed_part}
use Rattle.vs_elaborate.specs.vs_elab_hierarchy.specs.Laws.{FitsTurn}
use Rattle.vs_elaborate.specs.DesignOf.{DesignOf}

-- a text is the printed form of a name that passes
pub record HasName (good : List ℕ → Bool) (text : List ℕ) : Type 0 where
  pub name : List ℕ
  pub passes : good name ≡ true
  pub printed : text ≡ printed_name name

-- a module is no turn of a loop, and a block may be one, with a number that 64 bits hold (clause 12.4.1)
abbrev pub IsTurnOf : ScopeKind → Option ℤ → Type 0
IsTurnOf k.Module turn = turn ≡ None
IsTurnOf k.Begin turn = FitsTurn turn

-- a text is the printed form of the name of a scope of this kind, and the name passes
pub record HasPart (good : List ℕ → Bool) (kind : ScopeKind) (text : List ℕ) : Type 0 where
  pub part : PathName
  pub passes : good part.name ≡ true
  pub turn : IsTurnOf kind part.turn
  pub printed : text ≡ printed_part part

-- a scope that is opened has such a name
abbrev pub IsNamedEntry : (List ℕ → Bool) → Entry → Type 0
IsNamedEntry good (Enter kind name) = HasPart good kind name.items
IsNamedEntry good (Declare number) = Unit {0}
IsNamedEntry good Leave = Unit {0}

-- the names of a design are printed forms of names that pass (clauses 3.7.1 and 12.5)
pub record HasNames (good : List ℕ → Bool) (d : Parts) : Type 0 where
  pub signals : All (λ (s : Signal). HasName good s.name.items) d.signals
  pub scopes : All (IsNamedEntry good) d.outline

-- every name that modules declare passes, their own among them, and every one that they use where an undeclared one is a net (clauses 3.7, 4.5 and
-- 12.1)
abbrev pub HasGoodModules : (List ℕ → Bool) → List Module → Type 0
HasGoodModules good ms = IsTrue (list_all good (declared_names ms ++ names_used_among ms))

-- What all names among tokens pass that derive a source, the names of its modules pass (clause 3.7).
abbrev pub NamesOfModulesAreTokens : Type 0
NamesOfModulesAreTokens = (good : List ℕ → Bool) (tokens : List Lexeme) (s : Source) → list_all (token_passes good) tokens ≡ true →
    Derives (symbols tokens) s → HasGoodModules good s.modules.items

-- the names that unnamed generate blocks get pass (clause 12.4.3)
abbrev pub NumberedPass : (List ℕ → Bool) → Type 0
NumberedPass good = (padding k : ℕ) → good (numbered_name padding k) ≡ true

-- The names of a design are those that its source declares or uses, or those of unnamed blocks, printed: what all of these pass, they pass.
abbrev pub NamesAreOfSource : Type 0
NamesAreOfSource = (good : List ℕ → Bool) (s : Source) (top : List ℕ) (d : Parts) → NumberedPass good → HasGoodModules good s.modules.items →
    DesignOf s top d → HasNames good d
