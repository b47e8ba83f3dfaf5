-- The signals that scopes declare, and the outline of scopes and signals.
use Rattle.std.specs.Prelude.{◌≡◌, ℕ, zero, suc, Bool, List, [], ◌∷◌, ◌++◌, Option, map}
use Rattle.vs_syntax.specs.declared.tree.Module.{Module}
use Rattle.vs_design.specs.declared.signal.Signal.{Signal}
use Rattle.vs_design.specs.declared.signal.SignalKind.{SignalKind}
use Rattle.vs_design.specs.declared.signal.Bounds.{Bounds}
use Rattle.vs_design.specs.declared.design.ScopeKind.{ScopeKind}
use Rattle.vs_design.specs.declared.design.Entry.{Entry}
use Rattle.vs_design.specs.declared.design.Entry.TheVariants.{Enter, Declare, Leave}
use Rattle.vs_scopes.specs.Printed.{printed, printed_name, printed_part}
use Rattle.vs_scopes.specs.Ranges.{word_count}
use Rattle.vs_scopes.specs.Declarations.{DeclaredName}
use Rattle.vs_scopes.specs.Generate.{Inner}
use Rattle.vs_scopes.specs.Nets.{permits_nets}
use Rattle.vs_scopes.specs.Scopes.{Scope, Before, before_following, within_first, inner_of, module_named, declarations_of, named, opened, opened_top, of_opened, scopes_within, deepest}

-- what a signal of a design shows
pub record Declared : Type 0 where
  pub name : List ℕ
  pub path : List ℕ
  pub kind : SignalKind
  pub width : ℕ
  pub signed : Bool
  pub range : Option Bounds
  pub words : Option Bounds
  pub count : ℕ

abbrev pub declared : Signal → Declared
declared s = record {
  name = s.name.items;
  path = s.path.items;
  kind = s.kind;
  width = s.width;
  signed = s.signed;
  range = s.range;
  words = s.words;
  count = s.count;
}

-- the signal of a declared name (clauses 4.2, 4.3.1, 4.8 and 4.9)
abbrev pub signal_of : Scope → DeclaredName → Declared
signal_of s d = record {
  name = printed_name d.name;
  path = printed (named s d.name);
  kind = d.kind;
  width = d.size.shape.width;
  signed = d.size.shape.signed;
  range = d.size.bounds;
  words = d.words.bounds;
  count = word_count d.words.bounds;
}

-- the signals that a scope declares, in text order
abbrev pub signals_of : Scope → List Declared
signals_of s = map (signal_of s) (declarations_of s)

-- one line of an outline, with signals by their numbers
pub data Line : Type 0 where
  enter : ScopeKind → List ℕ → Line
  declare : ℕ → Line
  leave : Line

-- lines that declare as many signals as there are names, numbered from a number on
abbrev pub declare_from : {A : Type 0} → ℕ → List A → List Line
declare_from base [] = []
declare_from base (x ∷ xs) = declare base ∷ declare_from (suc base) xs

-- the outline of a scope with these lines for the scopes inside it: it opens under its printed name, declares its signals, goes through the scopes
-- inside, and closes (clause 18.2.3)
abbrev pub outline_around : Scope → List Line → List Line
outline_around s lines = enter s.kind (printed_part s.title) ∷ declare_from s.base (declarations_of s) ++ lines ++ leave ∷ []

-- the outlines of instances and blocks in a scope, each by g, where f lists the scopes below each of them: with so much before them
abbrev pub outline_below : List Module → (Scope → List Scope) → (Scope → List Line) → Scope → Before → List Inner → List Line
outline_below ms f g s at [] = []
outline_below ms f g s at (x ∷ xs) =
    let scope = opened ms s at x in
    of_opened g scope ++ outline_below ms f g s (before_following at (of_opened f scope)) xs

-- the outline of a scope and those inside it down to so many levels
abbrev pub outline_within : ℕ → List Module → Scope → List Line
outline_within zero ms s = outline_around s []
outline_within (suc n) ms s =
    outline_around s (outline_below ms (scopes_within n ms) (outline_within n ms) s (within_first s) (inner_of s))

-- the outline of a source with a top
abbrev pub outline_of : List Module → List ℕ → List Line
outline_of ms top = of_opened (outline_within deepest ms) (opened_top (permits_nets ms top) (module_named ms top))

-- a line of a design's outline
abbrev pub IsEntry : Entry → Line → Type 0
IsEntry (Enter kind name) (enter k n) = (kind ≡ k) × (name.items ≡ n)
IsEntry (Declare i) (declare j) = i ≡ j
IsEntry Leave leave = Unit {0}
IsEntry _ _ = ⊥
