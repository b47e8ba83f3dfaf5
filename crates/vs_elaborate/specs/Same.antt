-- When two designs say the same: they differ at most in where their parts lie in memory.
use Rattle.std.specs.Prelude.{◌≡◌, ℕ, Bool, List, [], ◌∷◌, map}
use Rattle.std.specs.List.{AllZip}
use Rattle.std.specs.declared.vec.Vec.{Vec}
use Rattle.std.specs.declared.boxed.Box.{Box}
use Rattle.std.specs.declared.alloc.Global.{Global}
use Rattle.vs_design.specs.vs_logic4.specs.declared.case.CaseKind.{CaseKind}
use Rattle.vs_design.specs.vs_logic4.specs.declared.digit.Digit.{Digit}
use Rattle.vs_design.specs.declared.expression.Typed.{Typed}
use Rattle.vs_design.specs.declared.statement.Aim.{Aim}
use Rattle.vs_design.specs.declared.statement.EventTerm.{EventTerm}
use Rattle.vs_design.specs.declared.statement.Target.{Target}
use Rattle.vs_design.specs.declared.statement.Ticks.{Ticks}
use Rattle.vs_design.specs.declared.statement.FormatArg.{FormatArg}
use Rattle.vs_design.specs.declared.statement.FormatArg.TheVariants as a
use Rattle.vs_design.specs.declared.statement.Call.{Call}
use Rattle.vs_design.specs.declared.statement.Statement.{Statement}
use Rattle.vs_design.specs.declared.statement.Statement.TheVariants as d
use Rattle.vs_design.specs.declared.design.Assign.{Assign}
use Rattle.vs_design.specs.declared.design.Process.{Process}
use Rattle.vs_design.specs.declared.design.Entry.{Entry}
use Rattle.vs_design.specs.declared.design.Entry.TheVariants.{Enter, Declare, Leave}
use Rattle.vs_design.specs.Parts.{Parts}
use Rattle.vs_design.specs.Stores.{Store}
use Rattle.vs_design.specs.Uses.{reads, writes, aim_range, target_reads}
use Rattle.vs_design.specs.WellFormed.{size_of, aim_width, numbers}
use Rattle.vs_elab_statements.specs.vs_widths.specs.vs_eval.specs.Values.{value_of}
use Rattle.vs_elab_statements.specs.vs_widths.specs.vs_eval.specs.Targets.{part_at, assigned}
use Rattle.vs_elab_statements.specs.vs_widths.specs.Layers.{layer_of}
use Rattle.vs_elab_statements.specs.vs_widths.specs.Aiming.{is_fixed}
use Rattle.vs_elab_statements.specs.vs_elab_signals.specs.Outlines.{declared}

-- The expressions say the same: one size, one value in every store, the same ranges read (clauses 5.4 and 5.5), and the same outermost.
pub record SameTyped (x x' : Typed) : Type 0 where
  pub size : size_of x ≡ size_of x'
  pub value : (store : Store) (time : ℕ) → value_of x store time ≡ value_of x' store time
  pub ranges : reads x ≡ reads x'
  pub layer : layer_of x ≡ layer_of x'

-- The places of targets say the same: one size, constant indices in both or in neither, and one part of a write in every store (clause 9.2).
pub record SameAim (a a' : Aim) : Type 0 where
  pub width : aim_width a ≡ aim_width a'
  pub fixed : is_fixed a ≡ is_fixed a'
  pub range : aim_range a ≡ aim_range a'
  pub part : (digits : List Digit) (store : Store) (time : ℕ) → part_at a digits store time ≡ part_at a' digits store time

-- The targets say the same: one size, the same places and ranges written, the same read by indices, and one write in every store (clauses 6.1
-- and 9.2).
pub record SameTarget (t t' : Target) : Type 0 where
  pub width : t.width ≡ t'.width
  pub places : AllZip SameAim t.parts.items t'.parts.items
  pub ranges : writes t ≡ writes t'
  pub indices : target_reads t ≡ target_reads t'
  pub write : (digits : List Digit) (store : Store) (time : ℕ) → assigned t digits store time ≡ assigned t' digits store time

-- The sides of two assignments say the same (clause 6).
pub record SameSides (t t' : Target) (x x' : Typed) : Type 0 where
  pub target : SameTarget t t'
  pub source : SameTyped x x'

-- The arguments of two calls say the same (clause 17.1.1).
abbrev pub SameFormatArg : FormatArg → FormatArg → Type 0
SameFormatArg (a.Value signed x) (a.Value signed' x') = (signed ≡ signed') × SameTyped x x'
SameFormatArg a.Time a.Time = Unit {0}
SameFormatArg _ _ = ⊥

-- The calls say the same (clause 17.1).
pub record SameCall (c c' : Call) : Type 0 where
  pub kind : c.kind ≡ c'.kind
  pub text : c.text.items ≡ c'.text.items
  pub args : AllZip SameFormatArg c.args.items c'.args.items
  pub path : c.path.items ≡ c'.path.items
  pub ratio : c.ratio ≡ c'.ratio

mutual
  -- The statements say the same, their numbers apart (clause 9).
  pub data SameStatement : Statement → Statement → Type 0 where
    null_same : (k k' : ℕ) → SameStatement (d.Null k) (d.Null k')
    assign_same : (k k' : ℕ) (t t' : Target) (x x' : Typed) → SameSides t t' x x' → SameStatement (d.Assign k t x) (d.Assign k' t' x')
    later_same : (k k' : ℕ) (n n' : Ticks) (t t' : Target) (x x' : Typed) → n.count ≡ n'.count → SameSides t t' x x' →
        SameStatement (d.Later k n t x) (d.Later k' n' t' x')
    call_same : (k k' : ℕ) (c c' : Call) → SameCall c c' → SameStatement (d.Call k c) (d.Call k' c')
    finish_same : (k k' : ℕ) → SameStatement (d.Finish k) (d.Finish k')
    block_same : (xs xs' : Vec Statement Global) → SameStatements xs.items xs'.items → SameStatement (d.Block xs) (d.Block xs')
    delay_same : (k k' : ℕ) (n n' : Ticks) (x x' : Box Statement Global) → n.count ≡ n'.count → SameStatement x.value x'.value →
        SameStatement (d.Delay k n x) (d.Delay k' n' x')
    event_same : (k k' : ℕ) (ts ts' : Vec EventTerm Global) (x x' : Box Statement Global) → ts.items ≡ ts'.items → SameStatement x.value x'.value →
        SameStatement (d.Event k ts x) (d.Event k' ts' x')
    if_same : (k k' : ℕ) (e e' : Typed) (x x' z z' : Box Statement Global) → SameTyped e e' → SameStatement x.value x'.value →
        SameStatement z.value z'.value → SameStatement (d.If k e x z) (d.If k' e' x' z')
    case_same : (k k' : ℕ) (kind : CaseKind) (e e' : Typed) (xs xs' : Vec (Vec Typed Global × Statement) Global) → SameTyped e e' →
        SameItems xs.items xs'.items → SameStatement (d.Case k kind e xs) (d.Case k' kind e' xs')
    while_same : (k k' : ℕ) (e e' : Typed) (x x' : Box Statement Global) → SameTyped e e' → SameStatement x.value x'.value →
        SameStatement (d.While k e x) (d.While k' e' x')
    repeat_same : (k k' : ℕ) (signed : Bool) (e e' : Typed) (x x' : Box Statement Global) → SameTyped e e' → SameStatement x.value x'.value →
        SameStatement (d.Repeat k signed e x) (d.Repeat k' signed e' x')
    forever_same : (k k' : ℕ) (x x' : Box Statement Global) → SameStatement x.value x'.value → SameStatement (d.Forever k x) (d.Forever k' x')

  -- The same of the items of a `case`, each with its expressions (clause 9.5).
  pub data SameItems : List (Vec Typed Global × Statement) → List (Vec Typed Global × Statement) → Type 0 where
    items_end : SameItems [] []
    item_same : (x x' : Vec Typed Global × Statement) (xs xs' : List (Vec Typed Global × Statement)) → AllZip SameTyped x.0.items x'.0.items →
        SameStatement x.1 x'.1 → SameItems xs xs' → SameItems (x ∷ xs) (x' ∷ xs')

  -- The same of statements one after another (clause 9.8.1).
  pub data SameStatements : List Statement → List Statement → Type 0 where
    statements_end : SameStatements [] []
    statement_same : (x x' : Statement) (xs xs' : List Statement) → SameStatement x x' → SameStatements xs xs' → SameStatements (x ∷ xs) (x' ∷ xs')

-- The continuous assignments say the same (clause 6.1).
pub record SameAssign (a a' : Assign) : Type 0 where
  pub name : a.name.items ≡ a'.name.items
  pub sides : SameSides a.target a'.target a.source a'.source

-- The processes say the same, with the numbers of their statements (clause 9.9).
pub record SameProcess (p p' : Process) : Type 0 where
  pub name : p.name.items ≡ p'.name.items
  pub kind : p.kind ≡ p'.kind
  pub body : SameStatement p.body p'.body
  pub numbered : numbers p.body ≡ numbers p'.body

-- The lines of two outlines say the same (clause 18.2.3).
abbrev pub SameEntry : Entry → Entry → Type 0
SameEntry (Enter k n) (Enter k' n') = (k ≡ k') × (n.items ≡ n'.items)
SameEntry (Declare i) (Declare j) = i ≡ j
SameEntry Leave Leave = Unit {0}
SameEntry _ _ = ⊥

-- The designs say the same (clause 12).
pub record SameDesign (d d' : Parts) : Type 0 where
  pub timescale : d.timescale ≡ d'.timescale
  pub signals : map declared d.signals ≡ map declared d'.signals
  pub assigns : AllZip SameAssign d.assigns d'.assigns
  pub processes : AllZip SameProcess d.processes d'.processes
  pub outline : AllZip SameEntry d.outline d'.outline
