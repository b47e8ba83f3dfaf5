-- What the functions on expressions and statements answer.
use Rattle.std.specs.Prelude.{◌≡◌, ℕ, zero, suc, ◌+◌, ◌^◌, ◌<◌, ◌≤◌, Bool, true, false, ◌||◌, List, [], ◌∷◌, ◌++◌, Option, Some, None, Result, Ok, Err, MatchResult, length, map, slice_get}
use Rattle.std.specs.List.{list_any, flat_map, AllZip}
use Rattle.std.specs.declared.vec.Vec.{Vec}
use Rattle.std.specs.declared.boxed.Box.{Box}
use Rattle.std.specs.declared.alloc.Global.{Global}
use Rattle.vs_syntax.specs.declared.tree.Expr.{Expr}
use Rattle.vs_syntax.specs.declared.tree.Argument.{Argument}
use Rattle.vs_syntax.specs.declared.tree.CaseLabel.{CaseLabel}
use Rattle.vs_syntax.specs.declared.tree.EventExpr.{EventExpr}
use Rattle.vs_syntax.specs.declared.tree.Left.{Left}
use Rattle.vs_syntax.specs.declared.tree.Stmt.{Stmt}
use Rattle.vs_design.specs.declared.expression.Slice.{Slice}
use Rattle.vs_design.specs.declared.expression.Typed.{Typed}
use Rattle.vs_design.specs.declared.statement.Aim.TheVariants.{Fixed}
use Rattle.vs_design.specs.declared.statement.Target.{Target}
use Rattle.vs_design.specs.declared.statement.Call.{Call}
use Rattle.vs_design.specs.declared.statement.CallKind.{CallKind}
use Rattle.vs_scopes.specs.vs_strobe.specs.declared.fault.FormatReason.{FormatReason}
use Rattle.vs_scopes.specs.vs_strobe.specs.Pieces.{format_fault}
use Rattle.vs_scopes.specs.vs_widths.specs.declared.shape.Shape.{Shape}
use Rattle.vs_scopes.specs.vs_widths.specs.declared.constants.Const.{Const}
use Rattle.vs_scopes.specs.vs_widths.specs.declared.faults.WidthFault.{WidthFault}
use Rattle.vs_scopes.specs.vs_widths.specs.Findings.{Finding, Has, Refuses, has_width_fault}
use Rattle.vs_scopes.specs.vs_widths.specs.Meants.{Meant, own}
use Rattle.vs_scopes.specs.vs_widths.specs.Constants.{constant_finding}
use Rattle.vs_widths.specs.Lefts.{Aimed}
use Rattle.vs_widths.specs.Expressions.{meant}
use Rattle.vs_widths.specs.Typing.{IsTypedAs}
use Rattle.vs_scopes.specs.scopes_passes.Sizes.{width_faults}
use Rattle.vs_design.specs.Uses.{joined}
use Rattle.vs_design.specs.declared.statement.Statement.{Statement}
use Rattle.vs_design.specs.declared.statement.Statement.TheVariants as d
use Rattle.vs_widths.specs.declared.kinds.AssignmentKind.TheVariants.{Procedural}
use Rattle.vs_design.specs.WellFormed.{numbers}
use Rattle.vs_scopes.specs.vs_widths.specs.Environment.{Environment}
use Rattle.vs_scopes.specs.declared.faults.Reason.{Reason}
use Rattle.vs_scopes.specs.declared.faults.Reason.TheVariants.{Limit, Width, Format}
use Rattle.vs_scopes.specs.Printed.{plainly, Path, printed}
use Rattle.vs_elab_signals.specs.vs_scopes.specs.Pieces.{NamedBlock, blocks_in, blocks_among}
use Rattle.vs_elab_signals.specs.declared.opened.ElabScope.{ElabScope as FoundScope}
use Rattle.vs_elab_statements.specs.declared.faults.StatementFault.{StatementFault}
use Rattle.vs_elab_statements.specs.declared.faults.StatementFault.TheVariants.{Memory, Overfull, Refused, Inside}
use Rattle.vs_elab_statements.specs.Surroundings.{Surroundings}
use Rattle.vs_elab_statements.specs.passes.Views.{IsSite}
use Rattle.vs_elab_statements.specs.Statements.{IsAssignment, assign_fault, IsStatement, IsElse, AreItems, AreStatements, has_fault, HasFaultAt, count_of, total, event_aimed, operand_fault, IsArgument, argument_fault, is_wrong, label_exprs, case_finding, has_two_defaults}
use Rattle.vs_elab_statements.specs.Members.{Behavior, places}
use Rattle.vs_elab_statements.specs.Processes.{IsBody, statements_of, HasBehaviorFault}

-- so many numbers, from this one on
abbrev pub counting : ℕ → ℕ → List ℕ
counting first zero = []
counting first (suc n) = first ∷ counting (suc first) n

-- ---- what stands in statements

-- what can be wrong with statements of a scope: whether a part of them that stands there has a fault; the number behind their last one; and the named
-- blocks in them
pub record Burden : Type 0 where
  pub own : Reason → Bool
  pub last : ℕ
  pub blocks : List NamedBlock

abbrev pub statement_burden : Surroundings → ℕ → Stmt → Burden
statement_burden env first x = record { own = λ r. has_fault r env x; last = first + count_of x; blocks = blocks_in x }

abbrev pub statements_burden : Surroundings → ℕ → List Stmt → Burden
statements_burden env first xs = record {
  own = λ r. list_any (has_fault r env) xs;
  last = first + total (map count_of xs);
  blocks = blocks_among xs;
}

-- a fault in one of these named blocks of the scope of a path, by the path of the innermost scope
pub record HasInnerFault (envs : Path → Surroundings) (p : Path) (bs : List NamedBlock) (r : Reason) (at : Path) : Type 0 where
  pub place : ℕ
  pub index : ℕ
  pub block : NamedBlock
  pub inner : Stmt
  pub stands : slice_get bs place ≡ Some block
  pub holds : slice_get block.statements index ≡ Some inner
  pub fault : HasFaultAt envs r at (p ++ plainly block.name ∷ []) inner

-- nothing is wrong
pub record IsFree (envs : Path → Surroundings) (p : Path) (b : Burden) : Type 0 where
  pub own : (r : Reason) → b.own r ≡ false
  pub room : b.last < 2 ^ 32
  pub blocks : (r : Reason) (at : Path) → HasInnerFault envs p b.blocks r at → ⊥

-- what a fault says of that, where the scopes of a list stand for those of paths
abbrev pub BurdenFails : List FoundScope → (Path → Surroundings) → Path → Burden → StatementFault → Type 0
BurdenFails list envs p b Memory = Unit {0}
BurdenFails list envs p b Overfull = 2 ^ 32 ≤ b.last
BurdenFails list envs p b (Refused r) = b.own r ≡ true
BurdenFails list envs p b (Inside k r) = (at : Path) × (IsSite list envs k at × HasInnerFault envs p b.blocks r at)

-- what a call on statements answers
abbrev pub Answers : {A : Type 0} → List FoundScope → (Path → Surroundings) → Path → Burden → (A → Type 0) → Result A StatementFault → Type 0
Answers list envs p b P result = MatchResult result (λ x. IsFree envs p b × P x) (BurdenFails list envs p b)

-- ---- statements

-- the statement of a design that one of a source is, with its numbers from this one on, and the number behind them
pub record MeansStatement (envs : Path → Surroundings) (p : Path) (first : ℕ) (x : Stmt) (y : Statement) (next : ℕ) : Type 0 where
  pub means : IsStatement envs p x y
  pub next_is : next ≡ first + count_of x
  pub numbered : numbers y ≡ counting first (count_of x)

-- the same of statements one after another
pub record MeansStatements (envs : Path → Surroundings) (p : Path) (first : ℕ) (xs : List Stmt) (ys : List Statement) (next : ℕ) : Type 0 where
  pub means : AreStatements envs p xs ys
  pub next_is : next ≡ first + total (map count_of xs)
  pub numbered : joined (map numbers ys) ≡ counting first (total (map count_of xs))

-- ---- expressions of statements

-- the constant that this means
pub record IsConstantAs (m : Meant) (c : Const) : Type 0 where
  pub found : constant_finding m ≡ Has (length c.value) c.signed
  pub value : own m [] 0 ≡ c.value

-- a target of one place with constant indices
abbrev pub IsAlone : Target → Type 0
IsAlone t = (place : Slice) × (t.parts.items ≡ Fixed place ∷ [])

-- a fault of terms of an event control
abbrev pub terms_fault : Environment → List EventExpr → Reason → Bool
terms_fault env ts = width_faults (λ w. list_any (λ (a : Aimed). has_width_fault w a.finding) (map (event_aimed env) ts))

-- a size and a sign that were found, or a fault
abbrev pub Shapes : Finding → Result Shape WidthFault → Type 0
Shapes found (Ok s) = found ≡ Has s.width s.signed
Shapes found (Err e) = Refuses found e

-- the expression of a `case` with these labels, at their size and sign
pub record IsCase (env : Environment) (e : Expr) (labels : List CaseLabel) (s : Shape) (x : Typed) : Type 0 where
  pub found : case_finding env e labels ≡ Has s.width s.signed
  pub typed : IsTypedAs (meant env e) s.width s.signed x
  pub defaults : has_two_defaults labels ≡ false

-- ---- calls

-- a fault of a format, where this is what is wrong with it
abbrev pub format_faults : Option FormatReason → Reason → Bool
format_faults found (Format f) = is_wrong f found
format_faults found _ = false

-- a fault of a call of this text and these arguments
abbrev pub call_fault : Environment → List ℕ → List Argument → Reason → Bool
call_fault env text xs (Width w) = list_any (argument_fault (Width w) env) xs
call_fault env text xs (Format f) = is_wrong f (format_fault text (length xs))
call_fault env text xs _ = false

-- the call of a design of this kind, text and arguments, in the scope of a path
pub record MakesCall (env : Surroundings) (p : Path) (kind : CallKind) (text : List ℕ) (xs : List Argument) (c : Call) : Type 0 where
  pub kind_is : c.kind ≡ kind
  pub text_is : c.text.items ≡ text
  pub args : AllZip (IsArgument env.names) xs c.args.items
  pub fits : format_fault c.text.items (length c.args.items) ≡ None
  pub path : c.path.items ≡ printed p
  pub ratio : c.ratio ≡ env.ratio

-- ---- parts of statements

-- a numbered assignment, and the number behind it
pub record IsNumbered (env : Surroundings) (first : ℕ) (l : Left) (e : Expr) (k : ℕ) (t : Target) (x : Typed) (next : ℕ) : Type 0 where
  pub number : k ≡ first
  pub next_is : next ≡ first + 1
  pub sides : IsAssignment Procedural env.names (places l) e t x

-- what can be wrong with a numbered assignment
abbrev pub numbered_burden : Surroundings → ℕ → Left → Expr → Burden
numbered_burden env first l e = record { own = λ r. assign_fault r Procedural env.names (places l) e; last = first + 1; blocks = [] }

-- a `for` of a design, of these parts
pub record IsRepeated (begin : Statement) (k : ℕ) (condition : Typed) (one step : Statement) (y : Statement) : Type 0 where
  pub all : Vec Statement Global
  pub inner : Vec Statement Global
  pub body : Box Statement Global
  pub whole : y ≡ d.Block all
  pub parts : all.items ≡ begin ∷ d.While k condition body ∷ []
  pub turn : body.value ≡ d.Block inner
  pub turns : inner.items ≡ one ∷ step ∷ []

-- what stands behind `else`, as statements
abbrev pub else_list : Option (Box Stmt Global) → List Stmt
else_list None = []
else_list (Some x) = x.value ∷ []

-- the statement of a design that what stands behind `else` is, with its numbers
pub record MeansElse (envs : Path → Surroundings) (p : Path) (first : ℕ) (o : Option (Box Stmt Global)) (y : Statement) (next : ℕ) : Type 0 where
  pub means : IsElse envs p o y
  pub next_is : next ≡ first + total (map count_of (else_list o))
  pub numbered : numbers y ≡ counting first (total (map count_of (else_list o)))

-- the statements of a design that the items of a `case` are, with their numbers and with their expressions at this size and sign
pub record MeansItems (envs : Path → Surroundings) (p : Path) (s : Shape) (first : ℕ) (xs : List (CaseLabel × Stmt)) (ys : List (Vec Typed Global × Statement)) (next : ℕ) : Type 0 where
  pub means : AreItems envs p s.width s.signed xs ys
  pub next_is : next ≡ first + total (map (λ (x : CaseLabel × Stmt). count_of x.1) xs)
  pub numbered : joined (map (λ (y : Vec Typed Global × Statement). numbers y.1) ys) ≡ counting first (total (map (λ (x : CaseLabel × Stmt). count_of x.1) xs))

-- a fault of an item of a `case`
abbrev pub item_fault : Surroundings → Reason → CaseLabel × Stmt → Bool
item_fault env r x = list_any (operand_fault r env.names) (label_exprs x.0) || has_fault r env x.1

-- what can be wrong with items of a `case`
abbrev pub items_burden : Surroundings → ℕ → List (CaseLabel × Stmt) → Burden
items_burden env first xs = record {
  own = λ r. list_any (item_fault env r) xs;
  last = first + total (map (λ (x : CaseLabel × Stmt). count_of x.1) xs);
  blocks = flat_map (λ (x : CaseLabel × Stmt). blocks_in x.1) xs;
}

-- what can be wrong with a named block of these statements
abbrev pub named_burden : ℕ → NamedBlock → Burden
named_burden first b = record { own = λ r. false; last = first + total (map count_of b.statements); blocks = b ∷ [] }

-- ---- processes

-- the body of a process, with its numbers
pub record MeansBody (envs : Path → Surroundings) (p : Path) (b : Behavior) (y : Statement) : Type 0 where
  pub means : IsBody envs p b y
  pub numbered : numbers y ≡ counting 0 (statements_of b)

-- what a fault says of a process of the scope of a path
abbrev pub BodyFails : List FoundScope → (Path → Surroundings) → Path → Behavior → StatementFault → Type 0
BodyFails list envs p b Memory = Unit {0}
BodyFails list envs p b Overfull = HasBehaviorFault envs Limit p p b
BodyFails list envs p b (Refused r) = HasBehaviorFault envs r p p b
BodyFails list envs p b (Inside k r) = (at : Path) × (IsSite list envs k at × HasBehaviorFault envs r at p b)

-- what a call on a process answers
abbrev pub Embodies : List FoundScope → (Path → Surroundings) → Path → Behavior → Result Statement StatementFault → Type 0
Embodies list envs p b result =
    MatchResult result (λ y. ((r : Reason) (at : Path) → HasBehaviorFault envs r at p b → ⊥) × MeansBody envs p b y) (BodyFails list envs p b)
