-- Statements of a design.
use Rattle.std.specs.Prelude.{◌≡◌, ℕ, ◌+◌, ◌*◌, ◌++◌, ◌^◌, Bool, true, false, ◌&&◌, ◌||◌, max, nat_le, List, [], ◌∷◌, Option, Some, None, is_none, option_map, length, map, slice_get}
use Rattle.std.specs.List.{list_any, flat_map, AllZip}
use Rattle.std.specs.declared.vec.Vec.{Vec}
use Rattle.std.specs.declared.boxed.Box.{Box}
use Rattle.std.specs.declared.alloc.Global.{Global}
use Rattle.vs_syntax.specs.declared.tree.Expr.{Expr}
use Rattle.vs_syntax.specs.declared.tree.Left.{Left}
use Rattle.vs_design.specs.vs_logic4.specs.declared.case.CaseKind.{CaseKind}
use Rattle.vs_design.specs.vs_logic4.specs.declared.edge.Edge.{Edge}
use Rattle.vs_design.specs.vs_logic4.specs.declared.edge.Edge.TheVariants.{Any}
use Rattle.vs_syntax.specs.declared.tree.CaseLabel.{CaseLabel}
use Rattle.vs_syntax.specs.declared.tree.CaseLabel.TheVariants.{Expressions, Default}
use Rattle.vs_syntax.specs.declared.tree.DelayValue.{DelayValue}
use Rattle.vs_syntax.specs.declared.tree.DelayValue.TheVariants as v
use Rattle.vs_syntax.specs.declared.tree.EventControl.{EventControl}
use Rattle.vs_syntax.specs.declared.tree.EventControl.TheVariants as c
use Rattle.vs_syntax.specs.declared.tree.EventExpr.{EventExpr}
use Rattle.vs_syntax.specs.declared.tree.Separator.{Separator}
use Rattle.vs_syntax.specs.vs_lexer.specs.declared.token.Literal.{Literal}
use Rattle.vs_syntax.specs.declared.tree.PrintTask.{PrintTask}
use Rattle.vs_syntax.specs.declared.tree.PrintTask.TheVariants.{Display, Strobe}
use Rattle.vs_syntax.specs.declared.tree.Argument.{Argument}
use Rattle.vs_syntax.specs.declared.tree.Argument.TheVariants as given
use Rattle.vs_syntax.specs.declared.tree.PrintArguments.{PrintArguments}
use Rattle.vs_syntax.specs.declared.tree.PrintArguments.TheVariants as print
use Rattle.vs_syntax.specs.declared.tree.DumpTask.{DumpTask}
use Rattle.vs_syntax.specs.declared.tree.DumpArgument.{DumpArgument}
use Rattle.vs_syntax.specs.declared.tree.LocalDeclaration.{LocalDeclaration}
use Rattle.vs_syntax.specs.declared.tree.ForHeader.{ForHeader}
use Rattle.vs_syntax.specs.declared.tree.Stmt.{Stmt}
use Rattle.vs_elab_signals.specs.vs_scopes.specs.Pieces.{NamedBlock, blocks_in}
use Rattle.vs_scopes.specs.Printed.{plainly, Path, printed}
use Rattle.vs_syntax.specs.declared.tree.Stmt.TheVariants as h
use Rattle.vs_syntax.specs.declared.tree.Stmt.TheOpen.{Stmt-F}
use Rattle.vs_syntax.specs.declared.tree.Stmt.TheOpen as f
use Rattle.vs_syntax.specs.declared.tree.Stmt.TheFolds.{fold-Stmt}
use Rattle.vs_design.specs.declared.expression.Typed.{Typed}
use Rattle.vs_design.specs.declared.expression.Slice.{Slice}
use Rattle.vs_design.specs.declared.range.BitRange.{BitRange}
use Rattle.vs_design.specs.declared.statement.Aim.TheVariants.{Fixed}
use Rattle.vs_design.specs.declared.statement.EventTerm.{EventTerm}
use Rattle.vs_design.specs.declared.statement.Target.{Target}
use Rattle.vs_design.specs.Statements.{statement_reads}
use Rattle.vs_design.specs.Uses.{bits_from}
use Rattle.vs_design.specs.declared.statement.Ticks.{Ticks}
use Rattle.vs_design.specs.declared.statement.FormatArg.{FormatArg}
use Rattle.vs_design.specs.declared.statement.FormatArg.TheVariants as made
use Rattle.vs_design.specs.declared.statement.CallKind.{CallKind}
use Rattle.vs_design.specs.declared.statement.CallKind.TheVariants as call
use Rattle.vs_design.specs.declared.statement.Call.{Call}
use Rattle.vs_scopes.specs.vs_strobe.specs.declared.fault.FormatReason.{FormatReason}
use Rattle.vs_scopes.specs.vs_strobe.specs.declared.fault.FormatReason.TheVariants.{BadDirective, TooFewArguments, TooManyArguments}
use Rattle.vs_scopes.specs.vs_strobe.specs.Pieces.{format_fault}
use Rattle.vs_design.specs.declared.statement.Statement.{Statement}
use Rattle.vs_design.specs.declared.statement.Statement.TheVariants as d
use Rattle.vs_scopes.specs.vs_widths.specs.declared.faults.WidthReason.{WidthReason}
use Rattle.vs_scopes.specs.vs_widths.specs.Environment.{Environment}
use Rattle.vs_scopes.specs.vs_widths.specs.Findings.{Finding, Has, Lacks, has_width_fault, not_constant, together, alike}
use Rattle.vs_scopes.specs.vs_widths.specs.Meants.{Meant, own}
use Rattle.vs_scopes.specs.vs_widths.specs.Constants.{constant_finding, natural_at}
use Rattle.vs_widths.specs.Expressions.{meant, meant_selects, number_meant, name_meant}
use Rattle.vs_widths.specs.Typing.{IsTypedAs}
use Rattle.vs_widths.specs.declared.kinds.AssignmentKind.{AssignmentKind}
use Rattle.vs_widths.specs.declared.kinds.AssignmentKind.TheVariants.{Procedural, Event}
use Rattle.vs_widths.specs.Lefts.{Aimed, aimed, name_aimed}
use Rattle.vs_widths.specs.Aiming.{IsTarget}
use Rattle.vs_scopes.specs.declared.faults.Reason.{Reason}
use Rattle.vs_scopes.specs.declared.faults.Reason.TheVariants.{Limit, Width, DeclaredTwice, Format}
use Rattle.vs_elab_statements.specs.Members.{Assignee, places, named_signal}
use Rattle.vs_elab_statements.specs.Surroundings.{Surroundings}

-- What the right side of an assignment means, as an expression of a design, where the target has this size: at the larger of that size and its own, and at its own
-- sign (clauses 5.4.1 and 5.5.1).
pub record IsSource (m : Meant) (target : ℕ) (x : Typed) : Type 0 where
  pub width : ℕ
  pub signed : Bool
  pub has : m.finding ≡ Has width signed
  pub typed : IsTypedAs m (max target width) signed x

-- what an assignment of this kind assigns to (clauses 6.1.1, 6.2.1 and 9.2)
abbrev pub assigned_to : AssignmentKind → Environment → Assignee → Aimed
assigned_to how env (places l) = aimed how env l
assigned_to how env (named_signal n) = name_aimed how (env n) []

-- The two sides of an assignment of this kind: its places, and the expression (clause 6).
pub record IsAssignment (how : AssignmentKind) (env : Environment) (a : Assignee) (e : Expr) (t : Target) (x : Typed) : Type 0 where
  pub target : IsTarget how env (assigned_to how env a) t
  pub source : IsSource (meant env e) t.width x

-- ---- expressions of statements

-- The expression of a condition, a count or a `case` that stands alone, as an expression of a design: at its own size and sign (clauses 9.4 to 9.6).
pub record IsOperand (env : Environment) (e : Expr) (signed : Bool) (x : Typed) : Type 0 where
  pub width : ℕ
  pub has : (meant env e).finding ≡ Has width signed
  pub typed : IsTypedAs (meant env e) width signed x

-- a fault of such an expression
abbrev pub operand_fault : Reason → Environment → Expr → Bool
operand_fault (Width w) env e = has_width_fault w (meant env e).finding
operand_fault _ env e = false

-- ---- delays

-- what a delay means (clause 9.7.1)
abbrev pub delay_meant : Environment → DelayValue → Meant
delay_meant env (v.Number l) = number_meant l
delay_meant env (v.Name n) = name_meant (env n.items)
delay_meant env (v.Group e) = meant env e.value

-- the ticks of a delay where a unit of time is so many, where it is a constant number of units from 0 on (clauses 9.7.1 and 19.8; a negative one is
-- refused: profile)
abbrev pub delay_of : Environment → ℕ → DelayValue → Option ℕ
delay_of env ratio d = option_map (λ n. n * ratio) (natural_at (constant_finding (delay_meant env d)) (own (delay_meant env d) [] 0))

-- whether a delay reaches 2^62 ticks (profile)
abbrev pub is_too_long : Option ℕ → Bool
is_too_long None = false
is_too_long (Some n) = nat_le (2 ^ 62) n

-- a fault of a constant that is to have a number from 0 on: one of its expression, or it has none
abbrev pub ticks_fault : WidthReason → Finding → Option ℕ → Bool
ticks_fault w (Has width signed) number = not_constant w && is_none number
ticks_fault w (Lacks faults) number = faults w

-- a fault of a delay: one of its expression, or it is no constant from 0 on, or it has 2^62 ticks or more (clause 9.7.1; profile)
abbrev pub delay_fault : Reason → Environment → ℕ → DelayValue → Bool
delay_fault (Width w) env ratio d = ticks_fault w (constant_finding (delay_meant env d)) (delay_of env ratio d)
delay_fault Limit env ratio d = is_too_long (delay_of env ratio d)
delay_fault _ env ratio d = false

-- in how many ticks the update of a nonblocking assignment is due: in none where it has no delay (clause 9.2.2)
abbrev pub due_of : Environment → ℕ → Option DelayValue → Option ℕ
due_of env ratio None = Some 0
due_of env ratio (Some d) = delay_of env ratio d

-- a fault of the delay of a nonblocking assignment, where it has one
abbrev pub due_fault : Reason → Environment → ℕ → Option DelayValue → Bool
due_fault r env ratio None = false
due_fault r env ratio (Some d) = delay_fault r env ratio d

-- ---- event controls

-- what a term of an event control names (clause 9.7.2)
abbrev pub event_aimed : Environment → EventExpr → Aimed
event_aimed env t = name_aimed Event (env t.name.items) (meant_selects env t.selects.items)

-- of how many bits from the lowest one on a term waits for a change: of all, or of an edge the lowest alone (clause 9.7.2)
abbrev pub watched_width : Edge → ℕ → ℕ
watched_width Any width = width
watched_width _ width = 1

-- the bits of a constant select that a term waits for a change of (clause 9.7.2)
abbrev pub watched : Edge → Slice → BitRange
watched edge s = record { signal = s.signal; word = Some s.word; bits = Some (bits_from s.low (watched_width edge s.width)) }

-- The term of a design that waits for this change of what is named (clause 9.7.2).
pub record IsTerm (env : Environment) (edge : Edge) (a : Aimed) (y : EventTerm) : Type 0 where
  pub place : Slice
  pub target : Target
  pub named : IsTarget Event env a target
  pub alone : target.parts.items ≡ Fixed place ∷ []
  pub edge_is : y.edge ≡ edge
  pub range : y.range ≡ watched edge place

-- terms of a design, each of them what the one in its place is
pub data AreTerms (env : Environment) : List EventExpr → List EventTerm → Type 0 where
  no_terms : AreTerms env [] []
  more_terms : (t : EventExpr) (y : EventTerm) (ts : List EventExpr) (ys : List EventTerm) → IsTerm env t.edge (event_aimed env t) y →
      AreTerms env ts ys → AreTerms env (t ∷ ts) (y ∷ ys)

-- any change of the bits of a range
abbrev pub level_term : BitRange → EventTerm
level_term r = record { edge = Any; range = r }

-- The terms of an event control of a design, before this statement: those of the text, or of `*` any change of what the statement reads
-- (clauses 9.7.2 to 9.7.5).
pub data AreEvents (env : Environment) (body : Statement) : EventControl → List EventTerm → Type 0 where
  are_star : AreEvents env body c.Star (map level_term (statement_reads body))
  are_grouped : AreEvents env body c.GroupedStar (map level_term (statement_reads body))
  are_name : (n : Vec ℕ Global) (y : EventTerm) → IsTerm env Any (name_aimed Event (env n.items) []) y → AreEvents env body (c.Name n) (y ∷ [])
  are_terms : (t : Box EventExpr Global) (ts : Vec (Separator × EventExpr) Global) (ys : List EventTerm) →
      AreTerms env (t.value ∷ map (λ (x : Separator × EventExpr). x.1) ts.items) ys → AreEvents env body (c.Terms t ts) ys

-- what an event control names, one for each term of its text (clause 9.7.2)
abbrev pub events_aimed : Environment → EventControl → List Aimed
events_aimed env c.Star = []
events_aimed env c.GroupedStar = []
events_aimed env (c.Name n) = name_aimed Event (env n.items) [] ∷ []
events_aimed env (c.Terms t ts) = map (event_aimed env) (t.value ∷ map (λ (x : Separator × EventExpr). x.1) ts.items)

-- a fault of a term of an event control (clause 9.7.2)
abbrev pub event_fault : Reason → Environment → EventControl → Bool
event_fault (Width w) env e = list_any (λ (a : Aimed). has_width_fault w a.finding) (events_aimed env e)
event_fault _ env e = false

-- ---- system tasks

-- the text of a `$display` or a `$strobe`; of one without arguments nothing (clause 17.1.1)
abbrev pub print_text : PrintArguments → List ℕ
print_text print.Missing = []
print_text print.Empty = []
print_text (print.Text n xs) = n.items

-- the arguments behind that text
abbrev pub print_values : PrintArguments → List Argument
print_values print.Missing = []
print_values print.Empty = []
print_values (print.Text n xs) = xs.items

-- when the line of a call is made (clauses 17.1.1 and 17.1.2)
abbrev pub call_kind : PrintTask → CallKind
call_kind Display = call.Display
call_kind Strobe = call.Strobe

-- The argument of a design that one of a source is: an expression at its own size and sign, or `$time` (clauses 17.1.1 and 17.7.1).
abbrev pub IsArgument : Environment → Argument → FormatArg → Type 0
IsArgument env (given.Value e) (made.Value signed x) = IsOperand env e signed x
IsArgument env given.Time made.Time = Unit {0}
IsArgument env _ _ = ⊥

-- The call of a design that a `$display` or a `$strobe` is in the scope of a path, where a unit of time is so many ticks: its text fits its
-- arguments, and `%m` prints that path (clause 17.1).
pub record IsCall (env : Environment) (ratio : ℕ) (at : Path) (task : PrintTask) (xs : PrintArguments) (c : Call) : Type 0 where
  pub kind : c.kind ≡ call_kind task
  pub text : c.text.items ≡ print_text xs
  pub args : AllZip (IsArgument env) (print_values xs) c.args.items
  pub fits : format_fault c.text.items (length c.args.items) ≡ None
  pub path : c.path.items ≡ printed at
  pub ratio_is : c.ratio ≡ ratio

-- a fault of an argument
abbrev pub argument_fault : Reason → Environment → Argument → Bool
argument_fault r env (given.Value e) = operand_fault r env e
argument_fault r env given.Time = false

-- whether this is what is wrong with a format
abbrev pub is_wrong : FormatReason → Option FormatReason → Bool
is_wrong BadDirective (Some BadDirective) = true
is_wrong TooFewArguments (Some TooFewArguments) = true
is_wrong TooManyArguments (Some TooManyArguments) = true
is_wrong _ _ = false

-- a fault of a `$display` or a `$strobe`: one of an argument, or of its format (clause 17.1)
abbrev pub print_fault : Reason → Environment → PrintArguments → Bool
print_fault (Width w) env xs = list_any (argument_fault (Width w) env) (print_values xs)
print_fault (Format f) env xs = is_wrong f (format_fault (print_text xs) (length (print_values xs)))
print_fault _ env xs = false

-- ---- `case`

-- the expressions of a `case` item; a `default` has none (clause 9.5)
abbrev pub label_exprs : CaseLabel → List Expr
label_exprs (Expressions e es) = e ∷ es.items
label_exprs (Default colon) = []

-- the size and sign of expressions of one context: the largest size, and signed where all are (clauses 5.4.1, 5.5.1 and 9.5)
abbrev pub common_finding : Environment → Finding → List Expr → Finding
common_finding env found [] = found
common_finding env found (e ∷ es) = common_finding env (together alike found (meant env e).finding) es

-- the size and sign of all expressions of a `case` (clause 9.5)
abbrev pub case_finding : Environment → Expr → List CaseLabel → Finding
case_finding env e labels = common_finding env (meant env e).finding (flat_map label_exprs labels)

-- expressions of a design, each what the one in its place is at this size and sign
pub data AreTypedAt (env : Environment) (width : ℕ) (signed : Bool) : List Expr → List Typed → Type 0 where
  no_typed : AreTypedAt env width signed [] []
  more_typed : (e : Expr) (y : Typed) (es : List Expr) (ys : List Typed) → IsTypedAs (meant env e) width signed y → AreTypedAt env width signed es ys →
      AreTypedAt env width signed (e ∷ es) (y ∷ ys)

abbrev pub is_default : CaseLabel → Bool
is_default (Expressions e es) = false
is_default (Default colon) = true

-- whether there is more than one `default` (clause 9.5)
abbrev pub has_two_defaults : List CaseLabel → Bool
has_two_defaults [] = false
has_two_defaults (l ∷ ls) = (is_default l && list_any is_default ls) || has_two_defaults ls

-- a fault of the expressions of a `case`, or a second `default` (clause 9.5)
abbrev pub case_fault : Reason → Environment → Expr → List CaseLabel → Bool
case_fault (Width w) env e labels = has_width_fault w (case_finding env e labels)
case_fault DeclaredTwice env e labels = has_two_defaults labels
case_fault _ env e labels = false

-- ---- statements

mutual
  -- The statement of a design that one of a source is, in the scope of a path, with these surroundings in the scope of each path; whatever its
  -- number. A delay is its ticks, and a `for` an assignment before a `while`; `$dumpfile` and `$dumpvars` do nothing (clauses 9 and 12.7; the last:
  -- profile).
  pub data IsStatement (envs : Path → Surroundings) : Path → Stmt → Statement → Type 0 where
    is_null : (p : Path) (k : ℕ) → IsStatement envs p h.Null (d.Null k)
    is_assign : (p : Path) (l : Box Left Global) (e : Expr) (k : ℕ) (t : Target) (x : Typed) →
        IsAssignment Procedural (envs p).names (places l.value) e t x → IsStatement envs p (h.Assign l e) (d.Assign k t x)
    is_later : (p : Path) (l : Box Left Global) (v : Option DelayValue) (e : Box Expr Global) (k : ℕ) (n : Ticks) (t : Target) (x : Typed) →
        IsAssignment Procedural (envs p).names (places l.value) e.value t x → due_of (envs p).names (envs p).ratio v ≡ Some n.count →
        IsStatement envs p (h.Later l v e) (d.Later k n t x)
    is_block : (p : Path) (xs : Vec Stmt Global) (ys : Vec Statement Global) → AreStatements envs p xs.items ys.items → IsStatement envs p (h.Block xs) (d.Block ys)
    is_named : (p : Path) (n : Vec ℕ Global) (ls : Vec LocalDeclaration Global) (xs : Vec Stmt Global) (ys : Vec Statement Global) →
        AreStatements envs (p ++ plainly n.items ∷ []) xs.items ys.items → IsStatement envs p (h.Named n ls xs) (d.Block ys)
    is_if : (p : Path) (e : Box Expr Global) (k : ℕ) (z : Typed) (signed : Bool) (x : Box Stmt Global) (o : Option (Box Stmt Global))
        (y w : Box Statement Global) → IsOperand (envs p).names e.value signed z → IsStatement envs p x.value y.value → IsElse envs p o w.value →
        IsStatement envs p (h.If e x o) (d.If k z y w)
    is_case : (p : Path) (kind : CaseKind) (e : Box Expr Global) (k : ℕ) (z : Typed) (width : ℕ) (signed : Bool)
        (xs : Vec (CaseLabel × Stmt) Global) (ys : Vec (Vec Typed Global × Statement) Global) →
        case_finding (envs p).names e.value (map (λ (x : CaseLabel × Stmt). x.0) xs.items) ≡ Has width signed →
        IsTypedAs (meant (envs p).names e.value) width signed z →
        has_two_defaults (map (λ (x : CaseLabel × Stmt). x.0) xs.items) ≡ false → AreItems envs p width signed xs.items ys.items →
        IsStatement envs p (h.Case kind e xs) (d.Case k kind z ys)
    is_for : (p : Path) (head : Box ForHeader Global) (x : Box Stmt Global) (i j k : ℕ) (t u : Target) (y w z : Typed) (signed : Bool)
        (all inner : Vec Statement Global) (body : Box Statement Global) (one : Statement) →
        IsAssignment Procedural (envs p).names (places head.value.first.0) head.value.first.1 t y →
        IsOperand (envs p).names head.value.condition signed z →
        IsAssignment Procedural (envs p).names (places head.value.step.0) head.value.step.1 u w → IsStatement envs p x.value one →
        inner.items ≡ one ∷ d.Assign k u w ∷ [] → body.value ≡ d.Block inner → all.items ≡ d.Assign i t y ∷ d.While j z body ∷ [] →
        IsStatement envs p (h.For head x) (d.Block all)
    is_while : (p : Path) (e : Expr) (k : ℕ) (z : Typed) (signed : Bool) (x : Box Stmt Global) (y : Box Statement Global) → IsOperand (envs p).names e signed z →
        IsStatement envs p x.value y.value → IsStatement envs p (h.While e x) (d.While k z y)
    is_repeat : (p : Path) (e : Expr) (k : ℕ) (z : Typed) (signed : Bool) (x : Box Stmt Global) (y : Box Statement Global) → IsOperand (envs p).names e signed z →
        IsStatement envs p x.value y.value → IsStatement envs p (h.Repeat e x) (d.Repeat k signed z y)
    is_forever : (p : Path) (k : ℕ) (x : Box Stmt Global) (y : Box Statement Global) → IsStatement envs p x.value y.value →
        IsStatement envs p (h.Forever x) (d.Forever k y)
    is_delay : (p : Path) (l : DelayValue) (k : ℕ) (n : Ticks) (x : Box Stmt Global) (y : Box Statement Global) → delay_of (envs p).names (envs p).ratio l ≡ Some n.count →
        IsStatement envs p x.value y.value → IsStatement envs p (h.Delay l x) (d.Delay k n y)
    is_event : (p : Path) (e : EventControl) (k : ℕ) (ts : Vec EventTerm Global) (x : Box Stmt Global) (y : Box Statement Global) →
        IsStatement envs p x.value y.value → AreEvents (envs p).names y.value e ts.items → IsStatement envs p (h.Event e x) (d.Event k ts y)
    is_print : (p : Path) (task : PrintTask) (xs : PrintArguments) (k : ℕ) (c : Call) → IsCall (envs p).names (envs p).ratio p task xs c →
        IsStatement envs p (h.Print task xs) (d.Call k c)
    is_finish : (p : Path) (number : Option Literal) (k : ℕ) → IsStatement envs p (h.Finish number) (d.Finish k)
    is_dump : (p : Path) (task : DumpTask) (xs : Option (DumpArgument × Vec DumpArgument Global)) (k : ℕ) → IsStatement envs p (h.Dump task xs) (d.Null k)

  -- the same of what stands behind `else`; nothing is a block of no statements (clause 9.4)
  pub data IsElse (envs : Path → Surroundings) : Path → Option (Box Stmt Global) → Statement → Type 0 where
    no_else : (p : Path) (ys : Vec Statement Global) → ys.items ≡ [] → IsElse envs p None (d.Block ys)
    an_else : (p : Path) (x : Box Stmt Global) (y : Statement) → IsStatement envs p x.value y → IsElse envs p (Some x) y

  -- the same of the items of a `case`, with their expressions at this size and sign (clause 9.5)
  pub data AreItems (envs : Path → Surroundings) : Path → ℕ → Bool → List (CaseLabel × Stmt) → List (Vec Typed Global × Statement) → Type 0 where
    no_items : (p : Path) (width : ℕ) (signed : Bool) → AreItems envs p width signed [] []
    more_items : (p : Path) (width : ℕ) (signed : Bool) (x : CaseLabel × Stmt) (y : Vec Typed Global × Statement) (xs : List (CaseLabel × Stmt))
        (ys : List (Vec Typed Global × Statement)) → AreTypedAt (envs p).names width signed (label_exprs x.0) y.0.items → IsStatement envs p x.1 y.1 →
        AreItems envs p width signed xs ys → AreItems envs p width signed (x ∷ xs) (y ∷ ys)

  -- the same of statements one after another
  pub data AreStatements (envs : Path → Surroundings) : Path → List Stmt → List Statement → Type 0 where
    are_none : (p : Path) → AreStatements envs p [] []
    are_more : (p : Path) (x : Stmt) (y : Statement) (xs : List Stmt) (ys : List Statement) → IsStatement envs p x y → AreStatements envs p xs ys →
        AreStatements envs p (x ∷ xs) (y ∷ ys)

-- the sum of numbers
abbrev pub total : List ℕ → ℕ
total [] = 0
total (n ∷ ns) = n + total ns

abbrev pub else_count : Option (Box ℕ Global) → ℕ
else_count None = 0
else_count (Some n) = n.value

-- one layer of a statement: how many statements it is, blocks apart, with the count of each inner statement in its place
abbrev pub count_step : Stmt-F ℕ → ℕ
count_step f.Null = 1
count_step (f.Assign l e) = 1
count_step (f.Later l v e) = 1
count_step (f.Block xs) = total xs.items
count_step (f.Named n ls xs) = total xs.items
count_step (f.If e x o) = 1 + x.value + else_count o
count_step (f.Case kind e xs) = 1 + total (map (λ (x : CaseLabel × ℕ). x.1) xs.items)
count_step (f.For head x) = 3 + x.value
count_step (f.While e x) = 1 + x.value
count_step (f.Repeat e x) = 1 + x.value
count_step (f.Forever x) = 1 + x.value
count_step (f.Delay l x) = 1 + x.value
count_step (f.Event e x) = 1 + x.value
count_step (f.Print task xs) = 1
count_step (f.Finish number) = 1
count_step (f.Dump task xs) = 1

-- how many statements a statement is, with those in it, blocks apart
abbrev pub count_of : Stmt → ℕ
count_of = fold-Stmt ℕ count_step

-- more statements in a process than have numbers: 2^32 or more (profile)
abbrev pub is_overfull : Reason → ℕ → Bool
is_overfull Limit n = nat_le (2 ^ 32) n
is_overfull _ n = false

-- a fault of an assignment: one of its target, or one of its expression (clause 6)
abbrev pub assign_fault : Reason → AssignmentKind → Environment → Assignee → Expr → Bool
assign_fault (Width w) how env a e = has_width_fault w (assigned_to how env a).finding || has_width_fault w (meant env e).finding
assign_fault _ how env a e = false

abbrev pub else_fault : Option (Box Bool Global) → Bool
else_fault None = false
else_fault (Some b) = b.value

-- one layer of a statement: whether it has a fault, with the answer for each inner statement in its place; the statements of a named block stand in
-- another scope
abbrev pub fault_step : Reason → Surroundings → Stmt-F Bool → Bool
fault_step r env f.Null = false
fault_step r env (f.Assign l e) = assign_fault r Procedural env.names (places l.value) e
fault_step r env (f.Later l v e) = assign_fault r Procedural env.names (places l.value) e.value || due_fault r env.names env.ratio v
fault_step r env (f.Block xs) = list_any (λ b. b) xs.items
fault_step r env (f.Named n ls xs) = false
fault_step r env (f.If e x o) = operand_fault r env.names e.value || x.value || else_fault o
fault_step r env (f.Case kind e xs) =
    case_fault r env.names e.value (map (λ (x : CaseLabel × Bool). x.0) xs.items) || list_any (λ (x : CaseLabel × Bool). x.1) xs.items
fault_step r env (f.For head x) =
    assign_fault r Procedural env.names (places head.value.first.0) head.value.first.1 || operand_fault r env.names head.value.condition
    || assign_fault r Procedural env.names (places head.value.step.0) head.value.step.1 || x.value
fault_step r env (f.While e x) = operand_fault r env.names e || x.value
fault_step r env (f.Repeat e x) = operand_fault r env.names e || x.value
fault_step r env (f.Forever x) = x.value
fault_step r env (f.Delay l x) = delay_fault r env.names env.ratio l || x.value
fault_step r env (f.Event e x) = event_fault r env.names e || x.value
fault_step r env (f.Print task xs) = print_fault r env.names xs
fault_step r env (f.Finish number) = false
fault_step r env (f.Dump task xs) = false

-- whether a statement has a fault
abbrev pub has_fault : Reason → Surroundings → Stmt → Bool
has_fault r env = fold-Stmt Bool (fault_step r env)

-- a fault of a statement in the scope of a path, by the path of the innermost scope of the statement that has it: that one, or that of a named block
-- inside (clause 9.8.3)
pub data HasFaultAt (envs : Path → Surroundings) (r : Reason) (at : Path) : Path → Stmt → Type 0 where
  in_statement : (p : Path) (x : Stmt) → has_fault r (envs p) x ≡ true → p ≡ at → HasFaultAt envs r at p x
  in_block : (p : Path) (x y : Stmt) (i j : ℕ) (b : NamedBlock) → slice_get (blocks_in x) i ≡ Some b → slice_get b.statements j ≡ Some y →
      HasFaultAt envs r at (p ++ plainly b.name ∷ []) y → HasFaultAt envs r at p x
