-- Statements of sources that say the same are one in a design.
use Rattle.std.proofs.Common.{◌≡◌, ℕ, suc, ◌+◌, ◌*◌, ◌==◌, option_map, Bool, true, List, [], ◌∷◌, ◌++◌, Option, Some, length, map, refl, ap, ap₂, sym, subst, ◌∙◌, arith}
use Rattle.std.proofs.lemmas.List.{length-append}
use Rattle.std.proofs.lemmas.Bool.{and_parts, eqb-true}
use Rattle.std.proofs.lemmas.Option.{same_Some}
use Rattle.std.specs.List.{AllZip, flat_map}
use Rattle.std.specs.declared.vec.Vec.{Vec}
use Rattle.std.specs.declared.boxed.Box.{Box}
use Rattle.std.specs.declared.alloc.Global.{Global}
use Rattle.vs_design.specs.vs_logic4.specs.declared.case.CaseKind.{CaseKind}
use Rattle.vs_syntax.specs.declared.tree.CaseLabel.{CaseLabel}
use Rattle.vs_syntax.specs.declared.tree.Argument.{Argument}
use Rattle.vs_syntax.specs.declared.tree.DelayValue.{DelayValue}
use Rattle.vs_syntax.specs.declared.tree.PrintArguments.{PrintArguments}
use Rattle.vs_syntax.specs.declared.tree.PrintTask.{PrintTask}
use Rattle.vs_syntax.specs.declared.tree.Expr.{Expr}
use Rattle.vs_syntax.specs.declared.tree.Left.{Left}
use Rattle.vs_syntax.specs.declared.tree.Stmt.{Stmt}
use Rattle.vs_syntax.specs.declared.tree.Stmt.TheVariants as s
use Rattle.vs_syntax.specs.declared.tree.Stmt.TheVariants.{rolls-Null, rolls-Assign, rolls-Later, rolls-Block, rolls-Named, rolls-If, rolls-Case, rolls-For, rolls-While, rolls-Repeat, rolls-Forever, rolls-Delay, rolls-Event, rolls-Print, rolls-Finish, rolls-Dump}
use Rattle.vs_syntax.specs.declared.tree.Stmt.TheOpen as g
use Rattle.vs_syntax.specs.declared.tree.Stmt.TheOpen.{Stmt-F}
use Rattle.vs_syntax.specs.declared.tree.Stmt.TheViews.{roll-Stmt, out-Stmt, out-roll-Stmt}
use Rattle.vs_syntax.specs.Same.{Pairwise, no_pair, pair_more, SameOption, both_absent, both_there, SameArgument, same_value_argument, same_time_argument, SamePrint, same_missing, same_empty, same_printed, SameExpr, SameExprs, same_no_expr, same_more_exprs, SameDelay, same_delay_number, same_delay_name, same_delay_group, SameLabel, same_expressions, same_default, SameStmt, same_null, same_assign, same_later, same_block, same_named_block, same_if, same_case, same_for, same_while, same_repeated, same_forever, same_delay, same_event, same_print, same_finish, same_dump, SameStmts, same_no_stmt, same_more_stmts, SameElse, same_no_else, same_else, SameCaseItems, same_no_item, same_more_items}
use Rattle.vs_design.specs.declared.expression.Typed.{Typed}
use Rattle.vs_design.specs.declared.statement.EventTerm.{EventTerm}
use Rattle.vs_design.specs.declared.statement.Target.{Target}
use Rattle.vs_design.specs.declared.statement.Ticks.{Ticks}
use Rattle.vs_design.specs.declared.statement.FormatArg.{FormatArg}
use Rattle.vs_design.specs.declared.statement.FormatArg.TheVariants as made
use Rattle.vs_design.specs.declared.statement.Call.{Call}
use Rattle.vs_design.specs.declared.statement.Statement.{Statement}
use Rattle.vs_design.specs.declared.statement.Statement.TheVariants as d
use Rattle.vs_design.specs.Uses.{joined}
use Rattle.vs_design.specs.WellFormed.{numbers, counts_from}
use Rattle.vs_design.proofs.FormLemmas.{numbers_Null, numbers_Assign, numbers_Later, numbers_Call, numbers_Finish, numbers_Block, numbers_Forever, numbers_Event}
use Rattle.vs_elab_statements.specs.vs_widths.specs.Environment.{Environment}
use Rattle.vs_elab_statements.specs.vs_widths.specs.Constants.{constant_finding, natural_at}
use Rattle.vs_elab_statements.specs.vs_widths.specs.Findings.{Finding, Has, together, alike}
use Rattle.vs_elab_statements.specs.vs_widths.specs.Meants.{own}
use Rattle.vs_elab_statements.specs.vs_widths.specs.Expressions.{meant, name_meant}
use Rattle.vs_elab_statements.specs.vs_widths.specs.Typing.{IsTypedAs}
use Rattle.vs_elab_statements.specs.vs_widths.specs.declared.kinds.AssignmentKind.TheVariants.{Procedural}
use Rattle.vs_elaborate.specs.vs_scopes.specs.Printed.{plainly, Path}
use Rattle.vs_elab_statements.specs.Members.{places}
use Rattle.vs_elab_statements.specs.Surroundings.{Surroundings}
use Rattle.vs_elab_statements.specs.Statements.{IsAssignment, IsOperand, delay_meant, delay_of, due_of, IsArgument, IsCall, print_text, print_values, AreEvents, label_exprs, common_finding, case_finding, AreTypedAt, no_typed, more_typed, IsStatement, is_null, is_assign, is_later, is_block, is_named, is_if, is_case, is_for, is_while, is_repeat, is_forever, is_delay, is_event, is_print, is_finish, is_dump, IsElse, no_else, an_else, AreItems, no_items, more_items, AreStatements, are_none, are_more}
use Rattle.vs_elab_statements.proofs.FormLemmas.{numbers_Delay, numbers_If, numbers_Case, numbers_While, numbers_Repeat, item_numbers}
use Rattle.vs_elaborate.specs.Same.{SameTyped, SameFormatArg, SameCall, SameSides, SameStatement, null_same, assign_same, later_same, call_same, finish_same, block_same, delay_same, event_same, if_same, case_same, while_same, repeat_same, forever_same, SameItems, items_end, item_same, SameStatements, statements_end, statement_same}
use Rattle.vs_elaborate.proofs.SameEventLemmas.{one_events}
use Rattle.vs_elaborate.proofs.SameTargetLemmas.{found_width, found_sign, one_sides}
use Rattle.vs_elaborate.proofs.SameTypedLemmas.{by_both, same_meant, one_typed}

-- ---- statements by their form

-- a `for` of a source in a design: its assignments, its condition and its statement, and how they stand there
record IsLoop (envs : Path → Surroundings) (p : Path) (l : Left) (a c : Expr) (m : Left) (b : Expr) (x : Stmt) (made : Statement) : Type 0 where
  i : ℕ
  j : ℕ
  k : ℕ
  t : Target
  u : Target
  y : Typed
  w : Typed
  z : Typed
  signed : Bool
  all : Vec Statement Global
  inner : Vec Statement Global
  body : Box Statement Global
  one : Statement
  first : IsAssignment Procedural (envs p).names (places l) a t y
  condition : IsOperand (envs p).names c signed z
  second : IsAssignment Procedural (envs p).names (places m) b u w
  statement : IsStatement envs p x one
  inner_is : inner.items ≡ one ∷ d.Assign k u w ∷ []
  body_is : body.value ≡ d.Block inner
  all_is : all.items ≡ d.Assign i t y ∷ d.While j z body ∷ []
  is : made ≡ d.Block all

-- a `case` of a source in a design: its expressions at their common size and sign, and its items
record IsChoice (envs : Path → Surroundings) (p : Path) (kind : CaseKind) (e : Expr) (xs : List (CaseLabel × Stmt)) (made : Statement) : Type 0 where
  k : ℕ
  z : Typed
  width : ℕ
  signed : Bool
  ys : Vec (Vec Typed Global × Statement) Global
  found : case_finding (envs p).names e (map (λ (x : CaseLabel × Stmt). x.0) xs) ≡ Has width signed
  typed : IsTypedAs (meant (envs p).names e) width signed z
  items : AreItems envs p width signed xs ys.items
  is : made ≡ d.Case k kind z ys

-- what the statement of a design is, by the form of the source's
abbrev StatementLayer : (Path → Surroundings) → Path → Stmt-F Stmt → Statement → Type 0
StatementLayer envs p g.Null y = (k : ℕ) × (y ≡ d.Null k)
StatementLayer envs p (g.Assign n v) y = (k : ℕ) × (u : Target) × (x : Typed) × IsAssignment Procedural (envs p).names (places n.value) v u x × (y ≡ d.Assign k u x)
StatementLayer envs p (g.Later l v e) y = (k : ℕ) × (n : Ticks) × (u : Target) × (x : Typed) × IsAssignment Procedural (envs p).names (places l.value) e.value u x × (due_of (envs p).names (envs p).ratio v ≡ Some n.count) × (y ≡ d.Later k n u x)
StatementLayer envs p (g.Block xs) y = (ys : Vec Statement Global) × AreStatements envs p xs.items ys.items × (y ≡ d.Block ys)
StatementLayer envs p (g.Named n ls xs) y = (ys : Vec Statement Global) × AreStatements envs (p ++ plainly n.items ∷ []) xs.items ys.items × (y ≡ d.Block ys)
StatementLayer envs p (g.If e x o) y = (k : ℕ) × (z : Typed) × (signed : Bool) × (u w : Box Statement Global) × IsOperand (envs p).names e.value signed z × IsStatement envs p x.value u.value × IsElse envs p o w.value × (y ≡ d.If k z u w)
StatementLayer envs p (g.Case kind e xs) y = IsChoice envs p kind e.value xs.items y
StatementLayer envs p (g.For head x) y = IsLoop envs p head.value.first.0 head.value.first.1 head.value.condition head.value.step.0 head.value.step.1 x.value y
StatementLayer envs p (g.While e x) y = (k : ℕ) × (z : Typed) × (signed : Bool) × (u : Box Statement Global) × IsOperand (envs p).names e signed z × IsStatement envs p x.value u.value × (y ≡ d.While k z u)
StatementLayer envs p (g.Repeat e x) y = (k : ℕ) × (z : Typed) × (signed : Bool) × (u : Box Statement Global) × IsOperand (envs p).names e signed z × IsStatement envs p x.value u.value × (y ≡ d.Repeat k signed z u)
StatementLayer envs p (g.Forever x) y = (k : ℕ) × (u : Box Statement Global) × IsStatement envs p x.value u.value × (y ≡ d.Forever k u)
StatementLayer envs p (g.Delay l x) y = (k : ℕ) × (n : Ticks) × (u : Box Statement Global) × (delay_of (envs p).names (envs p).ratio l ≡ Some n.count) × IsStatement envs p x.value u.value × (y ≡ d.Delay k n u)
StatementLayer envs p (g.Event e x) y = (k : ℕ) × (ts : Vec EventTerm Global) × (u : Box Statement Global) × IsStatement envs p x.value u.value × AreEvents (envs p).names u.value e ts.items × (y ≡ d.Event k ts u)
StatementLayer envs p (g.Print task xs) y = (k : ℕ) × (c : Call) × IsCall (envs p).names (envs p).ratio p task xs c × (y ≡ d.Call k c)
StatementLayer envs p (g.Finish n) y = (k : ℕ) × (y ≡ d.Finish k)
StatementLayer envs p (g.Dump task xs) y = (k : ℕ) × (y ≡ d.Null k)

-- what a statement of this form has, its layer has, and the other way round
layered : (envs : Path → Surroundings) (p : Path) (y : Stmt-F Stmt) (z : Stmt) (made : Statement) → roll-Stmt y ≡ z → StatementLayer envs p y made → StatementLayer envs p (out-Stmt z) made
layered envs p y z made h l = subst (λ o. StatementLayer envs p o made) (sym (ap out-Stmt (sym h) ∙ out-roll-Stmt y)) l

unlayered : (envs : Path → Surroundings) (p : Path) (y : Stmt-F Stmt) (z : Stmt) (made : Statement) → roll-Stmt y ≡ z → StatementLayer envs p (out-Stmt z) made → StatementLayer envs p y made
unlayered envs p y z made h l = subst (λ o. StatementLayer envs p o made) (ap out-Stmt (sym h) ∙ out-roll-Stmt y) l

statement_layer : (envs : Path → Surroundings) (p : Path) (x : Stmt) (y : Statement) → IsStatement envs p x y → StatementLayer envs p (out-Stmt x) y
statement_layer envs p x y (is_null _ k) = layered envs p g.Null x y rolls-Null (k, refl)
statement_layer envs p x y (is_assign _ l e k t v h) = layered envs p (g.Assign l e) x y (rolls-Assign l e) (k, t, v, h, refl)
statement_layer envs p x y (is_later _ l v e k n t u h i) = layered envs p (g.Later l v e) x y (rolls-Later l v e) (k, n, t, u, h, i, refl)
statement_layer envs p x y (is_block _ xs ys h) = layered envs p (g.Block xs) x y (rolls-Block xs) (ys, h, refl)
statement_layer envs p x y (is_named _ n ls xs ys h) = layered envs p (g.Named n ls xs) x y (rolls-Named n ls xs) (ys, h, refl)
statement_layer envs p x y (is_if _ e k z signed b o u w h m q) = layered envs p (g.If e b o) x y (rolls-If e b o) (k, z, signed, u, w, h, m, q, refl)
statement_layer envs p x y (is_case _ kind e k z width signed xs ys f h n m) =
    layered envs p (g.Case kind e xs) x y (rolls-Case kind e xs) (record { k = k; z = z; width = width; signed = signed; ys = ys; found = f; typed = h; items = m; is = refl })
statement_layer envs p x made (is_for _ head v i j k t u y w z signed all inner body one f h n e q r o) =
    layered envs p (g.For head v) x made (rolls-For head v)
    (record { i = i; j = j; k = k; t = t; u = u; y = y; w = w; z = z; signed = signed; all = all; inner = inner; body = body; one = one; first = f; condition = h; second = n; statement = e; inner_is = q; body_is = r; all_is = o; is = refl })
statement_layer envs p x y (is_while _ e k z signed b u h m) = layered envs p (g.While e b) x y (rolls-While e b) (k, z, signed, u, h, m, refl)
statement_layer envs p x y (is_repeat _ e k z signed b u h m) = layered envs p (g.Repeat e b) x y (rolls-Repeat e b) (k, z, signed, u, h, m, refl)
statement_layer envs p x y (is_forever _ k b u m) = layered envs p (g.Forever b) x y (rolls-Forever b) (k, u, m, refl)
statement_layer envs p x y (is_delay _ l k n b u h m) = layered envs p (g.Delay l b) x y (rolls-Delay l b) (k, n, u, h, m, refl)
statement_layer envs p x y (is_event _ e k ts b u m h) = layered envs p (g.Event e b) x y (rolls-Event e b) (k, ts, u, m, h, refl)
statement_layer envs p x y (is_print _ task xs k c h) = layered envs p (g.Print task xs) x y (rolls-Print task xs) (k, c, h, refl)
statement_layer envs p x y (is_finish _ n k) = layered envs p (g.Finish n) x y (rolls-Finish n) (k, refl)
statement_layer envs p x y (is_dump _ task xs k) = layered envs p (g.Dump task xs) x y (rolls-Dump task xs) (k, refl)

-- the layer of a statement of a known form
by_form : (envs : Path → Surroundings) (p : Path) (y : Stmt-F Stmt) (z : Stmt) (made : Statement) → roll-Stmt y ≡ z → IsStatement envs p z made → StatementLayer envs p y made
by_form envs p y z made h k = unlayered envs p y z made h (statement_layer envs p z made k)

-- ---- expressions and delays

-- expressions at one size and sign of expressions that say the same
both_typed : (env : Environment) (e e' : Expr) (w : ℕ) (g : Bool) (y y' : Typed) → SameExpr e e' → IsTypedAs (meant env e) w g y → IsTypedAs (meant env e') w g y' → SameTyped y y'
both_typed env e e' w g y y' m h k = one_typed (meant env e) w g y y' h (subst (λ v. IsTypedAs v w g y') (sym (same_meant env e e' m)) k)

-- the same at two sizes and signs that are one
found_typed : (env : Environment) (e e' : Expr) (w w' : ℕ) (g g' : Bool) (y y' : Typed) → SameExpr e e' → Has w g ≡ Has w' g' → IsTypedAs (meant env e) w g y → IsTypedAs (meant env e') w' g' y' → SameTyped y y'
found_typed env e e' w w' g g' y y' m i h k =
    both_typed env e e' w g y y' m h (subst (λ z. IsTypedAs (meant env e') z g y') (sym (ap found_width i)) (subst (λ z. IsTypedAs (meant env e') w' z y') (sym (ap found_sign i)) k))

-- conditions and counts that say the same have one sign
one_sign : (env : Environment) (e e' : Expr) (g g' : Bool) (y y' : Typed) → SameExpr e e' → IsOperand env e g y → IsOperand env e' g' y' → g ≡ g'
one_sign env e e' g g' y y' m h k = ap found_sign (sym h.has ∙ ap (λ v. v.finding) (same_meant env e e' m) ∙ k.has)

-- conditions and counts that say the same are one
one_operand : (env : Environment) (e e' : Expr) (g g' : Bool) (y y' : Typed) → SameExpr e e' → IsOperand env e g y → IsOperand env e' g' y' → SameTyped y y'
one_operand env e e' g g' y y' m h k =
    found_typed env e e' h.width k.width g g' y y' m (sym h.has ∙ ap (λ v. v.finding) (same_meant env e e' m) ∙ k.has) h.typed k.typed

same_delay_meant : (env : Environment) (l l' : DelayValue) → SameDelay l l' → delay_meant env l ≡ delay_meant env l'
same_delay_meant env _ _ (same_delay_number n) = refl
same_delay_meant env _ _ (same_delay_name n n' i) = ap (λ m. name_meant (env m)) i
same_delay_meant env _ _ (same_delay_group e e' m) = same_meant env e.value e'.value m

-- delays that say the same have as many ticks
same_ticks : (env : Environment) (ratio : ℕ) (l l' : DelayValue) → SameDelay l l' → delay_of env ratio l ≡ delay_of env ratio l'
same_ticks env ratio l l' m = ap (λ v. option_map (λ n. n * ratio) (natural_at (constant_finding v) (own v [] 0))) (same_delay_meant env l l' m)

same_due : (env : Environment) (ratio : ℕ) (o o' : Option DelayValue) → SameOption SameDelay o o' → due_of env ratio o ≡ due_of env ratio o'
same_due env ratio _ _ both_absent = refl
same_due env ratio _ _ (both_there l l' m) = same_ticks env ratio l l' m

-- ---- calls

-- arguments that say the same are one in a design
one_args : (env : Environment) (xs xs' : List Argument) (ys ys' : List FormatArg) → Pairwise SameArgument xs xs' → AllZip (IsArgument env) xs ys → AllZip (IsArgument env) xs' ys' → AllZip SameFormatArg ys ys'
one_args env _ _ [] [] no_pair h k = tt
one_args env _ _ (y ∷ ys) ys' no_pair h k = absurd h
one_args env _ _ [] (y' ∷ ys') no_pair h k = absurd k
one_args env _ _ [] ys' (pair_more x x' xs xs' m r) h k = absurd h
one_args env _ _ (y ∷ ys) [] (pair_more x x' xs xs' m r) h k = absurd k
one_args env _ _ (y ∷ ys) (y' ∷ ys') (pair_more x x' xs xs' m r) h k = (one x x' m y y' h.0 k.0, one_args env xs xs' ys ys' r h.1 k.1)
  where
    one : (x x' : Argument) → SameArgument x x' → (y y' : FormatArg) → IsArgument env x y → IsArgument env x' y' → SameFormatArg y y'
    one _ _ (same_value_argument e e' i) (made.Value g z) (made.Value g' z') p q = (one_sign env e e' g g' z z' i p q, one_operand env e e' g g' z z' i p q)
    one _ _ (same_value_argument e e' i) (made.Value g z) made.Time p q = absurd q
    one _ _ (same_value_argument e e' i) made.Time y' p q = absurd p
    one _ _ same_time_argument made.Time made.Time p q = tt
    one _ _ same_time_argument made.Time (made.Value g' z') p q = absurd q
    one _ _ same_time_argument (made.Value g z) y' p q = absurd p

same_text : (xs xs' : PrintArguments) → SamePrint xs xs' → print_text xs ≡ print_text xs'
same_text _ _ same_missing = refl
same_text _ _ same_empty = refl
same_text _ _ (same_printed n n' xs xs' i m) = i

same_values : (xs xs' : PrintArguments) → SamePrint xs xs' → Pairwise SameArgument (print_values xs) (print_values xs')
same_values _ _ same_missing = no_pair
same_values _ _ same_empty = no_pair
same_values _ _ (same_printed n n' xs xs' i m) = m

-- calls that say the same are one in a design
one_call : (env : Environment) (ratio : ℕ) (at : Path) (task : PrintTask) (xs xs' : PrintArguments) (c c' : Call) → SamePrint xs xs' → IsCall env ratio at task xs c → IsCall env ratio at task xs' c' → SameCall c c'
one_call env ratio at task xs xs' c c' m h k = record {
  kind = h.kind ∙ sym k.kind;
  text = h.text ∙ same_text xs xs' m ∙ sym k.text;
  args = one_args env (print_values xs) (print_values xs') c.args.items c'.args.items (same_values xs xs' m) h.args k.args;
  path = h.path ∙ sym k.path;
  ratio = h.ratio_is ∙ sym k.ratio_is;
}

-- ---- the expressions of a `case`

exprs_append : (as' bs cs es : List Expr) → SameExprs as' bs → SameExprs cs es → SameExprs (as' ++ cs) (bs ++ es)
exprs_append _ _ cs es same_no_expr k = k
exprs_append _ _ cs es (same_more_exprs x x' xs xs' m r) k = same_more_exprs x x' (xs ++ cs) (xs' ++ es) m (exprs_append xs xs' cs es r k)

same_label_exprs : (l l' : CaseLabel) → SameLabel l l' → SameExprs (label_exprs l) (label_exprs l')
same_label_exprs _ _ (same_expressions x x' xs xs' m r) = same_more_exprs x x' xs.items xs'.items m r
same_label_exprs _ _ (same_default colon) = same_no_expr

-- the expressions of the items of a `case`
abbrev exprs_of : List (CaseLabel × Stmt) → List Expr
exprs_of xs = flat_map label_exprs (map (λ (x : CaseLabel × Stmt). x.0) xs)

same_item_exprs : (xs xs' : List (CaseLabel × Stmt)) → SameCaseItems xs xs' → SameExprs (exprs_of xs) (exprs_of xs')
same_item_exprs _ _ same_no_item = same_no_expr
same_item_exprs _ _ (same_more_items x x' xs xs' m h r) = exprs_append (label_exprs x.0) (label_exprs x'.0) (exprs_of xs) (exprs_of xs') (same_label_exprs x.0 x'.0 m) (same_item_exprs xs xs' r)

same_common : (env : Environment) (f f' : Finding) (es es' : List Expr) → f ≡ f' → SameExprs es es' → common_finding env f es ≡ common_finding env f' es'
same_common env f f' _ _ i same_no_expr = i
same_common env f f' _ _ i (same_more_exprs x x' xs xs' m r) =
    same_common env (together alike f (meant env x).finding) (together alike f' (meant env x').finding) xs xs' (ap₂ (λ a b. together alike a b) i (ap (λ v. v.finding) (same_meant env x x' m))) r

-- expressions of an item at one size and sign
one_labels : (env : Environment) (w : ℕ) (g : Bool) (es es' : List Expr) (ys ys' : List Typed) → SameExprs es es' → AreTypedAt env w g es ys → AreTypedAt env w g es' ys' → AllZip SameTyped ys ys'
one_labels env w g _ _ _ _ same_no_expr no_typed no_typed = tt
one_labels env w g _ _ _ _ (same_more_exprs x x' xs xs' m r) (more_typed _ y _ ys h hs) (more_typed _ y' _ ys' k ks) =
    (both_typed env x x' w g y y' m h k, one_labels env w g xs xs' ys ys' r hs ks)

-- ---- statements

-- loops whose parts say the same
loops_same : (envs : Path → Surroundings) (at : Path) (l l' : Left) (a a' c c' : Expr) (m m' : Left) (b b' : Expr) (x x' : Stmt) (y y' : Statement) (p : IsLoop envs at l a c m b x y) (q : IsLoop envs at l' a' c' m' b' x' y') →
    SameSides p.t q.t p.y q.y → SameTyped p.z q.z → SameSides p.u q.u p.w q.w → SameStatement p.one q.one → SameStatement y y'
loops_same envs at l l' a a' c c' m m' b b' x x' y y' p q first condition second statement =
    let inside = by_both SameStatements p.inner.items q.inner.items _ _ p.inner_is q.inner_is
    (statement_same p.one q.one _ _ statement (statement_same _ _ [] [] (assign_same p.k q.k p.u q.u p.w q.w second) statements_end)) in
    let body = by_both SameStatement p.body.value q.body.value _ _ p.body_is q.body_is (block_same p.inner q.inner inside) in
    let all = by_both SameStatements p.all.items q.all.items _ _ p.all_is q.all_is
    (statement_same _ _ _ _ (assign_same p.i q.i p.t q.t p.y q.y first) (statement_same _ _ [] [] (while_same p.j q.j p.z q.z p.body q.body condition body) statements_end)) in
    by_both SameStatement y y' _ _ p.is q.is (block_same p.all q.all all)

mutual
  -- statements that say the same are one in a design
  pub one_statement : (envs : Path → Surroundings) (at : Path) (x x' : Stmt) (y y' : Statement) → SameStmt x x' → IsStatement envs at x y → IsStatement envs at x' y' → SameStatement y y'
  one_statement envs at _ _ y y' same_null h k =
      let p = by_form envs at g.Null s.Null y rolls-Null h in
      let q = by_form envs at g.Null s.Null y' rolls-Null k in
      by_both SameStatement y y' _ _ p.1 q.1 (null_same p.0 q.0)
  one_statement envs at _ _ y y' (same_assign l l' e e' i m) h k =
      let p = by_form envs at (g.Assign l e) (s.Assign l e) y (rolls-Assign l e) h in
      let q = by_form envs at (g.Assign l' e') (s.Assign l' e') y' (rolls-Assign l' e') k in
      by_both SameStatement y y' _ _ p.4 q.4 (assign_same p.0 q.0 p.1 q.1 p.2 q.2 (one_sides Procedural (envs at).names (places l.value) (places l'.value) e e' p.1 q.1 p.2 q.2 i m p.3 q.3))
  one_statement envs at _ _ y y' (same_later l l' v v' e e' i r m) h k =
      let p = by_form envs at (g.Later l v e) (s.Later l v e) y (rolls-Later l v e) h in
      let q = by_form envs at (g.Later l' v' e') (s.Later l' v' e') y' (rolls-Later l' v' e') k in
      by_both SameStatement y y' _ _ p.6 q.6
      (later_same p.0 q.0 p.1 q.1 p.2 q.2 p.3 q.3 (same_Some p.1.count q.1.count (sym p.5 ∙ same_due (envs at).names (envs at).ratio v v' r ∙ q.5))
      (one_sides Procedural (envs at).names (places l.value) (places l'.value) e.value e'.value p.2 q.2 p.3 q.3 i m p.4 q.4))
  one_statement envs at _ _ y y' (same_block xs xs' m) h k =
      let p = by_form envs at (g.Block xs) (s.Block xs) y (rolls-Block xs) h in
      let q = by_form envs at (g.Block xs') (s.Block xs') y' (rolls-Block xs') k in
      by_both SameStatement y y' _ _ p.2 q.2 (block_same p.0 q.0 (one_statements envs at xs.items xs'.items p.0.items q.0.items m p.1 q.1))
  one_statement envs at _ _ y y' (same_named_block n n' ls ls' xs xs' i m r) h k =
      let p = by_form envs at (g.Named n ls xs) (s.Named n ls xs) y (rolls-Named n ls xs) h in
      let q = by_form envs at (g.Named n' ls' xs') (s.Named n' ls' xs') y' (rolls-Named n' ls' xs') k in
      let inside : AreStatements envs (at ++ plainly n.items ∷ []) xs'.items q.0.items = subst (λ z. AreStatements envs (at ++ plainly z ∷ []) xs'.items q.0.items) (sym i) q.1 in
      by_both SameStatement y y' _ _ p.2 q.2 (block_same p.0 q.0 (one_statements envs (at ++ plainly n.items ∷ []) xs.items xs'.items p.0.items q.0.items r p.1 inside))
  one_statement envs at _ _ y y' (same_if e e' x x' o o' i m r) h k =
      let p = by_form envs at (g.If e x o) (s.If e x o) y (rolls-If e x o) h in
      let q = by_form envs at (g.If e' x' o') (s.If e' x' o') y' (rolls-If e' x' o') k in
      by_both SameStatement y y' _ _ p.8 q.8
      (if_same p.0 q.0 p.1 q.1 p.3 q.3 p.4 q.4 (one_operand (envs at).names e.value e'.value p.2 q.2 p.1 q.1 i p.5 q.5) (one_statement envs at x.value x'.value p.3.value q.3.value m p.6 q.6) (one_else envs at o o' p.4.value q.4.value r p.7 q.7))
  one_statement envs at _ _ y y' (same_case kind e e' xs xs' i m) h k =
      let p = by_form envs at (g.Case kind e xs) (s.Case kind e xs) y (rolls-Case kind e xs) h in
      let q = by_form envs at (g.Case kind e' xs') (s.Case kind e' xs') y' (rolls-Case kind e' xs') k in
      let one : Has p.width p.signed ≡ Has q.width q.signed
      = sym p.found ∙ same_common (envs at).names (meant (envs at).names e.value).finding (meant (envs at).names e'.value).finding (exprs_of xs.items) (exprs_of xs'.items) (ap (λ v. v.finding) (same_meant (envs at).names e.value e'.value i)) (same_item_exprs xs.items xs'.items m) ∙ q.found in
      by_both SameStatement y y' _ _ p.is q.is
      (case_same p.k q.k kind p.z q.z p.ys q.ys (found_typed (envs at).names e.value e'.value p.width q.width p.signed q.signed p.z q.z i one p.typed q.typed)
      (one_items envs at p.width q.width p.signed q.signed xs.items xs'.items p.ys.items q.ys.items (ap found_width one) (ap found_sign one) m p.items q.items))
  one_statement envs at _ _ y y' (same_for r r' x x' i1 i2 i3 i4 i5 m) h k =
      let p = by_form envs at (g.For r x) (s.For r x) y (rolls-For r x) h in
      let q = by_form envs at (g.For r' x') (s.For r' x') y' (rolls-For r' x') k in
      let o = r.value in
      let o' = r'.value in
      loops_same envs at o.first.0 o'.first.0 o.first.1 o'.first.1 o.condition o'.condition o.step.0 o'.step.0 o.step.1 o'.step.1 x.value x'.value y y' p q
      (one_sides Procedural (envs at).names (places o.first.0) (places o'.first.0) o.first.1 o'.first.1 p.t q.t p.y q.y i1 i2 p.first q.first)
      (one_operand (envs at).names o.condition o'.condition p.signed q.signed p.z q.z i3 p.condition q.condition)
      (one_sides Procedural (envs at).names (places o.step.0) (places o'.step.0) o.step.1 o'.step.1 p.u q.u p.w q.w i4 i5 p.second q.second)
      (one_statement envs at x.value x'.value p.one q.one m p.statement q.statement)
  one_statement envs at _ _ y y' (same_while e e' x x' i m) h k =
      let p = by_form envs at (g.While e x) (s.While e x) y (rolls-While e x) h in
      let q = by_form envs at (g.While e' x') (s.While e' x') y' (rolls-While e' x') k in
      by_both SameStatement y y' _ _ p.6 q.6 (while_same p.0 q.0 p.1 q.1 p.3 q.3 (one_operand (envs at).names e e' p.2 q.2 p.1 q.1 i p.4 q.4) (one_statement envs at x.value x'.value p.3.value q.3.value m p.5 q.5))
  one_statement envs at _ _ y y' (same_repeated e e' x x' i m) h k =
      let p = by_form envs at (g.Repeat e x) (s.Repeat e x) y (rolls-Repeat e x) h in
      let q = by_form envs at (g.Repeat e' x') (s.Repeat e' x') y' (rolls-Repeat e' x') k in
      by_both SameStatement y y' _ _ p.6 (q.6 ∙ ap (λ z. d.Repeat q.0 z q.1 q.3) (sym (one_sign (envs at).names e e' p.2 q.2 p.1 q.1 i p.4 q.4)))
      (repeat_same p.0 q.0 p.2 p.1 q.1 p.3 q.3 (one_operand (envs at).names e e' p.2 q.2 p.1 q.1 i p.4 q.4) (one_statement envs at x.value x'.value p.3.value q.3.value m p.5 q.5))
  one_statement envs at _ _ y y' (same_forever x x' m) h k =
      let p = by_form envs at (g.Forever x) (s.Forever x) y (rolls-Forever x) h in
      let q = by_form envs at (g.Forever x') (s.Forever x') y' (rolls-Forever x') k in
      by_both SameStatement y y' _ _ p.3 q.3 (forever_same p.0 q.0 p.1 q.1 (one_statement envs at x.value x'.value p.1.value q.1.value m p.2 q.2))
  one_statement envs at _ _ y y' (same_delay l l' x x' i m) h k =
      let p = by_form envs at (g.Delay l x) (s.Delay l x) y (rolls-Delay l x) h in
      let q = by_form envs at (g.Delay l' x') (s.Delay l' x') y' (rolls-Delay l' x') k in
      by_both SameStatement y y' _ _ p.5 q.5
      (delay_same p.0 q.0 p.1 q.1 p.2 q.2 (same_Some p.1.count q.1.count (sym p.3 ∙ same_ticks (envs at).names (envs at).ratio l l' i ∙ q.3)) (one_statement envs at x.value x'.value p.2.value q.2.value m p.4 q.4))
  one_statement envs at _ _ y y' (same_event e e' x x' i m) h k =
      let p = by_form envs at (g.Event e x) (s.Event e x) y (rolls-Event e x) h in
      let q = by_form envs at (g.Event e' x') (s.Event e' x') y' (rolls-Event e' x') k in
      let body = one_statement envs at x.value x'.value p.2.value q.2.value m p.3 q.3 in
      by_both SameStatement y y' _ _ p.5 q.5 (event_same p.0 q.0 p.1 q.1 p.2 q.2 (one_events (envs at).names p.2.value q.2.value e e' p.1.items q.1.items body i p.4 q.4) body)
  one_statement envs at _ _ y y' (same_print task xs xs' m) h k =
      let p = by_form envs at (g.Print task xs) (s.Print task xs) y (rolls-Print task xs) h in
      let q = by_form envs at (g.Print task xs') (s.Print task xs') y' (rolls-Print task xs') k in
      by_both SameStatement y y' _ _ p.3 q.3 (call_same p.0 q.0 p.1 q.1 (one_call (envs at).names (envs at).ratio at task xs xs' p.1 q.1 m p.2 q.2))
  one_statement envs at _ _ y y' (same_finish n) h k =
      let p = by_form envs at (g.Finish n) (s.Finish n) y (rolls-Finish n) h in
      let q = by_form envs at (g.Finish n) (s.Finish n) y' (rolls-Finish n) k in
      by_both SameStatement y y' _ _ p.1 q.1 (finish_same p.0 q.0)
  one_statement envs at _ _ y y' (same_dump task xs xs' m) h k =
      let p = by_form envs at (g.Dump task xs) (s.Dump task xs) y (rolls-Dump task xs) h in
      let q = by_form envs at (g.Dump task xs') (s.Dump task xs') y' (rolls-Dump task xs') k in
      by_both SameStatement y y' _ _ p.1 q.1 (null_same p.0 q.0)

  one_else : (envs : Path → Surroundings) (at : Path) (o o' : Option (Box Stmt Global)) (y y' : Statement) → SameElse o o' → IsElse envs at o y → IsElse envs at o' y' → SameStatement y y'
  one_else envs at _ _ _ _ same_no_else (no_else _ ys h) (no_else _ ys' k) = block_same ys ys' (by_both SameStatements ys.items ys'.items [] [] h k statements_end)
  one_else envs at _ _ _ _ (same_else x x' m) (an_else _ _ y h) (an_else _ _ y' k) = one_statement envs at x.value x'.value y y' m h k

  one_items : (envs : Path → Surroundings) (at : Path) (w w' : ℕ) (g g' : Bool) (xs xs' : List (CaseLabel × Stmt)) (ys ys' : List (Vec Typed Global × Statement)) → w ≡ w' → g ≡ g' → SameCaseItems xs xs' →
      AreItems envs at w g xs ys → AreItems envs at w' g' xs' ys' → SameItems ys ys'
  one_items envs at w w' g g' _ _ _ _ i j same_no_item (no_items _ _ _) (no_items _ _ _) = items_end
  one_items envs at w w' g g' _ _ _ _ i j (same_more_items x x' xs xs' m n r) (more_items _ _ _ _ y _ ys h p hs) (more_items _ _ _ _ y' _ ys' k q ks) =
      let sized = subst (λ z. AreTypedAt (envs at).names z g (label_exprs x'.0) y'.0.items) (sym i) (subst (λ z. AreTypedAt (envs at).names w' z (label_exprs x'.0) y'.0.items) (sym j) k) in
      item_same y y' ys ys' (one_labels (envs at).names w g (label_exprs x.0) (label_exprs x'.0) y.0.items y'.0.items (same_label_exprs x.0 x'.0 m) h sized) (one_statement envs at x.1 x'.1 y.1 y'.1 n p q)
      (one_items envs at w w' g g' xs xs' ys ys' i j r hs ks)

  one_statements : (envs : Path → Surroundings) (at : Path) (xs xs' : List Stmt) (ys ys' : List Statement) → SameStmts xs xs' → AreStatements envs at xs ys → AreStatements envs at xs' ys' → SameStatements ys ys'
  one_statements envs at _ _ _ _ same_no_stmt (are_none _) (are_none _) = statements_end
  one_statements envs at _ _ _ _ (same_more_stmts x x' xs xs' m r) (are_more _ _ y _ ys h k) (are_more _ _ y' _ ys' h' k') =
      statement_same y y' ys ys' (one_statement envs at x x' y y' m h h') (one_statements envs at xs xs' ys ys' r k k')

-- ---- the numbers of statements

-- lists with as many elements, one after another
as_many : (a a' b b' : List ℕ) → length a ≡ length a' → length b ≡ length b' → length (a ++ b) ≡ length (a' ++ b')
as_many a a' b b' h k = length-append a b ∙ ap₂ (λ m n. m + n) h k ∙ sym (length-append a' b')

mutual
  pub same_count : (y y' : Statement) → SameStatement y y' → length (numbers y) ≡ length (numbers y')
  same_count _ _ (null_same k k') = ap length (numbers_Null k) ∙ sym (ap length (numbers_Null k'))
  same_count _ _ (assign_same k k' u u' x x' m) = ap length (numbers_Assign k u x) ∙ sym (ap length (numbers_Assign k' u' x'))
  same_count _ _ (later_same k k' n n' u u' x x' c m) = ap length (numbers_Later k n u x) ∙ sym (ap length (numbers_Later k' n' u' x'))
  same_count _ _ (call_same k k' c c' m) = ap length (numbers_Call k c) ∙ sym (ap length (numbers_Call k' c'))
  same_count _ _ (finish_same k k') = ap length (numbers_Finish k) ∙ sym (ap length (numbers_Finish k'))
  same_count _ _ (block_same xs xs' m) = ap length (numbers_Block xs) ∙ same_counts xs.items xs'.items m ∙ sym (ap length (numbers_Block xs'))
  same_count _ _ (delay_same k k' n n' x x' c m) = ap length (numbers_Delay k n x) ∙ ap suc (same_count x.value x'.value m) ∙ sym (ap length (numbers_Delay k' n' x'))
  same_count _ _ (event_same k k' ts ts' x x' c m) = ap length (numbers_Event k ts x) ∙ ap suc (same_count x.value x'.value m) ∙ sym (ap length (numbers_Event k' ts' x'))
  same_count _ _ (if_same k k' e e' x x' z z' h m r) =
      ap length (numbers_If k e x z) ∙ ap suc (as_many (numbers x.value) (numbers x'.value) (numbers z.value) (numbers z'.value) (same_count x.value x'.value m) (same_count z.value z'.value r)) ∙ sym (ap length (numbers_If k' e' x' z'))
  same_count _ _ (case_same k k' kind e e' xs xs' h m) = ap length (numbers_Case k kind e xs) ∙ ap suc (same_item_counts xs.items xs'.items m) ∙ sym (ap length (numbers_Case k' kind e' xs'))
  same_count _ _ (while_same k k' e e' x x' h m) = ap length (numbers_While k e x) ∙ ap suc (same_count x.value x'.value m) ∙ sym (ap length (numbers_While k' e' x'))
  same_count _ _ (repeat_same k k' signed e e' x x' h m) = ap length (numbers_Repeat k signed e x) ∙ ap suc (same_count x.value x'.value m) ∙ sym (ap length (numbers_Repeat k' signed e' x'))
  same_count _ _ (forever_same k k' x x' m) = ap length (numbers_Forever k x) ∙ ap suc (same_count x.value x'.value m) ∙ sym (ap length (numbers_Forever k' x'))

  same_counts : (xs xs' : List Statement) → SameStatements xs xs' → length (joined (map numbers xs)) ≡ length (joined (map numbers xs'))
  same_counts _ _ statements_end = refl
  same_counts _ _ (statement_same x x' xs xs' m r) =
      as_many (numbers x) (numbers x') (joined (map numbers xs)) (joined (map numbers xs')) (same_count x x' m) (same_counts xs xs' r)

  same_item_counts : (xs xs' : List (Vec Typed Global × Statement)) → SameItems xs xs' → length (joined (map item_numbers xs)) ≡ length (joined (map item_numbers xs'))
  same_item_counts _ _ items_end = refl
  same_item_counts _ _ (item_same x x' xs xs' h m r) =
      as_many (numbers x.1) (numbers x'.1) (joined (map item_numbers xs)) (joined (map item_numbers xs')) (same_count x.1 x'.1 m) (same_item_counts xs xs' r)

-- numbers that count up from one on are determined by how many they are
pub one_count : (a : ℕ) (ns ms : List ℕ) → length ns ≡ length ms → counts_from a ns ≡ true → counts_from a ms ≡ true → ns ≡ ms
one_count a [] [] h p q = refl
one_count a [] (m ∷ ms) h p q = absurd (omega (arith, h))
one_count a (n ∷ ns) [] h p q = absurd (omega (arith, h))
one_count a (n ∷ ns) (m ∷ ms) h p q =
    let u = and_parts (n == a) (counts_from (suc a) ns) p in
    let v = and_parts (m == a) (counts_from (suc a) ms) q in
    let i : n ≡ m = eqb-true n a u.0 ∙ sym (eqb-true m a v.0) in
    let long : length ns ≡ length ms = omega (arith, h) in
    ap (λ z. z ∷ ns) i ∙ ap (λ z. m ∷ z) (one_count (suc a) ns ms long u.1 v.1)
