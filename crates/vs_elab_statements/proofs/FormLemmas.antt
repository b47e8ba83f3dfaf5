-- Faults, counts and numbers of statements, by their form.
use Rattle.std.proofs.Common.{◌≡◌, ℕ, zero, suc, ◌+◌, ◌<◌, ◌≤◌, Bool, true, false, ◌||◌, List, [], ◌∷◌, ◌++◌, Option, None, Some, length, map, take, get_or, refl, ap, sym, ◌∙◌, arith, append_assoc}
use Rattle.std.specs.List.{list_any}
use Rattle.std.specs.declared.vec.Vec.{Vec}
use Rattle.std.specs.declared.boxed.Box.{Box}
use Rattle.std.specs.declared.alloc.Global.{Global}
use Rattle.std.proofs.lemmas.List.{append-nil}
use Rattle.vs_syntax.specs.declared.tree.Expr.{Expr}
use Rattle.vs_syntax.specs.declared.tree.Left.{Left}
use Rattle.vs_syntax.specs.declared.tree.ForHeader.{ForHeader}
use Rattle.vs_syntax.specs.declared.tree.LocalDeclaration.{LocalDeclaration}
use Rattle.vs_syntax.specs.declared.tree.Stmt.{Stmt}
use Rattle.vs_syntax.specs.declared.tree.Stmt.TheVariants as s
use Rattle.vs_syntax.specs.declared.tree.Stmt.TheOpen as f
use Rattle.vs_syntax.specs.declared.tree.CaseLabel.{CaseLabel}
use Rattle.vs_syntax.specs.declared.tree.DelayValue.{DelayValue}
use Rattle.vs_syntax.specs.declared.tree.EventControl.{EventControl}
use Rattle.vs_syntax.specs.vs_lexer.specs.declared.token.Literal.{Literal}
use Rattle.vs_syntax.specs.declared.tree.PrintTask.{PrintTask}
use Rattle.vs_syntax.specs.declared.tree.PrintArguments.{PrintArguments}
use Rattle.vs_syntax.specs.declared.tree.DumpTask.{DumpTask}
use Rattle.vs_syntax.specs.declared.tree.DumpArgument.{DumpArgument}
use Rattle.vs_syntax.specs.declared.tree.Stmt.TheVariants.{rolls-Null, rolls-Assign, rolls-Later, rolls-Block, rolls-Named, rolls-If, rolls-Case, rolls-For, rolls-While, rolls-Repeat, rolls-Forever, rolls-Delay, rolls-Event, rolls-Print, rolls-Finish, rolls-Dump}
use Rattle.vs_syntax.specs.declared.tree.Stmt.TheFolds.{fold-roll-Stmt}
use Rattle.vs_design.specs.Uses.{joined}
use Rattle.vs_design.specs.WellFormed.{numbers, numbers_step}
use Rattle.vs_design.specs.declared.expression.Typed.{Typed}
use Rattle.vs_design.specs.declared.statement.Ticks.{Ticks}
use Rattle.vs_design.specs.vs_logic4.specs.declared.case.CaseKind.{CaseKind}
use Rattle.vs_design.specs.declared.statement.Statement.{Statement}
use Rattle.vs_design.specs.declared.statement.Statement.TheVariants as d
use Rattle.vs_design.specs.declared.statement.Statement.TheVariants.{rolls-If as drolls-If, rolls-Case as drolls-Case, rolls-While as drolls-While, rolls-Repeat as drolls-Repeat, rolls-Delay as drolls-Delay}
use Rattle.vs_design.specs.declared.statement.Statement.TheOpen as g
use Rattle.vs_design.specs.declared.statement.Statement.TheFolds.{fold-roll-Statement}
use Rattle.vs_widths.specs.declared.kinds.AssignmentKind.TheVariants.{Procedural}
use Rattle.vs_scopes.specs.declared.faults.Reason.{Reason}
use Rattle.vs_elab_statements.specs.Statements.{assign_fault, operand_fault, delay_fault, due_fault, print_fault, event_fault, case_fault, fault_step, has_fault, count_step, count_of, total}
use Rattle.vs_elab_statements.specs.Members.{places}
use Rattle.vs_elab_statements.specs.Surroundings.{Surroundings}
use Rattle.vs_elab_statements.specs.passes.Bodies.{counting, else_list}
use Rattle.vs_scopes.proofs.Folds.{any_of_map}
use Rattle.vs_design.specs.vs_logic4.proofs.Basics.{or_none}

-- ---- faults, by form

pub fault_Null : (r : Reason) (env : Surroundings) → has_fault r env s.Null ≡ false
fault_Null r env = ap (has_fault r env) (sym rolls-Null) ∙ fold-roll-Stmt Bool (fault_step r env) f.Null

pub fault_Assign : (r : Reason) (env : Surroundings) (l : Box Left Global) (e : Expr) → has_fault r env (s.Assign l e) ≡ assign_fault r Procedural env.names (places l.value) e
fault_Assign r env l e = ap (has_fault r env) (sym (rolls-Assign l e)) ∙ fold-roll-Stmt Bool (fault_step r env) (f.Assign l e)

pub fault_Later : (r : Reason) (env : Surroundings) (l : Box Left Global) (v : Option DelayValue) (e : Box Expr Global) → has_fault r env (s.Later l v e) ≡ (assign_fault r Procedural env.names (places l.value) e.value || due_fault r env.names env.ratio v)
fault_Later r env l v e = ap (has_fault r env) (sym (rolls-Later l v e)) ∙ fold-roll-Stmt Bool (fault_step r env) (f.Later l v e)

pub fault_Print : (r : Reason) (env : Surroundings) (task : PrintTask) (xs : PrintArguments) → has_fault r env (s.Print task xs) ≡ print_fault r env.names xs
fault_Print r env task xs = ap (has_fault r env) (sym (rolls-Print task xs)) ∙ fold-roll-Stmt Bool (fault_step r env) (f.Print task xs)

pub fault_Finish : (r : Reason) (env : Surroundings) (n : Option Literal) → has_fault r env (s.Finish n) ≡ false
fault_Finish r env n = ap (has_fault r env) (sym (rolls-Finish n)) ∙ fold-roll-Stmt Bool (fault_step r env) (f.Finish n)

pub fault_Dump : (r : Reason) (env : Surroundings) (task : DumpTask) (xs : Option (DumpArgument × Vec DumpArgument Global)) → has_fault r env (s.Dump task xs) ≡ false
fault_Dump r env task xs = ap (has_fault r env) (sym (rolls-Dump task xs)) ∙ fold-roll-Stmt Bool (fault_step r env) (f.Dump task xs)

pub fault_Block : (r : Reason) (env : Surroundings) (xs : Vec Stmt Global) → has_fault r env (s.Block xs) ≡ list_any (has_fault r env) xs.items
fault_Block r env xs = ap (has_fault r env) (sym (rolls-Block xs)) ∙ fold-roll-Stmt Bool (fault_step r env) (f.Block xs) ∙ any_of_map (has_fault r env) xs.items

pub fault_Named : (r : Reason) (env : Surroundings) (n : Vec ℕ Global) (ls : Vec LocalDeclaration Global) (xs : Vec Stmt Global) → has_fault r env (s.Named n ls xs) ≡ false
fault_Named r env n ls xs = ap (has_fault r env) (sym (rolls-Named n ls xs)) ∙ fold-roll-Stmt Bool (fault_step r env) (f.Named n ls xs)

pub fault_If : (r : Reason) (env : Surroundings) (e : Box Expr Global) (x : Box Stmt Global) (o : Option (Box Stmt Global)) →
    has_fault r env (s.If e x o) ≡ (operand_fault r env.names e.value || has_fault r env x.value || list_any (has_fault r env) (else_list o))
fault_If r env e x None = ap (has_fault r env) (sym (rolls-If e x None)) ∙ fold-roll-Stmt Bool (fault_step r env) (f.If e x None)
fault_If r env e x (Some z) =
    ap (has_fault r env) (sym (rolls-If e x (Some z))) ∙ fold-roll-Stmt Bool (fault_step r env) (f.If e x (Some z))
    ∙ ap (λ b. operand_fault r env.names e.value || has_fault r env x.value || b) (sym (or_none (has_fault r env z.value)))

labels_each : {B C : Type 0} (g : B → C) (xs : List (CaseLabel × B)) → map (λ (x : CaseLabel × C). x.0) (map (λ (x : CaseLabel × B). (x.0, g x.1)) xs) ≡ map (λ (x : CaseLabel × B). x.0) xs
labels_each g [] = refl
labels_each g (x ∷ xs) = ap (λ ls. x.0 ∷ ls) (labels_each g xs)

any_each : {B : Type 0} (g : B → Bool) (xs : List (CaseLabel × B)) → list_any (λ (x : CaseLabel × Bool). x.1) (map (λ (x : CaseLabel × B). (x.0, g x.1)) xs) ≡ list_any (λ (x : CaseLabel × B). g x.1) xs
any_each g [] = refl
any_each g (x ∷ xs) = ap (λ b. g x.1 || b) (any_each g xs)

-- the labels of the items of a `case`
abbrev pub labels_of : List (CaseLabel × Stmt) → List CaseLabel
labels_of xs = map (λ (x : CaseLabel × Stmt). x.0) xs

pub fault_Case : (r : Reason) (env : Surroundings) (kind : CaseKind) (e : Box Expr Global) (xs : Vec (CaseLabel × Stmt) Global) →
    has_fault r env (s.Case kind e xs) ≡ (case_fault r env.names e.value (labels_of xs.items) || list_any (λ (x : CaseLabel × Stmt). has_fault r env x.1) xs.items)
fault_Case r env kind e xs =
    ap (has_fault r env) (sym (rolls-Case kind e xs)) ∙ fold-roll-Stmt Bool (fault_step r env) (f.Case kind e xs)
    ∙ ap (λ ls. case_fault r env.names e.value ls || list_any (λ (x : CaseLabel × Bool). x.1) (map (λ (x : CaseLabel × Stmt). (x.0, has_fault r env x.1)) xs.items)) (labels_each (has_fault r env) xs.items)
    ∙ ap (λ b. case_fault r env.names e.value (labels_of xs.items) || b) (any_each (has_fault r env) xs.items)

pub fault_For : (r : Reason) (env : Surroundings) (head : Box ForHeader Global) (x : Box Stmt Global) →
    has_fault r env (s.For head x) ≡ (assign_fault r Procedural env.names (places head.value.first.0) head.value.first.1 || operand_fault r env.names head.value.condition || assign_fault r Procedural env.names (places head.value.step.0) head.value.step.1 || has_fault r env x.value)
fault_For r env head x = ap (has_fault r env) (sym (rolls-For head x)) ∙ fold-roll-Stmt Bool (fault_step r env) (f.For head x)

pub fault_While : (r : Reason) (env : Surroundings) (e : Expr) (x : Box Stmt Global) → has_fault r env (s.While e x) ≡ (operand_fault r env.names e || has_fault r env x.value)
fault_While r env e x = ap (has_fault r env) (sym (rolls-While e x)) ∙ fold-roll-Stmt Bool (fault_step r env) (f.While e x)

pub fault_Repeat : (r : Reason) (env : Surroundings) (e : Expr) (x : Box Stmt Global) → has_fault r env (s.Repeat e x) ≡ (operand_fault r env.names e || has_fault r env x.value)
fault_Repeat r env e x = ap (has_fault r env) (sym (rolls-Repeat e x)) ∙ fold-roll-Stmt Bool (fault_step r env) (f.Repeat e x)

pub fault_Forever : (r : Reason) (env : Surroundings) (x : Box Stmt Global) → has_fault r env (s.Forever x) ≡ has_fault r env x.value
fault_Forever r env x = ap (has_fault r env) (sym (rolls-Forever x)) ∙ fold-roll-Stmt Bool (fault_step r env) (f.Forever x)

pub fault_Delay : (r : Reason) (env : Surroundings) (l : DelayValue) (x : Box Stmt Global) → has_fault r env (s.Delay l x) ≡ (delay_fault r env.names env.ratio l || has_fault r env x.value)
fault_Delay r env l x = ap (has_fault r env) (sym (rolls-Delay l x)) ∙ fold-roll-Stmt Bool (fault_step r env) (f.Delay l x)

pub fault_Event : (r : Reason) (env : Surroundings) (e : EventControl) (x : Box Stmt Global) → has_fault r env (s.Event e x) ≡ (event_fault r env.names e || has_fault r env x.value)
fault_Event r env e x = ap (has_fault r env) (sym (rolls-Event e x)) ∙ fold-roll-Stmt Bool (fault_step r env) (f.Event e x)

-- ---- counts, by form

pub count_Null : count_of s.Null ≡ 1
count_Null = ap count_of (sym rolls-Null) ∙ fold-roll-Stmt ℕ count_step f.Null

pub count_Assign : (l : Box Left Global) (e : Expr) → count_of (s.Assign l e) ≡ 1
count_Assign l e = ap count_of (sym (rolls-Assign l e)) ∙ fold-roll-Stmt ℕ count_step (f.Assign l e)

pub count_Later : (l : Box Left Global) (v : Option DelayValue) (e : Box Expr Global) → count_of (s.Later l v e) ≡ 1
count_Later l v e = ap count_of (sym (rolls-Later l v e)) ∙ fold-roll-Stmt ℕ count_step (f.Later l v e)

pub count_Print : (task : PrintTask) (xs : PrintArguments) → count_of (s.Print task xs) ≡ 1
count_Print task xs = ap count_of (sym (rolls-Print task xs)) ∙ fold-roll-Stmt ℕ count_step (f.Print task xs)

pub count_Finish : (n : Option Literal) → count_of (s.Finish n) ≡ 1
count_Finish n = ap count_of (sym (rolls-Finish n)) ∙ fold-roll-Stmt ℕ count_step (f.Finish n)

pub count_Dump : (task : DumpTask) (xs : Option (DumpArgument × Vec DumpArgument Global)) → count_of (s.Dump task xs) ≡ 1
count_Dump task xs = ap count_of (sym (rolls-Dump task xs)) ∙ fold-roll-Stmt ℕ count_step (f.Dump task xs)

abbrev pub counts : List Stmt → ℕ
counts xs = total (map count_of xs)

pub count_Block : (xs : Vec Stmt Global) → count_of (s.Block xs) ≡ counts xs.items
count_Block xs = ap count_of (sym (rolls-Block xs)) ∙ fold-roll-Stmt ℕ count_step (f.Block xs)

pub count_Named : (n : Vec ℕ Global) (ls : Vec LocalDeclaration Global) (xs : Vec Stmt Global) → count_of (s.Named n ls xs) ≡ counts xs.items
count_Named n ls xs = ap count_of (sym (rolls-Named n ls xs)) ∙ fold-roll-Stmt ℕ count_step (f.Named n ls xs)

pub count_If : (e : Box Expr Global) (x : Box Stmt Global) (o : Option (Box Stmt Global)) → count_of (s.If e x o) ≡ 1 + count_of x.value + counts (else_list o)
count_If e x None = ap count_of (sym (rolls-If e x None)) ∙ fold-roll-Stmt ℕ count_step (f.If e x None)
count_If e x (Some z) =
    ap count_of (sym (rolls-If e x (Some z))) ∙ fold-roll-Stmt ℕ count_step (f.If e x (Some z))
    ∙ (let e : 1 + count_of x.value + count_of z.value ≡ 1 + count_of x.value + (count_of z.value + 0) = omega arith in e)

total_each : {B : Type 0} (g : B → ℕ) (xs : List (CaseLabel × B)) → total (map (λ (x : CaseLabel × ℕ). x.1) (map (λ (x : CaseLabel × B). (x.0, g x.1)) xs)) ≡ total (map (λ (x : CaseLabel × B). g x.1) xs)
total_each g [] = refl
total_each g (x ∷ xs) = ap (λ n. g x.1 + n) (total_each g xs)

-- how many statements an item of a `case` is
abbrev pub item_count : CaseLabel × Stmt → ℕ
item_count x = count_of x.1

pub count_Case : (kind : CaseKind) (e : Box Expr Global) (xs : Vec (CaseLabel × Stmt) Global) → count_of (s.Case kind e xs) ≡ 1 + total (map item_count xs.items)
count_Case kind e xs =
    ap count_of (sym (rolls-Case kind e xs)) ∙ fold-roll-Stmt ℕ count_step (f.Case kind e xs) ∙ ap (λ n. 1 + n) (total_each count_of xs.items)

pub count_For : (head : Box ForHeader Global) (x : Box Stmt Global) → count_of (s.For head x) ≡ 3 + count_of x.value
count_For head x = ap count_of (sym (rolls-For head x)) ∙ fold-roll-Stmt ℕ count_step (f.For head x)

pub count_While : (e : Expr) (x : Box Stmt Global) → count_of (s.While e x) ≡ 1 + count_of x.value
count_While e x = ap count_of (sym (rolls-While e x)) ∙ fold-roll-Stmt ℕ count_step (f.While e x)

pub count_Repeat : (e : Expr) (x : Box Stmt Global) → count_of (s.Repeat e x) ≡ 1 + count_of x.value
count_Repeat e x = ap count_of (sym (rolls-Repeat e x)) ∙ fold-roll-Stmt ℕ count_step (f.Repeat e x)

pub count_Forever : (x : Box Stmt Global) → count_of (s.Forever x) ≡ 1 + count_of x.value
count_Forever x = ap count_of (sym (rolls-Forever x)) ∙ fold-roll-Stmt ℕ count_step (f.Forever x)

pub count_Delay : (l : DelayValue) (x : Box Stmt Global) → count_of (s.Delay l x) ≡ 1 + count_of x.value
count_Delay l x = ap count_of (sym (rolls-Delay l x)) ∙ fold-roll-Stmt ℕ count_step (f.Delay l x)

pub count_Event : (e : EventControl) (x : Box Stmt Global) → count_of (s.Event e x) ≡ 1 + count_of x.value
count_Event e x = ap count_of (sym (rolls-Event e x)) ∙ fold-roll-Stmt ℕ count_step (f.Event e x)

pub total_push : {A : Type 0} (g : A → ℕ) (xs : List A) (x : A) → total (map g (xs ++ x ∷ [])) ≡ total (map g xs) + g x
total_push g [] x = omega arith
total_push g (y ∷ ys) x = omega (arith, total_push g ys x)

pub total_within : {A : Type 0} (g : A → ℕ) (xs : List A) (i : ℕ) (x : A) → i < length xs → x ≡ get_or xs i x → total (map g (take i xs)) + g x ≤ total (map g xs)
total_within g [] i x h k = absurd (omega arith)
total_within g (y ∷ ys) zero x h k = let e : g x ≡ g y = ap g k in omega (arith, e)
total_within g (y ∷ ys) (suc i) x h k = omega (arith, total_within g ys i x (omega arith) k)

-- ---- numbers, by form

pub numbers_Delay : (k : ℕ) (n : Ticks) (x : Box Statement Global) → numbers (d.Delay k n x) ≡ k ∷ numbers x.value
numbers_Delay k n x = ap numbers (sym (drolls-Delay k n x)) ∙ fold-roll-Statement (List ℕ) numbers_step (g.Delay k n x)

pub numbers_If : (k : ℕ) (e : Typed) (a b : Box Statement Global) → numbers (d.If k e a b) ≡ k ∷ numbers a.value ++ numbers b.value
numbers_If k e a b = ap numbers (sym (drolls-If k e a b)) ∙ fold-roll-Statement (List ℕ) numbers_step (g.If k e a b)

joined_each : {B : Type 0} (h : B → List ℕ) (xs : List (Vec Typed Global × B)) → joined (map (λ (i : Vec Typed Global × List ℕ). i.1) (map (λ (i : Vec Typed Global × B). (i.0, h i.1)) xs)) ≡ joined (map (λ (i : Vec Typed Global × B). h i.1) xs)
joined_each h [] = refl
joined_each h (x ∷ xs) = ap (λ ns. h x.1 ++ ns) (joined_each h xs)

-- the numbers of the statement of an item of a `case`
abbrev pub item_numbers : Vec Typed Global × Statement → List ℕ
item_numbers y = numbers y.1

pub numbers_Case : (k : ℕ) (kind : CaseKind) (e : Typed) (ys : Vec (Vec Typed Global × Statement) Global) → numbers (d.Case k kind e ys) ≡ k ∷ joined (map item_numbers ys.items)
numbers_Case k kind e ys =
    ap numbers (sym (drolls-Case k kind e ys)) ∙ fold-roll-Statement (List ℕ) numbers_step (g.Case k kind e ys) ∙ ap (λ ns. k ∷ ns) (joined_each numbers ys.items)

pub numbers_While : (k : ℕ) (e : Typed) (x : Box Statement Global) → numbers (d.While k e x) ≡ k ∷ numbers x.value
numbers_While k e x = ap numbers (sym (drolls-While k e x)) ∙ fold-roll-Statement (List ℕ) numbers_step (g.While k e x)

pub numbers_Repeat : (k : ℕ) (signed : Bool) (e : Typed) (x : Box Statement Global) → numbers (d.Repeat k signed e x) ≡ k ∷ numbers x.value
numbers_Repeat k signed e x = ap numbers (sym (drolls-Repeat k signed e x)) ∙ fold-roll-Statement (List ℕ) numbers_step (g.Repeat k signed e x)

pub joined_push : (xs : List (List ℕ)) (x : List ℕ) → joined (xs ++ x ∷ []) ≡ joined xs ++ x
joined_push [] x = append-nil x
joined_push (y ∷ ys) x = ap (λ z. y ++ z) (joined_push ys x) ∙ sym (append_assoc y (joined ys) x)

pub counting_more : (a m n : ℕ) → counting a m ++ counting (a + m) n ≡ counting a (m + n)
counting_more a zero n = let e : a + 0 ≡ a = omega arith in let l : n ≡ 0 + n = omega arith in ap (λ z. counting z n) e ∙ ap (counting a) l
counting_more a (suc m) n =
    let e : a + suc m ≡ suc a + m = omega arith in
    let l : suc (m + n) ≡ suc m + n = omega arith in
    ap (λ z. a ∷ counting (suc a) m ++ counting z n) e ∙ ap (λ z. a ∷ z) (counting_more (suc a) m n) ∙ ap (counting a) l
