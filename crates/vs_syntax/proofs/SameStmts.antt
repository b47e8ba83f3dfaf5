-- Statements of one tree of the grammar say the same.
use Rattle.std.specs.Prelude.{◌≡◌, ℕ, Bool, true, false, List, [], ◌∷◌, Option, None, Some, map, refl}
use Rattle.std.proofs.Common.{sym, ◌∙◌, ap, subst}
use Rattle.std.proofs.lemmas.Bool.{eqb-false}
use Rattle.std.specs.declared.boxed.Box.{Box}
use Rattle.std.specs.declared.vec.Vec.{Vec}
use Rattle.std.specs.declared.alloc.Global.{Global}
use Rattle.vs_logic4.specs.declared.case.CaseKind.{CaseKind}
use Rattle.vs_logic4.specs.declared.case.CaseKind.TheVariants as h
use Rattle.vs_logic4.specs.declared.edge.Edge.{Edge}
use Rattle.vs_logic4.specs.declared.edge.Edge.TheVariants as g
use Rattle.vs_lexer.specs.declared.token.Literal.{Literal}
use Rattle.vs_lexer.specs.declared.token.Mark.TheVariants as m
use Rattle.vs_lexer.specs.declared.token.Word.{Word}
use Rattle.vs_lexer.specs.declared.token.Word.TheVariants as w
use Rattle.vs_syntax.specs.declared.tree.Expr.{Expr}
use Rattle.vs_syntax.specs.declared.tree.PrintTask.{PrintTask}
use Rattle.vs_syntax.specs.declared.tree.PrintArguments.{PrintArguments}
use Rattle.vs_syntax.specs.declared.tree.DumpTask.{DumpTask}
use Rattle.vs_syntax.specs.declared.tree.DumpArgument.{DumpArgument}
use Rattle.vs_syntax.specs.declared.tree.Separator.{Separator}
use Rattle.vs_syntax.specs.declared.tree.Separator.TheVariants as r
use Rattle.vs_syntax.specs.declared.tree.EventExpr.{EventExpr}
use Rattle.vs_syntax.specs.declared.tree.EventControl.{EventControl}
use Rattle.vs_syntax.specs.declared.tree.EventControl.TheVariants as v
use Rattle.vs_syntax.specs.declared.tree.CaseLabel.{CaseLabel}
use Rattle.vs_syntax.specs.declared.tree.CaseLabel.TheVariants as n
use Rattle.vs_syntax.specs.declared.tree.Left.{Left}
use Rattle.vs_syntax.specs.declared.tree.Stmt.{Stmt, Stmt-F, roll-Stmt, out-Stmt, roll-out-Stmt, ind-Stmt, map-Stmt, fold-roll-Stmt}
use Rattle.vs_syntax.specs.declared.tree.Stmt.TheOpen as f
use Rattle.vs_syntax.specs.declared.tree.Stmt.TheShapes.{former-Stmt-If-2-at-2}
use Rattle.vs_syntax.specs.declared.tree.Stmt.TheVariants as s
use Rattle.vs_syntax.specs.declared.tree.Stmt.TheVariants.{rolls-Null, rolls-Assign, rolls-Later, rolls-Block, rolls-Named, rolls-If, rolls-Case, rolls-For, rolls-While, rolls-Repeat, rolls-Forever, rolls-Delay, rolls-Event, rolls-Print, rolls-Finish, rolls-Dump}
use Rattle.vs_syntax.specs.Symbols.{Symbol, a_mark, a_word, a_print, a_finish, a_dump}
use Rattle.vs_syntax.specs.Derivation.{Tree, empty, leaf, both, down}
use Rattle.vs_syntax.specs.Views.{row_of, some_tree, commas_tree, expr_tree, left_tree, case_word, colon_tree, labelled_tree, case_item_tree, guarded_tree, edge_tree, event_expr_tree, separator_tree, other_event_tree, event_tree, else_tree, local_declaration_tree, stmt_step, stmt_tree}
use Rattle.vs_syntax.specs.Same.{SameExpr, SameExprs, same_no_expr, same_more_exprs, SameEventExpr, SameOtherEvent, SameEvent, same_star, same_grouped_star, same_event_name, same_terms, SameLabel, same_expressions, same_default, SameStmt, same_null, same_assign, same_later, same_block, SameLocals, same_named_block, same_if, same_case, same_for, same_while, same_repeated, same_forever, same_delay, same_event, SamePrint, same_print, same_finish, SameOption, SameDump, same_dump, SameStmts, same_no_stmt, same_more_stmts, SameElse, same_no_else, same_else, SameCaseItems, same_no_item, same_more_items}
use Rattle.vs_syntax.proofs.Sameness.{same_expr, expr_no_word, two}
use Rattle.vs_syntax.proofs.SameLefts.{same_left, same_selects, left_down}
use Rattle.vs_syntax.proofs.SameRows.{pairs}
use Rattle.vs_syntax.proofs.SameForms.{same_locals}
use Rattle.vs_syntax.proofs.SameTasks.{same_value, same_late, same_prints, same_number, same_dumps}

same_edge : (e e' : Edge) → edge_tree e ≡ edge_tree e' → e ≡ e'
same_edge g.Any g.Any h = refl
same_edge g.Posedge g.Posedge h = refl
same_edge g.Negedge g.Negedge h = refl
same_edge _ _ h = cc

same_event_expr : (x x' : EventExpr) → event_expr_tree x ≡ event_expr_tree x' → SameEventExpr x x'
same_event_expr x x' h = record { edge = same_edge x.edge x'.edge (cc); name = cc; selects = same_selects x.selects.items x'.selects.items (cc) }

same_separator : (x x' : Separator) → separator_tree x ≡ separator_tree x' → x ≡ x'
same_separator r.Or r.Or h = refl
same_separator r.Comma r.Comma h = refl
same_separator _ _ h = cc

same_other : (x x' : Separator × EventExpr) → other_event_tree x ≡ other_event_tree x' → SameOtherEvent x x'
same_other x x' h = record { separator = same_separator x.0 x'.0 (cc); event = same_event_expr x.1 x'.1 (cc) }

same_control : (x x' : EventControl) → event_tree x ≡ event_tree x' → SameEvent x x'
same_control v.Star v.Star h = same_star
same_control v.GroupedStar v.GroupedStar h = same_grouped_star
same_control (v.Name n) (v.Name n') h = same_event_name n n' (cc)
same_control (v.Terms x xs) (v.Terms x' xs') h =
    same_terms x x' xs xs' (same_event_expr x.value x'.value (cc)) (pairs SameOtherEvent other_event_tree same_other xs.items xs'.items (cc))
same_control _ _ h = cc

same_commas : (xs xs' : List Expr) → commas_tree (map expr_tree xs) ≡ commas_tree (map expr_tree xs') → SameExprs xs xs'
same_commas [] [] h = same_no_expr
same_commas [] (x' ∷ xs') h = cc
same_commas (x ∷ xs) [] h = cc
same_commas (x ∷ xs) (x' ∷ xs') h = same_more_exprs x x' xs xs' (same_expr x x' (cc)) (same_commas xs xs' (cc))

same_colon : (b b' : Bool) → colon_tree b ≡ colon_tree b' → b ≡ b'
same_colon true true h = refl
same_colon false false h = refl
same_colon _ _ h = cc

same_defaults : (b b' : Bool) → b ≡ b' → SameLabel (n.Default b) (n.Default b')
same_defaults b b' h = subst (λ (c : Bool). SameLabel (n.Default b) (n.Default c)) h (same_default b)

same_label : (l l' : CaseLabel) (x x' : Tree) → labelled_tree l x ≡ labelled_tree l' x' → SameLabel l l' × (x ≡ x')
same_label (n.Expressions y ys) (n.Expressions y' ys') x x' h =
    (same_expressions y y' ys ys' (same_expr y y' (cc)) (same_commas ys.items ys'.items (cc)), cc)
same_label (n.Default b) (n.Default b') x x' h = (same_defaults b b' (same_colon b b' (cc)), cc)
same_label (n.Expressions y ys) (n.Default b') x x' h = absurd (expr_no_word y w.Default (cc))
same_label (n.Default b) (n.Expressions y' ys') x x' h = absurd (expr_no_word y' w.Default (cc))

-- a kind of `case` statement by its word
abbrev kind_at : Word → CaseKind
kind_at w.Casez = h.Casez
kind_at w.Casex = h.Casex
kind_at _ = h.Case

kind_back : (k : CaseKind) → kind_at (case_word k) ≡ k
kind_back h.Case = refl
kind_back h.Casez = refl
kind_back h.Casex = refl

kind_by : (k k' : CaseKind) → case_word k ≡ case_word k' → k ≡ k'
kind_by k k' e = sym (kind_back k) ∙ ap kind_at e ∙ kind_back k'

-- a statement of which the other one of its tree says the same
abbrev Settled : Stmt → Type 0
Settled x = (x' : Stmt) → stmt_tree x ≡ stmt_tree x' → SameStmt x x'

abbrev Inner : Type 0
Inner = (x : Stmt) × Settled x

-- one layer of a statement as a tree
abbrev layer : Stmt-F Stmt → Tree
layer x = stmt_step (map-Stmt Stmt Tree stmt_tree x)

-- one layer without what is settled of the inner ones
abbrev bare : Stmt-F Inner → Stmt-F Stmt
bare y = map-Stmt Inner Stmt (λ p. p.0) y

opened : (x : Stmt) → stmt_tree x ≡ layer (out-Stmt x)
opened x = ap stmt_tree (sym (roll-out-Stmt x)) ∙ fold-roll-Stmt Tree stmt_step (out-Stmt x)

same_rows : (xs : List Inner) (xs' : List Stmt) → row_of (map stmt_tree (map (λ p. p.0) xs)) ≡ row_of (map stmt_tree xs') → SameStmts (map (λ p. p.0) xs) xs'
same_rows [] [] h = same_no_stmt
same_rows [] (x' ∷ xs') h = cc
same_rows (x ∷ xs) [] h = cc
same_rows (x ∷ xs) (x' ∷ xs') h = same_more_stmts _ x' _ xs' (x.1 x' (cc)) (same_rows xs xs' (cc))

-- the statement behind `else` as a tree, and without what is settled of it
abbrev else_trees : Option (Box Stmt Global) → Option (Box Tree Global)
else_trees o = former-Stmt-If-2-at-2.map Stmt Tree stmt_tree o

abbrev bare_else : Option (Box Inner Global) → Option (Box Stmt Global)
bare_else o = former-Stmt-If-2-at-2.map Inner Stmt (λ p. p.0) o

same_elses : (o : Option (Box Inner Global)) (o' : Option (Box Stmt Global)) → else_tree (else_trees (bare_else o)) ≡ else_tree (else_trees o') → SameElse (bare_else o) o'
same_elses None None h = same_no_else
same_elses None (Some x') h = cc
same_elses (Some x) None h = cc
same_elses (Some x) (Some x') h = same_else _ x' (x.value.1 x'.value (cc))

-- `case` items as trees, and without what is settled of their statements
abbrev item_trees : List (CaseLabel × Stmt) → List (CaseLabel × Tree)
item_trees xs = map (λ x. (x.0, stmt_tree x.1)) xs

abbrev bare_items : List (CaseLabel × Inner) → List (CaseLabel × Stmt)
bare_items xs = map (λ x. (x.0, x.1.0)) xs

same_item_rows : (xs : List (CaseLabel × Inner)) (xs' : List (CaseLabel × Stmt)) → row_of (map case_item_tree (item_trees (bare_items xs))) ≡ row_of (map case_item_tree (item_trees xs')) → SameCaseItems (bare_items xs) xs'
same_item_rows [] [] h = same_no_item
same_item_rows [] (x' ∷ xs') h = cc
same_item_rows (x ∷ xs) [] h = cc
same_item_rows (x ∷ xs) (x' ∷ xs') h =
    let l = same_label x.0 x'.0 (stmt_tree x.1.0) (stmt_tree x'.1) (cc) in
    same_more_items _ x' _ xs' l.0 (x.1.1 x'.1 l.1) (same_item_rows xs xs' (cc))

same_items : (xs : List (CaseLabel × Inner)) (xs' : List (CaseLabel × Stmt)) → some_tree (map case_item_tree (item_trees (bare_items xs))) ≡ some_tree (map case_item_tree (item_trees xs')) → SameCaseItems (bare_items xs) xs'
same_items [] [] h = same_no_item
same_items [] (x' ∷ xs') h = cc
same_items (x ∷ xs) [] h = cc
same_items (x ∷ xs) (x' ∷ xs') h = same_item_rows (x ∷ xs) (x' ∷ xs') h

same_kinds : (k k' : CaseKind) (x x' : Box Expr Global) (is is' : Vec (CaseLabel × Stmt) Global) → k ≡ k' → SameExpr x.value x'.value → SameCaseItems is.items is'.items → SameStmt (s.Case k x is) (s.Case k' x' is')
same_kinds k k' x x' is is' h p q = subst (λ (u : CaseKind). SameStmt (s.Case k x is) (s.Case u x' is')) h (same_case k x x' is is' p q)

-- a number for each form of a statement
abbrev form : Stmt-F Stmt → ℕ
form f.Null = 0
form (f.Assign l x) = 1
form (f.Later l v x) = 2
form (f.Block xs) = 3
form (f.Named n ls xs) = 12
form (f.If c x o) = 4
form (f.Case k x is) = 5
form (f.For k x) = 6
form (f.While c x) = 7
form (f.Repeat c x) = 8
form (f.Forever x) = 9
form (f.Delay v x) = 10
form (f.Event v x) = 11
form (f.Print task xs) = 14
form (f.Finish n) = 15
form (f.Dump task xs) = 16

-- the same of a tree: by its first symbol, or by the mark behind a left side
abbrev form_at : Symbol → ℕ
form_at (a_mark m.Semicolon) = 0
form_at (a_mark m.Hash) = 10
form_at (a_mark m.At) = 11
form_at (a_print task) = 14
form_at a_finish = 15
form_at (a_dump task) = 16
form_at (a_word w.If) = 4
form_at (a_word w.For) = 6
form_at (a_word w.While) = 7
form_at (a_word w.Repeat) = 8
form_at (a_word w.Forever) = 9
form_at _ = 5

abbrev form_behind : Tree → ℕ
form_behind (both (leaf (a_mark m.Assign)) x) = 1
form_behind _ = 2

-- the form of a block, by what stands behind its word
abbrev form_of_block : Tree → ℕ
form_of_block (both empty y) = 3
form_of_block _ = 12

abbrev form_of_tree : Tree → ℕ
form_of_tree (down (both (leaf (a_word w.Begin)) y)) = form_of_block y
form_of_tree (down (both (leaf x) y)) = form_at x
form_of_tree (down (both (down x) y)) = form_behind y
form_of_tree _ = 13

behind_left : (l : Left) (y : Tree) → form_of_tree (down (both (left_tree l) y)) ≡ form_behind y
behind_left l y = ap (λ u. form_of_tree (down (both u y))) (left_down l).1

form_of : (x : Stmt-F Stmt) → form_of_tree (layer x) ≡ form x
form_of (f.Assign l x) = behind_left l.value _
form_of (f.Later l v x) = behind_left l.value _
form_of (f.Case h.Case x is) = refl
form_of (f.Case h.Casez x is) = refl
form_of (f.Case h.Casex x is) = refl
form_of f.Null = refl
form_of _ = refl

-- layers of one tree have one form
one_form : (x x' : Stmt-F Stmt) → layer x ≡ layer x' → form x ≡ form x'
one_form x x' h = sym (form_of x) ∙ ap form_of_tree h ∙ form_of x'

pub headed : (s s' : Symbol) (x x' : Tree) → down (both (leaf s) x) ≡ down (both (leaf s') x') → (s ≡ s') × (x ≡ x')
headed s s' x x' h = (cc, cc)

guarded : (s s' : Symbol) (x x' y y' : Tree) → down (both (leaf s) (guarded_tree x y)) ≡ down (both (leaf s') (guarded_tree x' y')) → (s ≡ s') × (x ≡ x') × (y ≡ y')
guarded s s' x x' y y' h = (cc, cc, cc)

same_tasks : (t t' : PrintTask) (xs xs' : PrintArguments) → t ≡ t' → SamePrint xs xs' → SameStmt (s.Print t xs) (s.Print t' xs')
same_tasks t t' xs xs' h p = subst (λ (u : PrintTask). SameStmt (s.Print t xs) (s.Print u xs')) h (same_print t xs xs' p)

same_finishes : (n n' : Option Literal) → n ≡ n' → SameStmt (s.Finish n) (s.Finish n')
same_finishes n n' h = subst (λ (u : Option Literal). SameStmt (s.Finish n) (s.Finish u)) h (same_finish n)

same_dump_tasks : (t t' : DumpTask) (xs xs' : Option (DumpArgument × Vec DumpArgument Global)) → t ≡ t' → SameOption SameDump xs xs' → SameStmt (s.Dump t xs) (s.Dump t' xs')
same_dump_tasks t t' xs xs' h p = subst (λ (u : DumpTask). SameStmt (s.Dump t xs) (s.Dump u xs')) h (same_dump t xs xs' p)

-- one layer each
same_layers : (y : Stmt-F Inner) (x' : Stmt-F Stmt) → layer (bare y) ≡ layer x' → SameStmt (roll-Stmt (bare y)) (roll-Stmt x')
same_layers f.Null f.Null h = rw rolls-Null same_null
same_layers (f.Assign n x) (f.Assign n' x') h = rw (rolls-Assign n x, rolls-Assign n' x') (same_assign n n' x x' (same_left n.value n'.value (cc)) (same_expr x x' (cc)))
same_layers (f.Later n v x) (f.Later n' v' x') h = rw (rolls-Later n v x, rolls-Later n' v' x') (same_later n n' v v' x x' (same_left n.value n'.value (cc)) (same_late v v' (cc)) (same_expr x.value x'.value (cc)))
same_layers (f.Block xs) (f.Block xs') h = rw (rolls-Block _, rolls-Block xs') (same_block _ xs' (same_rows xs.items xs'.items (two _ _ _ _ (two _ _ _ _ (headed _ _ _ _ h).1).1).0))
same_layers (f.Named n ls xs) (f.Named n' ls' xs') h =
    let b = two _ _ _ _ (headed _ _ _ _ h).1 in
    let p : row_of (map local_declaration_tree ls.items) ≡ row_of (map local_declaration_tree ls'.items) = let e = b.0 in cc in
    let q : n.items ≡ n'.items = let e = b.0 in cc in
    rw (rolls-Named n ls _, rolls-Named n' ls' xs')
    (same_named_block n n' ls ls' _ xs' q (pairs SameLocals local_declaration_tree same_locals ls.items ls'.items p) (same_rows xs.items xs'.items (two _ _ _ _ b.1).0))
same_layers (f.If c x o) (f.If c' x' o') h =
    let g = guarded _ _ _ _ _ _ h in
    let b = two _ _ _ _ g.2 in
    rw (rolls-If c _ _, rolls-If c' x' o') (same_if c c' _ x' _ o' (same_expr c.value c'.value g.1) (x.value.1 x'.value b.0) (same_elses o o' b.1))
same_layers (f.Case k x is) (f.Case k' x' is') h =
    let g = guarded _ _ _ _ _ _ h in
    let p : a_word (case_word k) ≡ a_word (case_word k') = g.0 in
    rw (rolls-Case k x _, rolls-Case k' x' is')
    (same_kinds k k' x x' _ is' (kind_by k k' (cc)) (same_expr x.value x'.value g.1) (same_items is.items is'.items (two _ _ _ _ g.2).0))
same_layers (f.For k x) (f.For k' x') h =
    rw (rolls-For k _, rolls-For k' x')
    (same_for k k' _ x' (same_left k.value.first.0 k'.value.first.0 (cc)) (same_expr k.value.first.1 k'.value.first.1 (cc))
    (same_expr k.value.condition k'.value.condition (cc)) (same_left k.value.step.0 k'.value.step.0 (cc)) (same_expr k.value.step.1 k'.value.step.1 (cc))
    (x.value.1 x'.value (cc)))
same_layers (f.While c x) (f.While c' x') h = let g = guarded _ _ _ _ _ _ h in rw (rolls-While c _, rolls-While c' x') (same_while c c' _ x' (same_expr c c' g.1) (x.value.1 x'.value g.2))
same_layers (f.Repeat c x) (f.Repeat c' x') h = let g = guarded _ _ _ _ _ _ h in rw (rolls-Repeat c _, rolls-Repeat c' x') (same_repeated c c' _ x' (same_expr c c' g.1) (x.value.1 x'.value g.2))
same_layers (f.Forever x) (f.Forever x') h = rw (rolls-Forever _, rolls-Forever x') (same_forever _ x' (x.value.1 x'.value (cc)))
same_layers (f.Delay v x) (f.Delay v' x') h = rw (rolls-Delay v _, rolls-Delay v' x') (same_delay v v' _ x' (same_value v v' (cc)) (x.value.1 x'.value (cc)))
same_layers (f.Event v x) (f.Event v' x') h = rw (rolls-Event v _, rolls-Event v' x') (same_event v v' _ x' (same_control v v' (cc)) (x.value.1 x'.value (cc)))
same_layers (f.Print task xs) (f.Print task' xs') h = rw (rolls-Print task xs, rolls-Print task' xs') (same_tasks task task' xs xs' (cc) (same_prints xs xs' (cc)))
same_layers (f.Finish n) (f.Finish n') h = rw (rolls-Finish n, rolls-Finish n') (same_finishes n n' (same_number n n' (cc)))
same_layers (f.Dump task xs) (f.Dump task' xs') h = rw (rolls-Dump task xs, rolls-Dump task' xs') (same_dump_tasks task task' xs xs' (cc) (same_dumps xs xs' (cc)))
same_layers y x' h = absurd (eqb-false (form (bare y)) (form x') refl (one_form (bare y) x' h))

settled : (x : Stmt-F Stmt) (y : Stmt-F Inner) → bare y ≡ x → Settled (roll-Stmt x)
settled x y is x' h =
    subst (λ (u : Stmt). SameStmt (roll-Stmt x) u) (roll-out-Stmt x')
    (subst (λ (u : Stmt-F Stmt). SameStmt (roll-Stmt u) (roll-Stmt (out-Stmt x'))) is
    (same_layers y (out-Stmt x') (ap layer is ∙ sym (fold-roll-Stmt Tree stmt_step x) ∙ h ∙ opened x')))

-- Statements of one tree say the same.
pub same_stmt : (x x' : Stmt) → stmt_tree x ≡ stmt_tree x' → SameStmt x x'
same_stmt = ind-Stmt Settled settled
