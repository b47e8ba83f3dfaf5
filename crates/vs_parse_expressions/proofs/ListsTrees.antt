-- The tree of each statement.
use Rattle.std.specs.Prelude.{◌≡◌, List, [], ◌∷◌, Option, None, Some, map, refl}
use Rattle.std.proofs.Common.{ap, sym, ◌∙◌}
use Rattle.std.specs.declared.boxed.Box.{Box}
use Rattle.std.specs.declared.alloc.Global.{Global}
use Rattle.vs_syntax.specs.vs_lexer.specs.declared.token.Mark.TheVariants as m
use Rattle.vs_syntax.specs.vs_lexer.specs.declared.token.Word.TheVariants as w
use Rattle.vs_syntax.specs.Symbols.{a_mark, a_word, a_print, a_finish, a_dump}
use Rattle.vs_syntax.specs.Derivation.{Tree, empty, leaf, both}
use Rattle.vs_syntax.specs.Views.{row_of, block_head_tree, some_tree, expr_tree, assigned_tree, guarded_tree, else_tree, case_word, case_item_tree, for_tree, delay_tree, event_tree, later_tree, print_tree, finish_tree, dump_tree, stmt_step, stmt_tree}
use Rattle.vs_syntax.specs.declared.tree.CaseLabel.{CaseLabel}
use Rattle.vs_syntax.specs.declared.tree.Stmt.{Stmt, fold-roll-Stmt}
use Rattle.vs_syntax.specs.declared.tree.Stmt.TheShapes.{former-Stmt-If-2-at-2}
use Rattle.vs_syntax.specs.declared.tree.Stmt.TheVariants as v
use Rattle.vs_syntax.specs.declared.tree.Stmt.TheVariants.{rolls-Null, rolls-Assign, rolls-Later, rolls-Block, rolls-Named, rolls-If, rolls-Case, rolls-For, rolls-While, rolls-Repeat, rolls-Forever, rolls-Delay, rolls-Event, rolls-Print, rolls-Finish, rolls-Dump}
use Rattle.vs_parse_expressions.specs.Parts.{headed, boxed_tree, other_tree, labelled_stmt_tree}

pub tree_Null : stmt_tree v.Null ≡ headed (a_mark m.Semicolon) empty
tree_Null = ap stmt_tree (sym rolls-Null) ∙ fold-roll-Stmt Tree stmt_step _

pub tree_Assign : (l x : _) → stmt_tree (v.Assign l x) ≡ assigned_tree l.value (leaf (a_mark m.Assign)) x
tree_Assign l x = ap stmt_tree (sym (rolls-Assign l x)) ∙ fold-roll-Stmt Tree stmt_step _

pub tree_Later : (l o x : _) → stmt_tree (v.Later l o x) ≡ assigned_tree l.value (later_tree o) x.value
tree_Later l o x = ap stmt_tree (sym (rolls-Later l o x)) ∙ fold-roll-Stmt Tree stmt_step _

pub tree_Block : (xs : _) → stmt_tree (v.Block xs) ≡ headed (a_word w.Begin) (both empty (both (row_of (map stmt_tree xs.items)) (leaf (a_word w.End))))
tree_Block xs = ap stmt_tree (sym (rolls-Block xs)) ∙ fold-roll-Stmt Tree stmt_step _

pub tree_Named : (n ds xs : _) → stmt_tree (v.Named n ds xs) ≡ headed (a_word w.Begin) (both (block_head_tree n.items ds.items) (both (row_of (map stmt_tree xs.items)) (leaf (a_word w.End))))
tree_Named n ds xs = ap stmt_tree (sym (rolls-Named n ds xs)) ∙ fold-roll-Stmt Tree stmt_step _

-- the statement behind `else`
other_is : (o : Option (Box Stmt Global)) → else_tree (former-Stmt-If-2-at-2.map Stmt Tree stmt_tree o) ≡ other_tree o
other_is None = refl
other_is (Some x) = refl

pub tree_If : (c x o : _) → stmt_tree (v.If c x o) ≡ headed (a_word w.If) (guarded_tree (expr_tree c.value) (both (boxed_tree x) (other_tree o)))
tree_If c x o =
    ap stmt_tree (sym (rolls-If c x o)) ∙ fold-roll-Stmt Tree stmt_step _
    ∙ ap (λ u. headed (a_word w.If) (guarded_tree (expr_tree c.value) (both (boxed_tree x) u))) (other_is o)

-- the items of a `case` statement
items_are : (xs : List (CaseLabel × Stmt)) → map case_item_tree (map (λ x. (x.0, stmt_tree x.1)) xs) ≡ map labelled_stmt_tree xs
items_are [] = refl
items_are (x ∷ xs) = ap (λ u. labelled_stmt_tree x ∷ u) (items_are xs)

pub tree_Case : (k x is : _) → stmt_tree (v.Case k x is) ≡ headed (a_word (case_word k)) (guarded_tree (expr_tree x.value) (both (some_tree (map labelled_stmt_tree is.items)) (leaf (a_word w.Endcase))))
tree_Case k x is =
    ap stmt_tree (sym (rolls-Case k x is)) ∙ fold-roll-Stmt Tree stmt_step _
    ∙ ap (λ u. headed (a_word (case_word k)) (guarded_tree (expr_tree x.value) (both (some_tree u) (leaf (a_word w.Endcase))))) (items_are is.items)

pub tree_For : (k b : _) → stmt_tree (v.For k b) ≡ headed (a_word w.For) (for_tree k.value.first.0 k.value.first.1 k.value.condition k.value.step.0 k.value.step.1 (boxed_tree b))
tree_For k b = ap stmt_tree (sym (rolls-For k b)) ∙ fold-roll-Stmt Tree stmt_step _

pub tree_While : (c x : _) → stmt_tree (v.While c x) ≡ headed (a_word w.While) (guarded_tree (expr_tree c) (boxed_tree x))
tree_While c x = ap stmt_tree (sym (rolls-While c x)) ∙ fold-roll-Stmt Tree stmt_step _

pub tree_Repeat : (c x : _) → stmt_tree (v.Repeat c x) ≡ headed (a_word w.Repeat) (guarded_tree (expr_tree c) (boxed_tree x))
tree_Repeat c x = ap stmt_tree (sym (rolls-Repeat c x)) ∙ fold-roll-Stmt Tree stmt_step _

pub tree_Forever : (x : _) → stmt_tree (v.Forever x) ≡ headed (a_word w.Forever) (boxed_tree x)
tree_Forever x = ap stmt_tree (sym (rolls-Forever x)) ∙ fold-roll-Stmt Tree stmt_step _

pub tree_Delay : (t x : _) → stmt_tree (v.Delay t x) ≡ headed (a_mark m.Hash) (both (delay_tree t) (boxed_tree x))
tree_Delay t x = ap stmt_tree (sym (rolls-Delay t x)) ∙ fold-roll-Stmt Tree stmt_step _

pub tree_Event : (e x : _) → stmt_tree (v.Event e x) ≡ headed (a_mark m.At) (both (event_tree e) (boxed_tree x))
tree_Event e x = ap stmt_tree (sym (rolls-Event e x)) ∙ fold-roll-Stmt Tree stmt_step _

pub tree_Print : (t xs : _) → stmt_tree (v.Print t xs) ≡ headed (a_print t) (both (print_tree xs) (leaf (a_mark m.Semicolon)))
tree_Print t xs = ap stmt_tree (sym (rolls-Print t xs)) ∙ fold-roll-Stmt Tree stmt_step _

pub tree_Finish : (n : _) → stmt_tree (v.Finish n) ≡ headed a_finish (both (finish_tree n) (leaf (a_mark m.Semicolon)))
tree_Finish n = ap stmt_tree (sym (rolls-Finish n)) ∙ fold-roll-Stmt Tree stmt_step _

pub tree_Dump : (t xs : _) → stmt_tree (v.Dump t xs) ≡ headed (a_dump t) (both (dump_tree xs) (leaf (a_mark m.Semicolon)))
tree_Dump t xs = ap stmt_tree (sym (rolls-Dump t xs)) ∙ fold-roll-Stmt Tree stmt_step _
