use Rattle.std.proofs.Common.{◌++◌, append_assoc}
use Rattle.std.proofs.Math.Nat.{le_refl}
use Rattle.vs_scopes.proofs.UsesLemmas.{names_Group, names_Unary, names_Cast, names_Select, names_Chain, names_Choice, names_Concat, names_Repeat}
use Rattle.vs_scopes.proofs.DepthLemmas.{falls_in, falls_second}
use Rattle.vs_syntax.specs.vs_logic4.proofs.Basics.{first_most, second_most}
use Rattle.vs_scopes.proofs.TurnLemmas.{one_more, all_taken}
use Rattle.vs_scopes.specs.Uses.{expr_names, select_expr_names}
use Rattle.vs_scopes.proofs.uses.+used.Goals as goal

pub add_expr-returns-in_ok-add_name-in-Select : goal.add_expr-returns-in_ok-add_name-in-Select
add_expr-returns-in_ok-add_name-in-Select t c =
    let first = rw c.deref-in-Select.ensures.value at c.in_ok-add_name-in-Select.ensures in
    rw (c.in-Select.is, names_Select c.in-Select.name c.in-Select.selects) (rw append_assoc at (rw first at (rw c.deref-in-Select-2.ensures.value at c.add_selects.ensures)))

pub add_expr-returns-in_ok-add_expr-in-Chain : goal.add_expr-returns-in_ok-add_expr-in-Chain
add_expr-returns-in_ok-add_expr-in-Chain t c =
    let first = rw c.deref-in-Chain.ensures at c.in_ok-add_expr-in-Chain.ensures in
    rw (c.in-Chain.is, names_Chain c.in-Chain.first c.in-Chain.links) (rw append_assoc at (rw first at (rw c.deref-in-Chain-2.ensures.value at c.add_links.ensures)))

pub add_expr-returns-in_ok-add_pairs-in-Choice : goal.add_expr-returns-in_ok-add_pairs-in-Choice
add_expr-returns-in_ok-add_pairs-in-Choice t c =
    let first = rw c.deref-in-Choice.ensures.value at c.in_ok-add_pairs-in-Choice.ensures in
    rw (c.in-Choice.is, names_Choice c.in-Choice.pairs c.in-Choice.last) (rw append_assoc at (rw first at (rw c.deref-in-Choice-2.ensures at c.add_expr-in-Choice.ensures)))

pub add_expr-returns-in_ok-add_expr-in-Concat : goal.add_expr-returns-in_ok-add_expr-in-Concat
add_expr-returns-in_ok-add_expr-in-Concat t c =
    let first = rw c.deref-in-Concat.ensures at c.in_ok-add_expr-in-Concat.ensures in
    rw (c.in-Concat.is, names_Concat c.in-Concat.first c.in-Concat.rest) (rw append_assoc at (rw first at (rw c.deref-in-Concat-2.ensures.value at c.add_exprs.ensures)))

pub add_expr-returns-in_ok-add_expr-in-Repeat-2 : goal.add_expr-returns-in_ok-add_expr-in-Repeat-2
add_expr-returns-in_ok-add_expr-in-Repeat-2 t c =
    let count = rw c.deref-in-Repeat.ensures at c.in_ok-add_expr-in-Repeat.ensures in
    let first = rw count at (rw c.deref-in-Repeat-2.ensures at c.in_ok-add_expr-in-Repeat-2.ensures) in
    rw (c.in-Repeat.is, names_Repeat c.in-Repeat.count c.in-Repeat.first c.in-Repeat.rest) (simp append_assoc at (rw first at (rw c.deref-in-Repeat-3.ensures.value at c.add_exprs-in-Repeat.ensures)))

pub add_select-add_second-requires : goal.add_select-add_second-requires
add_select-add_second-requires t c = (falls_second 5 1 _ _ t c.decreases, tt)

pub add_selects-add_select-requires : goal.add_selects-add_select-requires
add_selects-add_select-requires t c = (falls_in 5 2 _ c.args.selects.now c.loop-select.select-index t _ c.select-item.result c.loop-select-test.true c.select-item.is c.decreases (le_refl _), tt)

pub add_exprs-loop-e-preserved : goal.add_exprs-loop-e-preserved
add_exprs-loop-e-preserved t c = one_more expr_names c.args.all.now c.loop-e.e-index c.e-item.result _ _ _ c.loop-e.invariant c.loop-e-test.true c.e-item.is c.in_ok-add_expr.ensures

pub add_links-loop-e-preserved : goal.add_links-loop-e-preserved
add_links-loop-e-preserved t c = one_more (λ l. expr_names l.1) c.args.links.now c.loop-e.e-index c.loop-e-item.result _ _ _ c.loop-e.invariant c.loop-e-test.true c.loop-e-item.is c.in_ok-add_expr.ensures

pub add_pairs-loop-condition-preserved : goal.add_pairs-loop-condition-preserved
add_pairs-loop-condition-preserved t c =
    one_more (λ p. expr_names p.0 ++ expr_names p.1) c.args.pairs.now c.loop-condition.condition-index c.loop-condition-item.result _ _ _ c.loop-condition.invariant c.loop-condition-test.true c.loop-condition-item.is
    (rw append_assoc at (rw c.in_ok-add_expr.ensures at c.in_ok-add_expr-2.ensures))

pub add_selects-loop-select-preserved : goal.add_selects-loop-select-preserved
add_selects-loop-select-preserved t c = one_more select_expr_names c.args.selects.now c.loop-select.select-index c.select-item.result _ _ _ c.loop-select.invariant c.loop-select-test.true c.select-item.is c.in_ok-add_select.ensures

pub add_expr-returns-in-Group : goal.add_expr-returns-in-Group
add_expr-returns-in-Group t c = rw (c.in-Group.is, names_Group c.in-Group.inner) (rw c.deref-in-Group.ensures at c.add_expr.ensures)

pub add_expr-returns-in-Unary : goal.add_expr-returns-in-Unary
add_expr-returns-in-Unary t c = rw (c.in-Unary.is, names_Unary c.in-Unary.field-0 c.in-Unary.x) (rw c.deref-in-Unary.ensures at c.add_expr-in-Unary.ensures)

pub add_expr-returns-in-Cast : goal.add_expr-returns-in-Cast
add_expr-returns-in-Cast t c = rw (c.in-Cast.is, names_Cast c.in-Cast.field-0 c.in-Cast.x) (rw c.deref-in-Cast.ensures at c.add_expr-in-Cast.ensures)

pub add_exprs-returns : goal.add_exprs-returns
add_exprs-returns t c = all_taken expr_names c.args.all.now c.loop-e.e-index _ _ c.loop-e.invariant c.loop-e-test.false

pub add_links-returns : goal.add_links-returns
add_links-returns t c = all_taken (λ l. expr_names l.1) c.args.links.now c.loop-e.e-index _ _ c.loop-e.invariant c.loop-e-test.false

pub add_pairs-returns : goal.add_pairs-returns
add_pairs-returns t c = all_taken (λ p. expr_names p.0 ++ expr_names p.1) c.args.pairs.now c.loop-condition.condition-index _ _ c.loop-condition.invariant c.loop-condition-test.false

pub add_selects-returns : goal.add_selects-returns
add_selects-returns t c = all_taken select_expr_names c.args.selects.now c.loop-select.select-index _ _ c.loop-select.invariant c.loop-select-test.false

pub add_exprs-add_expr-requires : goal.add_exprs-add_expr-requires
add_exprs-add_expr-requires t c = (falls_in 5 0 _ c.args.all.now c.loop-e.e-index t _ c.e-item.result c.loop-e-test.true c.e-item.is c.decreases (le_refl _), tt)

pub add_links-add_expr-requires : goal.add_links-add_expr-requires
add_links-add_expr-requires t c = (falls_in 5 0 _ c.args.links.now c.loop-e.e-index t _ c.loop-e-item.result c.loop-e-test.true c.loop-e-item.is c.decreases (second_most 0 _), tt)

pub add_pairs-add_expr-requires : goal.add_pairs-add_expr-requires
add_pairs-add_expr-requires t c =
    (falls_in 5 0 _ c.args.pairs.now c.loop-condition.condition-index t _ c.loop-condition-item.result c.loop-condition-test.true c.loop-condition-item.is c.decreases (first_most _ _), tt)

pub add_pairs-add_expr-requires-in-loop-condition : goal.add_pairs-add_expr-requires-in-loop-condition
add_pairs-add_expr-requires-in-loop-condition t c =
    (falls_in 5 0 _ c.args.pairs.now c.loop-condition.condition-index t _ c.loop-condition-item.result c.loop-condition-test.true c.loop-condition-item.is c.decreases (second_most _ _), tt)
