use Rattle.std.proofs.Common.{◌≡◌, suc, ◌≤◌, ◌<◌, ◌+◌, ◌-◌, refl, sym, ap, subst, add-one, arith}
use Rattle.std.proofs.lemmas.Result.{err_from_is_err_and}
use Rattle.vs_syntax.specs.vs_lexer.specs.declared.token.Mark.TheVariants as m
use Rattle.vs_syntax.specs.Symbols.{a_name, the_mark, the_cast, first}
use Rattle.vs_syntax.specs.Grammar.{◌·◌, part, many, mark, name, arm, a_level, a_condition, an_expr, an_operand, other_parts, select}
use Rattle.vs_syntax.specs.Derivation.{height}
use Rattle.vs_syntax.specs.Views.{expr_tree, chosen_tree}
use Rattle.vs_syntax.specs.Reading.{stuck_here, stuck_first, stuck_second, stuck_one}
use Rattle.vs_syntax.proofs.Gets.{gets_seq}
use Rattle.vs_parse_expressions.specs.Answers.{seen}
use Rattle.vs_parse_expressions.specs.Heads.{BeginsOperand}
use Rattle.vs_parse_expressions.specs.declared.head.OperandHead.{OperandHead}
use Rattle.vs_parse_expressions.proofs.Exits.{deep_at, fails_by, measured_by}
use Rattle.vs_parse_expressions.proofs.Lists.{another, goes_another, another_read, part_stuck, end_of_parts, parts_read, parts_height}
use Rattle.vs_parse_expressions.proofs.Rows.{along_start, along_push, height_none, height_push, shorter}
use Rattle.vs_parse_expressions.proofs.Selects.{second_none, second_read, seq_apart, before_stuck, second_closed_stuck, select_goes, select_stuck, select_read, selects_stuck, selects_read, named_stuck, name_alone, name_high, name_stuck, name_read, name_height}
use Rattle.vs_parse_expressions.proofs.Expressions as e
use Rattle.vs_parse_expressions.proofs.Expressions.{link_at, link_of, link_goes, link_read, climb, level_alone, too_high, chain_stuck, chain_read, chain_height, prefixed_deep, prefixed_stuck, prefixed_read, comma_of}
use Rattle.vs_parse_expressions.proofs.Trees.{tree_Name, tree_Select, tree_Group, tree_Unary, tree_Chain, tree_Choice, tree_Concat, tree_Repeat, tree_Cast}
use Rattle.vs_parse_expressions.proofs.expression.+expr.Goals as goal

pub nested_expr-operands-requires : goal.nested_expr-operands-requires
nested_expr-operands-requires t c = (omega arith, tt)

pub nested_expr-returns-in_err-first : goal.nested_expr-returns-in_err-first
nested_expr-returns-in_err-first t c =
    let p = err_from_is_err_and c.from_residual.result c.from_residual.ensures.1 in
    rw (p.1, p.2) (fails_by (part a_condition) (part an_expr) c.args.depth c.args.depth (seen c.args.tokens.now) (seen c.args.tokens.now)
    (λ deep at s. e.condition_stuck c.args.depth deep _ at s)
    c.in_err-first.field-0.0 c.in_err-first.ensures)

pub nested_expr-choice-requires : goal.nested_expr-choice-requires
nested_expr-choice-requires t c = (omega arith, c.in_ok-first.ensures.1)

pub nested_expr-returns : goal.nested_expr-returns
nested_expr-returns t c = c.choice.ensures _ c.in_ok-first.ensures.0

pub choice-returns-in_default : goal.choice-returns-in_default
choice-returns-in_default t c = λ ts q. (e.choice_alone c.args.depth ts _ _ c.in_default.ensures q, c.requires)

pub choice-returns-then-first-depth : goal.choice-returns-then-first-depth
choice-returns-then-first-depth t c = λ ts q.
    let h : c.args.depth ≤ height (expr_tree c.args.first.tree) = omega (arith, c.requires) in
    e.choice_high c.args.depth ts _ _ _ c.in-Some.ensures q h

pub choice-closed-requires : goal.choice-closed-requires
choice-closed-requires t c = (omega arith, tt)

pub choice-operands-requires : goal.choice-operands-requires
choice-operands-requires t c = (omega arith, tt)

pub choice-returns-in_err-value : goal.choice-returns-in_err-value
choice-returns-in_err-value t c = λ ts q.
    let p = err_from_is_err_and c.from_residual.result c.from_residual.ensures.1 in
    let h : height (expr_tree c.args.first.tree) < c.args.depth = omega (arith, c.requires) in
    rw (p.1, p.2) (fails_by (part an_expr · mark m.Colon) (part an_expr) (c.args.depth - 1) c.args.depth (seen c.in-Some-mark_at.after.now) ts
    (λ deep at s. e.choice_stuck c.args.depth deep ts _ _ _ _ at _ _ c.in-Some.ensures c.in-Some-mark_at.ensures q h c.loop-after.invariant.along (before_stuck s))
    c.in_err-value.field-0.0 c.in_err-value.ensures)

pub choice-returns-in_err-other : goal.choice-returns-in_err-other
choice-returns-in_err-other t c = λ ts q.
    let p = err_from_is_err_and c.from_residual-in_err-other.result c.from_residual-in_err-other.ensures.1 in
    let h : height (expr_tree c.args.first.tree) < c.args.depth = omega (arith, c.requires) in
    let v = seq_apart c.in_ok-value.ensures.0 in
    rw (p.1, p.2) (fails_by (part a_condition) (part an_expr) (c.args.depth - 1) c.args.depth (seen c.in_ok-value.value.rest.now) ts
    (λ deep at s. e.choice_stuck c.args.depth deep ts _ _ _ _ at _ _ c.in-Some.ensures c.in-Some-mark_at.ensures q h c.loop-after.invariant.along (stuck_second v.0 (stuck_second v.1 s)))
    c.in_err-other.field-0.0 c.in_err-other.ensures)

pub choice-loop-after-preserved : goal.choice-loop-after-preserved
choice-loop-after-preserved t c =
    let v = seq_apart c.in_ok-value.ensures.0 in
    let got = gets_seq v.0 (gets_seq v.1 c.in_ok-other.ensures.0) in
    let more = e.arms_height _ _ c.loop-after.last c.in_ok-value.value.tree c.in_ok-other.other.tree c.in_ok-push.ensures.items in
    record {
      along = e.arms_along (c.args.depth - 1) _ _ _ _ _ _ _ _ _ c.in_ok-push.ensures.items c.loop-after.invariant.along c.in-Some-mark_at.ensures got;
      head = e.head_pushed _ _ _ _ _ _ c.in_ok-push.ensures.items c.loop-after.invariant.head;
      height = omega (arith, more, c.max.ensures, c.max-height.ensures, c.loop-after.invariant.height, c.in_ok-value.ensures.1, c.in_ok-other.ensures.1);
      below = omega (arith, c.max.ensures, c.max-height.ensures, c.loop-after.invariant.below, got.fits, c.in_ok-value.ensures.1, c.in_ok-other.ensures.1);
    }

pub choice-loop-after-smaller : goal.choice-loop-after-smaller
choice-loop-after-smaller t c =
    let v = seq_apart c.in_ok-value.ensures.0 in
    let got = gets_seq v.0 (gets_seq v.1 c.in_ok-other.ensures.0) in
    shorter arm (c.args.depth - 1) (seen c.loop-after.rest.now) (seen c.in_ok-other.other.rest.now) _ (e.question_goes _ _ c.in-Some-mark_at.ensures) (e.arm_read _ _ _ _ _ _ c.in-Some-mark_at.ensures got)

pub choice-returns : goal.choice-returns
choice-returns t c =
    λ ts q.
    let h : height (expr_tree c.args.first.tree) < c.args.depth = omega (arith, c.requires) in
    let k = e.choice_height (c.args.depth - 1) _ _ _ _ _ _ c.in-Some.ensures c.in_default-mark_at.ensures c.loop-after.invariant.head c.loop-after.invariant.along in
    rw (tree_Choice, c.in_ok-other-2.ensures.ok)
    (e.choice_read c.args.depth ts _ _ _ _ _ _ c.in-Some.ensures c.in_default-mark_at.ensures q h c.loop-after.invariant.head c.loop-after.invariant.along, omega (arith, k, c.loop-after.invariant.height))

pub choice-overflow_add-result : goal.choice-overflow_add-result
choice-overflow_add-result t c = omega (arith, c.loop-after.invariant.below)

pub choice-overflow_sub-depth : goal.choice-overflow_sub-depth
choice-overflow_sub-depth t c = omega (arith, c.requires)

pub choice-loop-after-init : goal.choice-loop-after-init
choice-loop-after-init t c = record {
  along = e.arms_start (c.args.depth - 1) _ _ _ _ c.split_at.ensures.back c.new-pairs.ensures.items;
  head = e.head_start _ _ c.new-pairs.ensures.items;
  height = omega (arith, c.requires, e.height_start _ (expr_tree c.args.first.tree) c.new-pairs.ensures.items);
  below = c.if-first-depth.false;
}

pub operands-operand-requires : goal.operands-operand-requires
operands-operand-requires t c = (omega arith, tt)

pub operands-returns-in_err-read : goal.operands-returns-in_err-read
operands-returns-in_err-read t c =
    let p = err_from_is_err_and c.from_residual.result c.from_residual.ensures.1 in
    rw (p.1, p.2) (fails_by (part an_operand) (part (a_level c.args.top)) c.args.depth c.args.depth (seen c.args.tokens.now) (seen c.args.tokens.now)
    (λ deep at s. climb c.args.top 0 c.args.top c.args.depth deep _ at (omega arith) s)
    c.in_err-read.field-0.0 c.in_err-read.ensures)

pub operands-loop-level-init : goal.operands-loop-level-init
operands-loop-level-init t c = record { reads = c.in_ok-read.ensures.0; height = c.in_ok-read.ensures.1 }

pub operands-chain-requires : goal.operands-chain-requires
operands-chain-requires t c = (omega arith, c.loop-level.invariant.height)

pub operands-returns-in_err-read-2 : goal.operands-returns-in_err-read-2
operands-returns-in_err-read-2 t c =
    let p = err_from_is_err_and c.from_residual-in_err-read-2.result c.from_residual-in_err-read-2.ensures.1 in
    let n : c.args.top ≡ (c.args.top - suc c.loop-level.level) + suc c.loop-level.level = omega arith in
    rw (p.1, p.2) (fails_by (part (a_level (suc c.loop-level.level))) (part (a_level c.args.top)) c.args.depth c.args.depth (seen c.args.tokens.now) (seen c.args.tokens.now)
    (λ deep at s. climb (c.args.top - suc c.loop-level.level) (suc c.loop-level.level) c.args.top c.args.depth deep _ at n s)
    c.in_err-read-2.field-0.0 (c.in_err-read-2.ensures _ c.loop-level.invariant.reads))

pub operands-loop-level-preserved : goal.operands-loop-level-preserved
operands-loop-level-preserved t c =
    let got = c.in_ok-read-2.ensures _ c.loop-level.invariant.reads in record {
      reads = rw add-one got.0;
      height = got.1;
    }

pub chain-returns-in_default : goal.chain-returns-in_default
chain-returns-in_default t c = λ ts q. (level_alone c.args.level c.args.depth ts _ _ c.in_default.ensures q, c.requires)

pub chain-returns-then-first-depth : goal.chain-returns-then-first-depth
chain-returns-then-first-depth t c = λ ts q.
    let h : c.args.depth ≤ height (expr_tree c.args.first.tree) = omega (arith, c.requires) in
    too_high c.args.level c.args.depth ts _ _ _ _ c.in-Some.ensures q h

pub chain-operands-requires : goal.chain-operands-requires
chain-operands-requires t c = (omega arith, tt)

pub chain-returns-in_err-other : goal.chain-returns-in_err-other
chain-returns-in_err-other t c = λ ts q.
    let p = err_from_is_err_and c.from_residual-in_err-other.result c.from_residual-in_err-other.ensures.1 in
    let h : height (expr_tree c.args.first.tree) < c.args.depth = omega (arith, c.requires) in
    rw (p.1, p.2) (fails_by (part (a_level c.args.level)) (part (a_level (suc c.args.level))) (c.args.depth - 1) c.args.depth (seen c.in-Some-binary_at.after.now) ts
    (λ deep at s. chain_stuck c.args.level c.args.depth deep ts _ _ _ _ at _ _ _ _ c.in-Some.ensures c.in-Some-binary_at.ensures q h c.loop-operator.invariant.along s)
    c.in_err-other.field-0.0 c.in_err-other.ensures)

pub chain-loop-operator-preserved : goal.chain-loop-operator-preserved
chain-loop-operator-preserved t c =
    let got = c.in_ok-other.ensures.0 in
    let more = height_push link_of _ _ _ c.in_ok-push.ensures.items in
    record {
      same = c.loop-operator.invariant.same;
      along = along_push (link_at c.args.level) (c.args.depth - 1) _ _ _ link_of _ _ _ c.in_ok-push.ensures.items c.loop-operator.invariant.along (link_goes c.args.level _ _ _ c.in-Some-binary_at.ensures)
          (link_read c.args.level (c.args.depth - 1) _ _ _ _ _ c.in-Some-binary_at.ensures got);
      height = omega (arith, more, c.max-height.ensures, c.loop-operator.invariant.height, c.in_ok-other.ensures.1);
      below = omega (arith, c.max-height.ensures, c.loop-operator.invariant.below, got.fits, c.in_ok-other.ensures.1);
    }

pub chain-loop-operator-smaller : goal.chain-loop-operator-smaller
chain-loop-operator-smaller t c =
    shorter (link_at c.args.level) (c.args.depth - 1) (seen c.loop-operator.rest.now) (seen c.in_ok-other.other.rest.now) _ (link_goes c.args.level _ _ _ c.in-Some-binary_at.ensures)
    (link_read c.args.level (c.args.depth - 1) _ _ _ _ _ c.in-Some-binary_at.ensures c.in_ok-other.ensures.0)

pub chain-returns : goal.chain-returns
chain-returns t c =
    λ ts q.
    let h : height (expr_tree c.args.first.tree) < c.args.depth = omega (arith, c.requires) in
    let k = chain_height (expr_tree c.args.first.tree) c.loop-operator.links.items in
    rw (tree_Chain, c.loop-operator.invariant.same)
    (chain_read c.args.level c.args.depth ts _ _ _ _ _ _ c.in-Some.ensures c.in_default-binary_at.ensures q h c.loop-operator.invariant.along, omega (arith, k, c.loop-operator.invariant.height))

pub chain-overflow_add-result : goal.chain-overflow_add-result
chain-overflow_add-result t c = omega (arith, c.loop-operator.invariant.below)

pub chain-overflow_sub-depth : goal.chain-overflow_sub-depth
chain-overflow_sub-depth t c = omega (arith, c.requires)

pub chain-loop-operator-init : goal.chain-loop-operator-init
chain-loop-operator-init t c = record {
  same = c.in_ok-operand.ensures.ok;
  along = along_start (link_at c.args.level) (c.args.depth - 1) c.args.first.rest.now _ link_of _ c.split_at.ensures.back c.in_ok-links.ensures.items;
  height = omega (arith, c.requires, height_none link_of _ c.in_ok-links.ensures.items);
  below = c.if-first-depth.false;
}

pub operand-returns-in_default : goal.operand-returns-in_default
operand-returns-in_default t c = stuck_here refl c.in_default.ensures

pub operand-named-requires : goal.operand-named-requires
operand-named-requires t c = (omega arith, subst (λ (h : OperandHead). BeginsOperand (seen c.args.tokens.now) h) c.in-Name.is c.in-Some.ensures)

pub operand-prefixed-requires : goal.operand-prefixed-requires
operand-prefixed-requires t c = (omega arith, subst (λ (h : OperandHead). BeginsOperand (seen c.args.tokens.now) h) c.in-Unary.is c.in-Some.ensures)

pub operand-group-requires : goal.operand-group-requires
operand-group-requires t c = (omega arith, subst (λ (h : OperandHead). BeginsOperand (seen c.args.tokens.now) h) c.in-Open.is c.in-Some.ensures)

pub operand-braces-requires : goal.operand-braces-requires
operand-braces-requires t c = (omega arith, subst (λ (h : OperandHead). BeginsOperand (seen c.args.tokens.now) h) c.in-Brace.is c.in-Some.ensures)

pub operand-cast-requires : goal.operand-cast-requires
operand-cast-requires t c = (omega arith, subst (λ (h : OperandHead). BeginsOperand (seen c.args.tokens.now) h) c.in-Cast.is c.in-Some.ensures)

pub operand-returns-in-Number : goal.operand-returns-in-Number
operand-returns-in-Number t c =
    measured_by (part an_operand) c.args.depth (seen c.args.tokens.now) c.number.result (c.number.ensures.reads c.args.depth) c.number.ensures.height

pub operand-returns-in-Name : goal.operand-returns-in-Name
operand-returns-in-Name t c = c.named.ensures

pub operand-returns-in-Unary : goal.operand-returns-in-Unary
operand-returns-in-Unary t c = c.prefixed.ensures

pub operand-returns-in-Open : goal.operand-returns-in-Open
operand-returns-in-Open t c = c.group.ensures

pub operand-returns-in-Brace : goal.operand-returns-in-Brace
operand-returns-in-Brace t c = c.braces.ensures

pub operand-returns-in-Cast : goal.operand-returns-in-Cast
operand-returns-in-Cast t c = c.cast.ensures

pub named-returns-in_err-name : goal.named-returns-in_err-name
named-returns-in_err-name t c =
    let p = err_from_is_err_and c.from_residual.result c.from_residual.ensures.1 in
    rw (p.1, p.2) (fails_by name (part an_operand) c.args.depth c.args.depth (seen c.args.tokens.now) (seen c.args.tokens.now)
    (λ deep at s. named_stuck c.args.depth deep _ at c.requires (stuck_one s))
    c.in_err-name.field-0.0 (c.in_err-name.ensures c.args.depth))

pub named-returns-in_default : goal.named-returns-in_default
named-returns-in_default t c =
    rw tree_Name (name_alone c.args.depth _ _ _ c.requires (c.in_ok-name.ensures c.args.depth) c.in_default.ensures, refl)

pub named-returns-then-depth-eq0 : goal.named-returns-then-depth-eq0
named-returns-then-depth-eq0 t c = name_high c.args.depth _ _ _ _ c.requires (c.in_ok-name.ensures c.args.depth) c.in-Some.ensures (omega arith)

pub named-selects-requires : goal.named-selects-requires
named-selects-requires t c = (omega arith, tt)

pub named-returns-in_err-read : goal.named-returns-in_err-read
named-returns-in_err-read t c =
    let p = err_from_is_err_and c.from_residual-in_err-read.result c.from_residual-in_err-read.ensures.1 in
    let h : 0 < c.args.depth = omega arith in
    rw (p.1, p.2) (fails_by (many select) (part an_operand) (c.args.depth - 1) c.args.depth (seen c.in_ok-name.start.now) (seen c.args.tokens.now)
    (λ deep at s. name_stuck c.args.depth deep _ _ _ at _ c.requires h (c.in_ok-name.ensures c.args.depth) c.in-Some.ensures s)
    c.in_err-read.field-0.0 c.in_err-read.ensures)

pub named-returns : goal.named-returns
named-returns t c =
    let h : 0 < c.args.depth = omega arith in
    let k = name_height (c.args.depth - 1) _ _ _ (a_name c.in_ok-name.name.items) _ c.in-Some.ensures c.in_ok-read.ensures.0 in
    rw tree_Select (name_read c.args.depth _ _ _ _ _ _ c.requires h (c.in_ok-name.ensures c.args.depth) c.in-Some.ensures c.in_ok-read.ensures.0, omega (arith, k, c.in_ok-read.ensures.1))

pub named-overflow_add-result : goal.named-overflow_add-result
named-overflow_add-result t c = omega (arith, c.in_ok-read.ensures.0.fits, c.in_ok-read.ensures.1)

pub named-overflow_sub-depth : goal.named-overflow_sub-depth
named-overflow_sub-depth t c = omega arith

pub selects-loop-after-init : goal.selects-loop-after-init
selects-loop-after-init t c = record {
  along = along_start select c.args.depth c.args.tokens.now _ chosen_tree _ c.split_at.ensures.back c.in_ok-tree.ensures;
  height = sym (height_none chosen_tree _ c.in_ok-tree.ensures);
}

pub selects-chosen-requires : goal.selects-chosen-requires
selects-chosen-requires t c = (omega arith, c.in-Some.ensures)

pub selects-returns-in_err-read : goal.selects-returns-in_err-read
selects-returns-in_err-read t c =
    let p = err_from_is_err_and c.from_residual-in_err-read.result c.from_residual-in_err-read.ensures.1 in
    rw (p.1, p.2) (fails_by select (many select) c.args.depth c.args.depth (seen c.loop-after.rest.now) (seen c.args.tokens.now)
    (λ deep at s. selects_stuck c.args.depth deep _ _ _ at _ c.loop-after.invariant.along c.in-Some.ensures s)
    c.in_err-read.field-0.0 c.in_err-read.ensures)

pub selects-loop-after-preserved : goal.selects-loop-after-preserved
selects-loop-after-preserved t c =
    let more = height_push chosen_tree _ _ _ c.in_ok-push.ensures.items in
    record {
      along = along_push select c.args.depth _ _ _ chosen_tree _ _ _ c.in_ok-push.ensures.items c.loop-after.invariant.along (select_goes _ _ c.in-Some.ensures) c.in_ok-read.ensures.0;
      height = omega (arith, more, c.max-height.ensures, c.loop-after.invariant.height, c.in_ok-read.ensures.1);
    }

pub selects-loop-after-smaller : goal.selects-loop-after-smaller
selects-loop-after-smaller t c = shorter select c.args.depth (seen c.loop-after.rest.now) (seen c.in_ok-read.read.rest.now) _ (select_goes _ _ c.in-Some.ensures) c.in_ok-read.ensures.0

pub selects-returns : goal.selects-returns
selects-returns t c =
    (selects_read c.args.depth _ _ _ c.loop-after.invariant.along c.in_default.ensures, c.loop-after.invariant.height)

pub chosen-nested_expr-requires : goal.chosen-nested_expr-requires
chosen-nested_expr-requires t c = (omega arith, tt)

pub chosen-returns-in_err-index : goal.chosen-returns-in_err-index
chosen-returns-in_err-index t c =
    let p = err_from_is_err_and c.from_residual.result c.from_residual.ensures.1 in
    rw (p.1, p.2) (fails_by (part an_expr) select c.args.depth c.args.depth (seen c.args.after.now) (seen c.args.tokens.now)
    (λ deep at s. select_stuck c.args.depth deep _ _ at c.requires (stuck_first s))
    c.in_err-index.field-0.0 c.in_err-index.ensures)

pub chosen-returns-in_err-rest : goal.chosen-returns-in_err-rest
chosen-returns-in_err-rest t c =
    let p = err_from_is_err_and c.from_residual-in_err-rest.result c.from_residual-in_err-rest.ensures.1 in
    rw (p.1, p.2) (fails_by (mark m.CloseBracket) select c.args.depth c.args.depth (seen c.in_ok-index.index.rest.now) (seen c.args.tokens.now)
    (λ deep at s. select_stuck c.args.depth deep _ _ at c.requires (stuck_second c.in_ok-index.ensures.0 (stuck_second (second_none c.args.depth _ c.in_default.ensures) s)))
    c.in_err-rest.field-0.0 (c.in_err-rest.ensures c.args.depth))

pub chosen-returns-in_default : goal.chosen-returns-in_default
chosen-returns-in_default t c =
    (select_read c.args.depth _ _ _ _ c.requires (gets_seq c.in_ok-index.ensures.0 (gets_seq (second_none c.args.depth _ c.in_default.ensures) (c.in_ok-rest.ensures c.args.depth))), omega (arith, c.in_ok-index.ensures.1))

pub chosen-closed-requires : goal.chosen-closed-requires
chosen-closed-requires t c = (omega arith, tt)

pub chosen-returns-in_err-other : goal.chosen-returns-in_err-other
chosen-returns-in_err-other t c =
    let p = err_from_is_err_and c.from_residual-in_err-other.result c.from_residual-in_err-other.ensures.1 in
    rw (p.1, p.2) (fails_by (part an_expr · mark m.CloseBracket) select c.args.depth c.args.depth (seen c.in-Some.behind.now) (seen c.args.tokens.now)
    (λ deep at s. select_stuck c.args.depth deep _ _ at c.requires (stuck_second c.in_ok-index.ensures.0 (second_closed_stuck c.in-Some.kind c.in-Some.ensures s)))
    c.in_err-other.field-0.0 c.in_err-other.ensures)

pub chosen-returns : goal.chosen-returns
chosen-returns t c =
    let q = seq_apart c.in_ok-other.ensures.0 in
    (select_read c.args.depth _ _ _ _ c.requires (gets_seq c.in_ok-index.ensures.0 (gets_seq (second_read c.args.depth _ _ _ c.in-Some.kind _ c.in-Some.ensures q.0) q.1)), omega (arith, c.max.ensures, c.in_ok-index.ensures.1, c.in_ok-other.ensures.1))

pub prefixed-returns-then-depth-eq0 : goal.prefixed-returns-then-depth-eq0
prefixed-returns-then-depth-eq0 t c = prefixed_deep c.args.operator c.args.depth _ _ c.requires (omega arith)

pub prefixed-operand-requires : goal.prefixed-operand-requires
prefixed-operand-requires t c = (omega arith, tt)

pub prefixed-returns-in_err-inner : goal.prefixed-returns-in_err-inner
prefixed-returns-in_err-inner t c =
    let p = err_from_is_err_and c.from_residual.result c.from_residual.ensures.1 in
    let h : 0 < c.args.depth = omega arith in
    rw (p.1, p.2) (fails_by (part an_operand) (part an_operand) (c.args.depth - 1) c.args.depth (seen c.args.after.now) (seen c.args.tokens.now)
    (λ deep at s. prefixed_stuck c.args.operator c.args.depth deep _ _ at h c.requires s)
    c.in_err-inner.field-0.0 c.in_err-inner.ensures)

pub prefixed-overflow_add-result : goal.prefixed-overflow_add-result
prefixed-overflow_add-result t c = omega (arith, c.in_ok-inner.ensures.0.fits, c.in_ok-inner.ensures.1)

pub prefixed-returns : goal.prefixed-returns
prefixed-returns t c =
    let h : 0 < c.args.depth = omega arith in
    rw (tree_Unary, c.in_ok-part.ensures.ok) (prefixed_read c.args.operator c.args.depth _ _ _ _ h c.requires c.in_ok-inner.ensures.0, omega (arith, c.in_ok-inner.ensures.1))

pub prefixed-overflow_sub-depth : goal.prefixed-overflow_sub-depth
prefixed-overflow_sub-depth t c = omega arith

pub group-returns-then-depth-eq0 : goal.group-returns-then-depth-eq0
group-returns-then-depth-eq0 t c = deep_at an_operand c.args.depth _ (the_mark m.Open) (ap first c.requires) refl (omega arith)

pub group-closed-requires : goal.group-closed-requires
group-closed-requires t c = (omega arith, tt)

pub group-returns-in_err-inner : goal.group-returns-in_err-inner
group-returns-in_err-inner t c =
    let p = err_from_is_err_and c.from_residual.result c.from_residual.ensures.1 in
    let h : 0 < c.args.depth = omega arith in
    rw (p.1, p.2) (fails_by (part an_expr · mark m.Close) (part an_operand) (c.args.depth - 1) c.args.depth (seen c.args.after.now) (seen c.args.tokens.now)
    (λ deep at s. e.group_stuck c.args.depth deep _ _ at h c.requires s)
    c.in_err-inner.field-0.0 c.in_err-inner.ensures)

pub group-returns : goal.group-returns
group-returns t c =
    let h : 0 < c.args.depth = omega arith in
    rw (tree_Group, c.in_ok-part.ensures.ok) (e.group_read c.args.depth _ _ _ _ h c.requires c.in_ok-inner.ensures.0, omega (arith, c.in_ok-inner.ensures.1))

pub group-overflow_add-result : goal.group-overflow_add-result
group-overflow_add-result t c = omega (arith, c.in_ok-inner.ensures.0.fits, c.in_ok-inner.ensures.1)

pub group-overflow_sub-depth : goal.group-overflow_sub-depth
group-overflow_sub-depth t c = omega arith

pub cast-returns-then-depth-eq0 : goal.cast-returns-then-depth-eq0
cast-returns-then-depth-eq0 t c = deep_at an_operand c.args.depth _ the_cast (ap first c.requires) refl (omega arith)

pub cast-returns-in_err-opened : goal.cast-returns-in_err-opened
cast-returns-in_err-opened t c =
    let p = err_from_is_err_and c.from_residual.result c.from_residual.ensures.1 in
    let h : 0 < c.args.depth = omega arith in
    rw (p.1, p.2) (fails_by (mark m.Open) (part an_operand) (c.args.depth - 1) c.args.depth (seen c.args.after.now) (seen c.args.tokens.now)
    (λ deep at s. e.cast_stuck c.args.signed c.args.depth deep _ _ at h c.requires (stuck_first s))
    c.in_err-opened.field-0.0 (c.in_err-opened.ensures (c.args.depth - 1)))

pub cast-closed-requires : goal.cast-closed-requires
cast-closed-requires t c = (omega arith, tt)

pub cast-returns-in_err-inner : goal.cast-returns-in_err-inner
cast-returns-in_err-inner t c =
    let p = err_from_is_err_and c.from_residual-in_err-inner.result c.from_residual-in_err-inner.ensures.1 in
    let h : 0 < c.args.depth = omega arith in
    rw (p.1, p.2) (fails_by (part an_expr · mark m.Close) (part an_operand) (c.args.depth - 1) c.args.depth (seen c.in_ok-opened.opened.now) (seen c.args.tokens.now)
    (λ deep at s. e.cast_stuck c.args.signed c.args.depth deep _ _ at h c.requires (stuck_second (c.in_ok-opened.ensures (c.args.depth - 1)) s))
    c.in_err-inner.field-0.0 c.in_err-inner.ensures)

pub cast-returns : goal.cast-returns
cast-returns t c =
    let h : 0 < c.args.depth = omega arith in
    rw (tree_Cast, c.in_ok-part.ensures.ok)
    (e.cast_read c.args.signed c.args.depth _ _ _ _ h c.requires (gets_seq (c.in_ok-opened.ensures (c.args.depth - 1)) c.in_ok-inner.ensures.0), omega (arith, c.in_ok-inner.ensures.1))

pub cast-overflow_add-result : goal.cast-overflow_add-result
cast-overflow_add-result t c = omega (arith, c.in_ok-inner.ensures.0.fits, c.in_ok-inner.ensures.1)

pub cast-overflow_sub-depth : goal.cast-overflow_sub-depth
cast-overflow_sub-depth t c = omega arith

pub closed-nested_expr-requires : goal.closed-nested_expr-requires
closed-nested_expr-requires t c = (omega arith, tt)

pub closed-returns-in_err-inner : goal.closed-returns-in_err-inner
closed-returns-in_err-inner t c =
    let p = err_from_is_err_and c.from_residual.result c.from_residual.ensures.1 in
    rw (p.1, p.2) (fails_by (part an_expr) (part an_expr · mark c.args.end) c.args.depth c.args.depth (seen c.args.tokens.now) (seen c.args.tokens.now)
    (λ deep at s. stuck_first s)
    c.in_err-inner.field-0.0 c.in_err-inner.ensures)

pub closed-returns-in_err-rest : goal.closed-returns-in_err-rest
closed-returns-in_err-rest t c =
    let p = err_from_is_err_and c.from_residual-in_err-rest.result c.from_residual-in_err-rest.ensures.1 in
    rw (p.1, p.2) (fails_by (mark c.args.end) (part an_expr · mark c.args.end) c.args.depth c.args.depth (seen c.in_ok-inner.inner.rest.now) (seen c.args.tokens.now)
    (λ deep at s. stuck_second c.in_ok-inner.ensures.0 s)
    c.in_err-rest.field-0.0 (c.in_err-rest.ensures c.args.depth))

pub closed-returns : goal.closed-returns
closed-returns t c = (gets_seq c.in_ok-inner.ensures.0 (c.in_ok-rest.ensures c.args.depth), omega (arith, c.in_ok-inner.ensures.1))

pub braces-returns-then-depth-eq0 : goal.braces-returns-then-depth-eq0
braces-returns-then-depth-eq0 t c = deep_at an_operand c.args.depth _ (the_mark m.OpenBrace) (ap first c.requires) refl (omega arith)

pub braces-nested_expr-requires : goal.braces-nested_expr-requires
braces-nested_expr-requires t c = (omega arith, tt)

pub braces-returns-in_err-first : goal.braces-returns-in_err-first
braces-returns-in_err-first t c =
    let p = err_from_is_err_and c.from_residual.result c.from_residual.ensures.1 in
    let h : 0 < c.args.depth = omega arith in
    rw (p.1, p.2) (fails_by (part an_expr) (part an_operand) (c.args.depth - 1) c.args.depth (seen c.args.after.now) (seen c.args.tokens.now)
    (λ deep at s. e.braces_stuck c.args.depth deep _ _ at h c.requires (stuck_first s))
    c.in_err-first.field-0.0 c.in_err-first.ensures)

pub braces-others-requires : goal.braces-others-requires
braces-others-requires t c = (omega arith, tt)

pub braces-returns-in_err-behind : goal.braces-returns-in_err-behind
braces-returns-in_err-behind t c =
    let p = err_from_is_err_and c.from_residual-in_err-behind.result c.from_residual-in_err-behind.ensures.1 in
    let h : 0 < c.args.depth = omega arith in
    rw (p.1, p.2) (fails_by (other_parts an_expr) (part an_operand) (c.args.depth - 1) c.args.depth (seen c.in_ok-first.first.rest.now) (seen c.args.tokens.now)
    (λ deep at s. e.braces_stuck c.args.depth deep _ _ at h c.requires (stuck_second c.in_ok-first.ensures.0 (e.others_stuck (c.args.depth - 1) deep _ at c.in_default.ensures s)))
    c.in_err-behind.field-0.0 c.in_err-behind.ensures)

pub braces-returns-in_default : goal.braces-returns-in_default
braces-returns-in_default t c =
    let h : 0 < c.args.depth = omega arith in
    rw (tree_Concat, c.in_ok-head.ensures.ok)
    (e.braces_read c.args.depth _ _ _ _ h c.requires (gets_seq c.in_ok-first.ensures.0 (e.others_read (c.args.depth - 1) _ _ _ c.in_default.ensures c.in_ok-behind.ensures.0)), omega (arith, c.max.ensures, c.in_ok-first.ensures.1, c.in_ok-behind.ensures.1))

pub braces-returns-in_err-part : goal.braces-returns-in_err-part
braces-returns-in_err-part t c =
    let p = err_from_is_err_and c.from_residual-in_err-part.result c.from_residual-in_err-part.ensures.1 in
    let h : 0 < c.args.depth = omega arith in
    rw (p.1, p.2) (fails_by (part an_expr) (part an_operand) (c.args.depth - 1) c.args.depth (seen c.in-Some.inner.now) (seen c.args.tokens.now)
    (λ deep at s. e.braces_stuck c.args.depth deep _ _ at h c.requires (stuck_second c.in_ok-first.ensures.0 (e.repeated_stuck (c.args.depth - 1) deep _ _ at c.in-Some.ensures (stuck_first s))))
    c.in_err-part.field-0.0 c.in_err-part.ensures)

pub braces-returns-in_err-behind-2 : goal.braces-returns-in_err-behind-2
braces-returns-in_err-behind-2 t c =
    let p = err_from_is_err_and c.from_residual-in_err-behind-2.result c.from_residual-in_err-behind-2.ensures.1 in
    let h : 0 < c.args.depth = omega arith in
    rw (p.1, p.2) (fails_by (other_parts an_expr) (part an_operand) (c.args.depth - 1) c.args.depth (seen c.in_ok-part.part.rest.now) (seen c.args.tokens.now)
    (λ deep at s. e.braces_stuck c.args.depth deep _ _ at h c.requires (stuck_second c.in_ok-first.ensures.0 (e.repeated_stuck (c.args.depth - 1) deep _ _ at c.in-Some.ensures (stuck_second c.in_ok-part.ensures.0 (stuck_first s)))))
    c.in_err-behind-2.field-0.0 c.in_err-behind-2.ensures)

pub braces-returns-in_err-rest : goal.braces-returns-in_err-rest
braces-returns-in_err-rest t c =
    let p = err_from_is_err_and c.from_residual-in_err-rest.result c.from_residual-in_err-rest.ensures.1 in
    let h : 0 < c.args.depth = omega arith in
    rw (p.1, p.2) (fails_by (mark m.CloseBrace) (part an_operand) (c.args.depth - 1) c.args.depth (seen c.in_ok-behind-2.behind.rest.now) (seen c.args.tokens.now)
    (λ deep at s. e.braces_stuck c.args.depth deep _ _ at h c.requires (stuck_second c.in_ok-first.ensures.0 (e.repeated_stuck (c.args.depth - 1) deep _ _ at c.in-Some.ensures (stuck_second c.in_ok-part.ensures.0 (stuck_second c.in_ok-behind-2.ensures.0 s)))))
    c.in_err-rest.field-0.0 (c.in_err-rest.ensures (c.args.depth - 1)))

pub braces-nested_expr-requires-2 : goal.braces-nested_expr-requires-2
braces-nested_expr-requires-2 t c = (omega arith, tt)

pub braces-others-requires-2 : goal.braces-others-requires-2
braces-others-requires-2 t c = (omega arith, tt)

pub braces-returns : goal.braces-returns
braces-returns t c =
    let h : 0 < c.args.depth = omega arith in
    rw (tree_Repeat, c.in_ok-head.ensures.ok, c.in_ok-content.ensures.ok) (
      e.braces_read c.args.depth _ _ _ _ h c.requires
          (gets_seq c.in_ok-first.ensures.0 (e.repeated_read (c.args.depth - 1) _ _ _ _ c.in-Some.ensures (gets_seq c.in_ok-part.ensures.0 (gets_seq c.in_ok-behind-2.ensures.0 (c.in_ok-rest.ensures (c.args.depth - 1)))))),
      omega (arith, c.max-2.ensures, c.max-3.ensures, c.in_ok-first.ensures.1, c.in_ok-part.ensures.1, c.in_ok-behind-2.ensures.1),
    )

pub braces-overflow_sub-depth : goal.braces-overflow_sub-depth
braces-overflow_sub-depth t c = omega arith

pub braces-overflow_add-result : goal.braces-overflow_add-result
braces-overflow_add-result t c = omega (arith, c.max.ensures, c.in_ok-first.ensures.0.fits, c.in_ok-first.ensures.1, c.in_ok-behind.ensures.0.fits, c.in_ok-behind.ensures.1)

pub braces-overflow_add-result-2 : goal.braces-overflow_add-result-2
braces-overflow_add-result-2 t c = omega (arith, c.max-2.ensures, c.max-3.ensures, c.in_ok-first.ensures.1, c.in_ok-part.ensures.1, c.in_ok-behind-2.ensures.1, c.in_ok-first.ensures.0.fits, c.in_ok-part.ensures.0.fits, c.in_ok-behind-2.ensures.0.fits)

pub others-loop-after-init : goal.others-loop-after-init
others-loop-after-init t c = record {
  along = along_start (another m.Comma an_expr) c.args.depth c.args.tokens.now _ comma_of _ c.split_at.ensures.back c.new-tree.ensures.items;
  height = sym (height_none comma_of _ c.new-tree.ensures.items);
}

pub others-nested_expr-requires : goal.others-nested_expr-requires
others-nested_expr-requires t c = (omega arith, tt)

pub others-returns-in_err-part : goal.others-returns-in_err-part
others-returns-in_err-part t c =
    let p = err_from_is_err_and c.from_residual.result c.from_residual.ensures.1 in
    rw (p.1, p.2) (fails_by (part an_expr) (other_parts an_expr) c.args.depth c.args.depth (seen c.in-Some.after.now) (seen c.args.tokens.now)
    (λ deep at s. part_stuck an_expr c.args.depth deep _ _ _ at _ (omega arith) c.loop-after.invariant.along c.in-Some.ensures s)
    c.in_err-part.field-0.0 c.in_err-part.ensures)

pub others-loop-after-preserved : goal.others-loop-after-preserved
others-loop-after-preserved t c =
    let more = height_push comma_of _ _ _ c.in_ok-push.ensures.items in
    record {
      along = along_push (another m.Comma an_expr) c.args.depth _ _ _ comma_of _ _ _ c.in_ok-push.ensures.items c.loop-after.invariant.along (goes_another m.Comma an_expr _ _ c.in-Some.ensures)
          (another_read m.Comma an_expr c.args.depth _ _ _ _ c.in-Some.ensures c.in_ok-part.ensures.0);
      height = omega (arith, more, c.max-height.ensures, c.loop-after.invariant.height, c.in_ok-part.ensures.1);
    }

pub others-loop-after-smaller : goal.others-loop-after-smaller
others-loop-after-smaller t c =
    shorter (another m.Comma an_expr) c.args.depth (seen c.loop-after.rest.now) (seen c.in_ok-part.part.rest.now) _ (goes_another m.Comma an_expr _ _ c.in-Some.ensures)
    (another_read m.Comma an_expr c.args.depth _ _ _ _ c.in-Some.ensures c.in_ok-part.ensures.0)

pub others-returns-in_err-behind : goal.others-returns-in_err-behind
others-returns-in_err-behind t c =
    let p = err_from_is_err_and c.from_residual-in_err-behind.result c.from_residual-in_err-behind.ensures.1 in
    rw (p.1, p.2) (fails_by (mark m.CloseBrace) (other_parts an_expr) c.args.depth c.args.depth (seen c.loop-after.rest.now) (seen c.args.tokens.now)
    (λ deep at s. end_of_parts an_expr c.args.depth deep _ _ at _ c.loop-after.invariant.along c.in_default.ensures s)
    c.in_err-behind.field-0.0 (c.in_err-behind.ensures c.args.depth))

pub others-returns : goal.others-returns
others-returns t c =
    let k = parts_height expr_tree c.loop-after.tree.items in
    (parts_read an_expr expr_tree c.args.depth _ _ _ _ c.loop-after.invariant.along c.in_default.ensures (c.in_ok-behind.ensures c.args.depth), omega (arith, k, c.loop-after.invariant.height))
