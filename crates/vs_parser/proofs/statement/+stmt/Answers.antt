use Rattle.std.proofs.Common.{Some, None, sym, ◌∙◌, refl, arith}
use Rattle.std.proofs.lemmas.Result.{err_from_is_err_and}
use Rattle.vs_syntax.specs.vs_lexer.specs.declared.token.Word.TheVariants as w
use Rattle.vs_syntax.specs.Grammar.{◌·◌, part, word, block_head, guarded, branches, case_items, for_parts, delay, event, a_stmt, a_case_item}
use Rattle.vs_syntax.specs.Views.{stmt_tree}
use Rattle.vs_syntax.specs.Reading.{stuck_here, stuck_first, stuck_second}
use Rattle.vs_syntax.proofs.Gets.{gets_seq, gets_stop, gets_absent}
use Rattle.vs_parse_expressions.specs.Answers.{seen}
use Rattle.vs_parse_expressions.proofs.Exits.{fails_by}
use Rattle.vs_parse_expressions.proofs.Rows.{along_start, along_push, shorter, all_read}
use Rattle.vs_parse_expressions.specs.Parts.{labelled_stmt_tree}
use Rattle.vs_parser.proofs.Heads.{head_goes, head_deep}
use Rattle.vs_parser.proofs.Statements.{null_read, word_stmt, word_is, room_of, word_room, begins_of, block_body, row_stuck, else_stuck, else_read, items_none, item_stuck, items_read}
use Rattle.vs_parse_expressions.proofs.ListsTrees.{tree_If, tree_Case, tree_For, tree_Forever, tree_Delay, tree_Event}
use Rattle.vs_parser.proofs.statement.+stmt.Goals as goal

pub stmt-returns-in_default : goal.stmt-returns-in_default
stmt-returns-in_default t c = stuck_here refl c.in_default.ensures

pub headed-returns-then-depth-least_statement : goal.headed-returns-then-depth-least_statement
headed-returns-then-depth-least_statement t c = head_deep c.args.depth _ _ c.args.head c.requires (omega (arith, c.least_statement.ensures.need))

pub headed-returns-in-Word : goal.headed-returns-in-Word
headed-returns-in-Word t c = word_stmt _ c.args.depth _ _ _ (begins_of _ _ _ _ c.in-Word.is c.requires) (word_room _ _ _ c.args.depth c.in-Word.is c.least_statement.ensures.need (omega arith)) c.statement_rest.ensures

pub statement_rest-returns-in-Null : goal.statement_rest-returns-in-Null
statement_rest-returns-in-Null t c = null_read _ c.args.depth _ c.in-Null.is

pub statement_rest-returns-in-Block : goal.statement_rest-returns-in-Block
statement_rest-returns-in-Block t c = word_is _ _ c.args.depth _ _ c.in-Block.is c.block.ensures

pub statement_rest-returns-in-If : goal.statement_rest-returns-in-If
statement_rest-returns-in-If t c = word_is _ _ c.args.depth _ _ c.in-If.is c.conditional.ensures

pub statement_rest-returns-in-Case : goal.statement_rest-returns-in-Case
statement_rest-returns-in-Case t c = word_is _ _ c.args.depth _ _ c.in-Case.is c.case_stmt.ensures

pub statement_rest-returns-in-Casez : goal.statement_rest-returns-in-Casez
statement_rest-returns-in-Casez t c = word_is _ _ c.args.depth _ _ c.in-Casez.is c.case_stmt-in-Casez.ensures

pub statement_rest-returns-in-Casex : goal.statement_rest-returns-in-Casex
statement_rest-returns-in-Casex t c = word_is _ _ c.args.depth _ _ c.in-Casex.is c.case_stmt-in-Casex.ensures

pub statement_rest-returns-in-For : goal.statement_rest-returns-in-For
statement_rest-returns-in-For t c = word_is _ _ c.args.depth _ _ c.in-For.is c.for_stmt.ensures

pub statement_rest-returns-in-While : goal.statement_rest-returns-in-While
statement_rest-returns-in-While t c = word_is _ _ c.args.depth _ _ c.in-While.is c.loop_stmt.ensures

pub statement_rest-returns-in-Repeat : goal.statement_rest-returns-in-Repeat
statement_rest-returns-in-Repeat t c = word_is _ _ c.args.depth _ _ c.in-Repeat.is c.loop_stmt-in-Repeat.ensures

pub statement_rest-returns-in-Forever : goal.statement_rest-returns-in-Forever
statement_rest-returns-in-Forever t c = word_is _ _ c.args.depth _ _ c.in-Forever.is c.forever_stmt.ensures

pub statement_rest-returns-in-Delay : goal.statement_rest-returns-in-Delay
statement_rest-returns-in-Delay t c = word_is _ _ c.args.depth _ _ c.in-Delay.is c.delayed_stmt.ensures

pub statement_rest-returns-in-Event : goal.statement_rest-returns-in-Event
statement_rest-returns-in-Event t c = word_is _ _ c.args.depth _ _ c.in-Event.is c.event_stmt.ensures

pub statement_rest-returns-in-Finish : goal.statement_rest-returns-in-Finish
statement_rest-returns-in-Finish t c = word_is _ _ c.args.depth _ _ c.in-Finish.is (c.finish_stmt.ensures c.args.depth)

pub boxed-returns-in_err-inner : goal.boxed-returns-in_err-inner
boxed-returns-in_err-inner t c =
    let p = err_from_is_err_and c.from_residual.result c.from_residual.ensures.1 in
    rw (p.1, p.2) (c.in_err-inner.ensures)

pub boxed-returns : goal.boxed-returns
boxed-returns t c = rw (c.in_ok-tree.ensures.ok) c.in_ok-inner.ensures

pub block-returns-in_err-naming : goal.block-returns-in_err-naming
block-returns-in_err-naming t c =
    let p = err_from_is_err_and c.from_residual.result c.from_residual.ensures.1 in
    rw (p.1, p.2) (fails_by block_head block_body c.args.depth c.args.depth (seen c.args.tokens.now) (seen c.args.tokens.now)
    (λ deep at s. stuck_first s)
    c.in_err-naming.field-0.0 c.in_err-naming.ensures)

pub block-returns-in_err-inner : goal.block-returns-in_err-inner
block-returns-in_err-inner t c =
    let p = err_from_is_err_and c.from_residual-in_err-inner.result c.from_residual-in_err-inner.ensures.1 in
    rw (p.1, p.2) (fails_by (part a_stmt) block_body c.args.depth c.args.depth (seen c.loop-head.rest.now) (seen c.args.tokens.now)
    (λ deep at s. stuck_second c.in_ok-naming.ensures (stuck_first (c.loop-head.invariant.along.stops deep at (row_stuck c.args.depth deep _ at (head_goes _ _ c.in-Some.head c.in-Some.ensures) s))))
    c.in_err-inner.field-0.0 c.in_err-inner.ensures)

pub block-loop-head-smaller : goal.block-loop-head-smaller
block-loop-head-smaller t c = shorter (part a_stmt) c.args.depth (seen c.loop-head.rest.now) (seen c.in_ok-inner.inner.rest.now) _ (head_goes _ _ c.in-Some.head c.in-Some.ensures) c.in_ok-inner.ensures

pub block-loop-head-preserved : goal.block-loop-head-preserved
block-loop-head-preserved t c = record {
  along = along_push (part a_stmt) c.args.depth _ _ _ stmt_tree _ _ _ c.in_ok-push.ensures.items c.loop-head.invariant.along (head_goes _ _ c.in-Some.head c.in-Some.ensures) c.in_ok-inner.ensures;
}

pub block-returns-in_err-behind : goal.block-returns-in_err-behind
block-returns-in_err-behind t c =
    let p = err_from_is_err_and c.from_residual-in_err-behind.result c.from_residual-in_err-behind.ensures.1 in
    rw (p.1, p.2) (fails_by (word w.End) block_body c.args.depth c.args.depth (seen c.loop-head.rest.now) (seen c.args.tokens.now)
    (λ deep at s. stuck_second c.in_ok-naming.ensures (stuck_second (c.loop-head.invariant.along.reads _ _ (gets_stop c.in_default.ensures)) s))
    c.in_err-behind.field-0.0 (c.in_err-behind.ensures c.args.depth))

pub block-returns : goal.block-returns
block-returns t c = record { inner = _; whole = c.named.ensures; gets = gets_seq c.in_ok-naming.ensures (gets_seq (all_read (part a_stmt) c.args.depth _ _ _ _ c.loop-head.invariant.along (gets_stop c.in_default.ensures)) (c.in_ok-behind.ensures c.args.depth)) }

pub conditional-returns-in_err-condition : goal.conditional-returns-in_err-condition
conditional-returns-in_err-condition t c =
    let p = err_from_is_err_and c.from_residual.result c.from_residual.ensures.1 in
    rw (p.1, p.2) (c.in_err-condition.ensures branches)

pub conditional-returns-in_err-inner : goal.conditional-returns-in_err-inner
conditional-returns-in_err-inner t c =
    let p = err_from_is_err_and c.from_residual-in_err-inner.result c.from_residual-in_err-inner.ensures.1 in
    rw (p.1, p.2) (fails_by (part a_stmt) (guarded branches) c.args.depth c.args.depth (seen c.in_ok-condition.condition.rest.now) (seen c.args.tokens.now)
    (λ deep at s. (c.in_ok-condition.ensures branches).stops deep at (stuck_first s))
    c.in_err-inner.field-0.0 c.in_err-inner.ensures)

pub conditional-returns-in_default : goal.conditional-returns-in_default
conditional-returns-in_default t c = record { inner = _; whole = tree_If _ _ None; gets = rw c.in_ok-test.ensures.ok ((c.in_ok-condition.ensures branches).reads _ _ (gets_seq c.in_ok-inner.ensures (gets_absent c.in_default.ensures))) }

pub conditional-returns-in_err-other : goal.conditional-returns-in_err-other
conditional-returns-in_err-other t c =
    let p = err_from_is_err_and c.from_residual-in_err-other.result c.from_residual-in_err-other.ensures.1 in
    rw (p.1, p.2) (fails_by (part a_stmt) (guarded branches) c.args.depth c.args.depth (seen c.in-Some.after.now) (seen c.args.tokens.now)
    (λ deep at s. (c.in_ok-condition.ensures branches).stops deep at (stuck_second c.in_ok-inner.ensures (else_stuck c.args.depth deep _ _ at c.requires c.in-Some.ensures s)))
    c.in_err-other.field-0.0 c.in_err-other.ensures)

pub conditional-returns : goal.conditional-returns
conditional-returns t c = record { inner = _; whole = tree_If _ _ (Some c.in_ok-other.other.tree); gets = rw c.in_ok-test.ensures.ok ((c.in_ok-condition.ensures branches).reads _ _ (gets_seq c.in_ok-inner.ensures (else_read c.args.depth _ _ _ _ c.in-Some.ensures c.in_ok-other.ensures))) }

pub case_stmt-returns-in_err-subject : goal.case_stmt-returns-in_err-subject
case_stmt-returns-in_err-subject t c =
    let p = err_from_is_err_and c.from_residual.result c.from_residual.ensures.1 in
    rw (p.1, p.2) (c.in_err-subject.ensures case_items)

pub case_stmt-returns-in_err-items : goal.case_stmt-returns-in_err-items
case_stmt-returns-in_err-items t c =
    let p = err_from_is_err_and c.from_residual-in_err-items.result c.from_residual-in_err-items.ensures.1 in
    rw (p.1, p.2) (fails_by (case_items) (guarded case_items) c.args.depth c.args.depth (seen c.in_ok-subject.subject.rest.now) (seen c.args.tokens.now)
    (λ deep at s. (c.in_ok-subject.ensures case_items).stops deep at s)
    c.in_err-items.field-0.0 c.in_err-items.ensures)

pub case_stmt-returns : goal.case_stmt-returns
case_stmt-returns t c = record { inner = _; whole = tree_Case _ _ _; gets = rw c.in_ok-operand.ensures.ok ((c.in_ok-subject.ensures case_items).reads _ _ c.in_ok-items.ensures) }

pub for_stmt-returns-in_err-read : goal.for_stmt-returns-in_err-read
for_stmt-returns-in_err-read t c =
    let p = err_from_is_err_and c.from_residual.result c.from_residual.ensures.1 in
    rw (p.1, p.2) (c.in_err-read.ensures)

pub for_stmt-returns-in_err-inner : goal.for_stmt-returns-in_err-inner
for_stmt-returns-in_err-inner t c =
    let p = err_from_is_err_and c.from_residual-in_err-inner.result c.from_residual-in_err-inner.ensures.1 in
    rw (p.1, p.2) (fails_by (part a_stmt) (for_parts) c.args.depth c.args.depth (seen c.in_ok-read.read.rest.now) (seen c.args.tokens.now)
    (λ deep at s. c.in_ok-read.ensures.stops deep at s)
    c.in_err-inner.field-0.0 c.in_err-inner.ensures)

pub for_stmt-returns : goal.for_stmt-returns
for_stmt-returns t c = record { inner = _; whole = tree_For _ _; gets = rw c.in_ok-header.ensures.ok (c.in_ok-read.ensures.reads _ _ c.in_ok-inner.ensures) }

pub loop_stmt-returns-in_err-condition : goal.loop_stmt-returns-in_err-condition
loop_stmt-returns-in_err-condition t c =
    let p = err_from_is_err_and c.from_residual.result c.from_residual.ensures.1 in
    rw (p.1, p.2) (c.in_err-condition.ensures (part a_stmt))

pub loop_stmt-returns-in_err-inner : goal.loop_stmt-returns-in_err-inner
loop_stmt-returns-in_err-inner t c =
    let p = err_from_is_err_and c.from_residual-in_err-inner.result c.from_residual-in_err-inner.ensures.1 in
    rw (p.1, p.2) (fails_by (part a_stmt) (guarded (part a_stmt)) c.args.depth c.args.depth (seen c.in_ok-condition.condition.rest.now) (seen c.args.tokens.now)
    (λ deep at s. (c.in_ok-condition.ensures (part a_stmt)).stops deep at s)
    c.in_err-inner.field-0.0 c.in_err-inner.ensures)

pub forever_stmt-returns-in_err-inner : goal.forever_stmt-returns-in_err-inner
forever_stmt-returns-in_err-inner t c =
    let p = err_from_is_err_and c.from_residual.result c.from_residual.ensures.1 in
    rw (p.1, p.2) (c.in_err-inner.ensures)

pub forever_stmt-returns : goal.forever_stmt-returns
forever_stmt-returns t c = record { inner = _; whole = tree_Forever _; gets = c.in_ok-inner.ensures }

pub delayed_stmt-returns-in_err-time : goal.delayed_stmt-returns-in_err-time
delayed_stmt-returns-in_err-time t c =
    let p = err_from_is_err_and c.from_residual.result c.from_residual.ensures.1 in
    rw (p.1, p.2) (fails_by (delay) (delay · part a_stmt) c.args.depth c.args.depth (seen c.args.tokens.now) (seen c.args.tokens.now)
    (λ deep at s. stuck_first s)
    c.in_err-time.field-0.0 c.in_err-time.ensures)

pub delayed_stmt-returns-in_err-inner : goal.delayed_stmt-returns-in_err-inner
delayed_stmt-returns-in_err-inner t c =
    let p = err_from_is_err_and c.from_residual-in_err-inner.result c.from_residual-in_err-inner.ensures.1 in
    rw (p.1, p.2) (fails_by (part a_stmt) (delay · part a_stmt) c.args.depth c.args.depth (seen c.in_ok-time.time.rest.now) (seen c.args.tokens.now)
    (λ deep at s. stuck_second c.in_ok-time.ensures s)
    c.in_err-inner.field-0.0 c.in_err-inner.ensures)

pub delayed_stmt-returns : goal.delayed_stmt-returns
delayed_stmt-returns t c = record { inner = _; whole = tree_Delay _ _; gets = gets_seq c.in_ok-time.ensures c.in_ok-inner.ensures }

pub event_stmt-returns-in_err-control : goal.event_stmt-returns-in_err-control
event_stmt-returns-in_err-control t c =
    let p = err_from_is_err_and c.from_residual.result c.from_residual.ensures.1 in
    rw (p.1, p.2) (fails_by (event) (event · part a_stmt) c.args.depth c.args.depth (seen c.args.tokens.now) (seen c.args.tokens.now)
    (λ deep at s. stuck_first s)
    c.in_err-control.field-0.0 c.in_err-control.ensures)

pub event_stmt-returns-in_err-inner : goal.event_stmt-returns-in_err-inner
event_stmt-returns-in_err-inner t c =
    let p = err_from_is_err_and c.from_residual-in_err-inner.result c.from_residual-in_err-inner.ensures.1 in
    rw (p.1, p.2) (fails_by (part a_stmt) (event · part a_stmt) c.args.depth c.args.depth (seen c.in_ok-control.control.rest.now) (seen c.args.tokens.now)
    (λ deep at s. stuck_second c.in_ok-control.ensures s)
    c.in_err-inner.field-0.0 c.in_err-inner.ensures)

pub event_stmt-returns : goal.event_stmt-returns
event_stmt-returns t c = record { inner = _; whole = tree_Event _ _; gets = gets_seq c.in_ok-control.ensures c.in_ok-inner.ensures }

pub items-returns-then-not-begins_case_item : goal.items-returns-then-not-begins_case_item
items-returns-then-not-begins_case_item t c = items_none c.args.depth _ (sym c.begins_case_item.ensures ∙ c.if-not-begins_case_item.true)

pub items-loop-alloc-preserved : goal.items-loop-alloc-preserved
items-loop-alloc-preserved t c = record {
  along = along_push (part a_case_item) c.args.depth _ _ _ labelled_stmt_tree _ _ _ c.in_ok-push.ensures.items c.loop-alloc.invariant.along (sym c.begins_case_item-in-loop-alloc.ensures ∙ c.loop-alloc-test.true) (c.in_ok-label.ensures.reads _ _ c.in_ok-inner.ensures);
}

pub items-returns-in_err-after : goal.items-returns-in_err-after
items-returns-in_err-after t c =
    let p = err_from_is_err_and c.from_residual-in_err-after.result c.from_residual-in_err-after.ensures.1 in
    rw (p.1, p.2) (fails_by (word w.Endcase) (case_items) c.args.depth c.args.depth (seen c.loop-alloc.rest.now) (seen c.args.tokens.now)
    (λ deep at s. stuck_second (items_read c.args.depth _ _ _ c.loop-alloc.invariant.along (sym c.begins_case_item.ensures ∙ c.if-not-begins_case_item.false) (sym c.begins_case_item-in-loop-alloc.ensures ∙ c.loop-alloc-test.false)) s)
    c.in_err-after.field-0.0 (c.in_err-after.ensures c.args.depth))

pub items-returns : goal.items-returns
items-returns t c = gets_seq (items_read c.args.depth _ _ _ c.loop-alloc.invariant.along (sym c.begins_case_item.ensures ∙ c.if-not-begins_case_item.false) (sym c.begins_case_item-in-loop-alloc.ensures ∙ c.loop-alloc-test.false)) (c.in_ok-after.ensures c.args.depth)

pub loop_stmt-returns : goal.loop_stmt-returns
loop_stmt-returns t c = record { inner = _; whole = c.looped.ensures; gets = (c.in_ok-condition.ensures (part a_stmt)).reads _ _ c.in_ok-inner.ensures }

pub items-returns-in_err-label : goal.items-returns-in_err-label
items-returns-in_err-label t c =
    let p = err_from_is_err_and c.from_residual.result c.from_residual.ensures.1 in
    rw (p.1, p.2) (fails_by (part a_case_item) (case_items) c.args.depth c.args.depth (seen c.loop-alloc.rest.now) (seen c.args.tokens.now)
    (λ deep at s. item_stuck c.args.depth deep _ _ at _ c.requires c.loop-alloc.invariant.along (sym c.begins_case_item-in-loop-alloc.ensures ∙ c.loop-alloc-test.true) s)
    c.in_err-label.field-0.0 c.in_err-label.ensures)

pub items-returns-in_err-inner : goal.items-returns-in_err-inner
items-returns-in_err-inner t c =
    let p = err_from_is_err_and c.from_residual-in_err-inner.result c.from_residual-in_err-inner.ensures.1 in
    rw (p.1, p.2) (fails_by (part a_stmt) (case_items) c.args.depth c.args.depth (seen c.in_ok-label.label.rest.now) (seen c.args.tokens.now)
    (λ deep at s. item_stuck c.args.depth deep _ _ at _ c.requires c.loop-alloc.invariant.along (sym c.begins_case_item-in-loop-alloc.ensures ∙ c.loop-alloc-test.true) (c.in_ok-label.ensures.stops deep at s))
    c.in_err-inner.field-0.0 c.in_err-inner.ensures)

pub items-loop-alloc-smaller : goal.items-loop-alloc-smaller
items-loop-alloc-smaller t c =
    shorter (part a_case_item) c.args.depth (seen c.loop-alloc.rest.now) (seen c.in_ok-inner.inner.rest.now) _ (sym c.begins_case_item-in-loop-alloc.ensures ∙ c.loop-alloc-test.true) (c.in_ok-label.ensures.reads _ _ c.in_ok-inner.ensures)

pub items-loop-alloc-init : goal.items-loop-alloc-init
items-loop-alloc-init t c = record { along = along_start (part a_case_item) c.args.depth c.args.tokens.now _ labelled_stmt_tree _ c.split_at.ensures.back c.new-tree.ensures.items }

pub block-loop-head-init : goal.block-loop-head-init
block-loop-head-init t c = record { along = along_start (part a_stmt) c.args.depth c.in_ok-naming.naming.rest.now _ stmt_tree _ c.split_at.ensures.back c.new-tree.ensures.items }

pub stmt-headed-requires : goal.stmt-headed-requires
stmt-headed-requires t c = (omega arith, c.in-Some.ensures)

pub statement_rest-block-requires : goal.statement_rest-block-requires
statement_rest-block-requires t c = (omega arith, tt)

pub statement_rest-conditional-requires : goal.statement_rest-conditional-requires
statement_rest-conditional-requires t c = (omega arith, room_of _ _ c.args.depth c.in-If.is c.requires)

pub statement_rest-case_stmt-requires : goal.statement_rest-case_stmt-requires
statement_rest-case_stmt-requires t c = (omega arith, room_of _ _ c.args.depth c.in-Case.is c.requires)

pub statement_rest-for_stmt-requires : goal.statement_rest-for_stmt-requires
statement_rest-for_stmt-requires t c = (omega arith, tt)

pub statement_rest-loop_stmt-requires : goal.statement_rest-loop_stmt-requires
statement_rest-loop_stmt-requires t c = (omega arith, tt)

pub statement_rest-forever_stmt-requires : goal.statement_rest-forever_stmt-requires
statement_rest-forever_stmt-requires t c = (omega arith, tt)

pub statement_rest-delayed_stmt-requires : goal.statement_rest-delayed_stmt-requires
statement_rest-delayed_stmt-requires t c = (omega arith, tt)

pub statement_rest-event_stmt-requires : goal.statement_rest-event_stmt-requires
statement_rest-event_stmt-requires t c = (omega arith, tt)

pub boxed-stmt-requires : goal.boxed-stmt-requires
boxed-stmt-requires t c = (omega arith, tt)

pub block-headed-requires : goal.block-headed-requires
block-headed-requires t c = (omega arith, c.in-Some.ensures)

pub conditional-boxed-requires : goal.conditional-boxed-requires
conditional-boxed-requires t c = (omega arith, tt)

pub case_stmt-items-requires : goal.case_stmt-items-requires
case_stmt-items-requires t c = (omega arith, c.requires)

pub items-stmt-requires : goal.items-stmt-requires
items-stmt-requires t c = (omega arith, tt)

pub for_stmt-boxed-requires : goal.for_stmt-boxed-requires
for_stmt-boxed-requires t c = (omega arith, tt)

pub loop_stmt-boxed-requires : goal.loop_stmt-boxed-requires
loop_stmt-boxed-requires t c = (omega arith, tt)

pub forever_stmt-boxed-requires : goal.forever_stmt-boxed-requires
forever_stmt-boxed-requires t c = (omega arith, tt)

pub delayed_stmt-boxed-requires : goal.delayed_stmt-boxed-requires
delayed_stmt-boxed-requires t c = (omega arith, tt)

pub event_stmt-boxed-requires : goal.event_stmt-boxed-requires
event_stmt-boxed-requires t c = (omega arith, tt)

pub conditional-boxed-requires-2 : goal.conditional-boxed-requires-2
conditional-boxed-requires-2 t c = (omega arith, tt)
