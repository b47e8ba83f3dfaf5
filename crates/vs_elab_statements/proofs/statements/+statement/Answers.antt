use Rattle.std.proofs.Common.{[], ◌∷◌, ◌++◌, ◌∙◌, ap, length, refl, rules, subst, sym, arith, ◌≡◌, ◌<◌}
use Rattle.std.proofs.lemmas.Grind.{common_steps}
use Rattle.std.proofs.lemmas.Result.{err_from_is_err_and}
use Rattle.vs_scopes.specs.Pieces.{NamedBlock, blocks_in}
use Rattle.vs_syntax.specs.declared.tree.CaseLabel.{CaseLabel}
use Rattle.vs_syntax.specs.declared.tree.Stmt.{Stmt, size-Stmt, the_lemmas}
use Rattle.vs_syntax.specs.declared.tree.Stmt.TheVariants as s
use Rattle.vs_design.specs.vs_logic4.proofs.Basics.{got}
use Rattle.vs_elab_statements.specs.vs_scopes.specs.Printed.{plainly}
use Rattle.vs_elab_statements.proofs.BlockLemmas.{blocks_Delay, blocks_Event, blocks_For, blocks_Forever, blocks_Repeat, blocks_While, placed_inside, site_inside, ratio_inside, names_at, inside_free, inside_fails, below_deeper}
use Rattle.vs_elab_statements.proofs.DepthLemmas.{items_depth, items_falls, item_within}
use Rattle.vs_elab_statements.proofs.StatementLemmas.{begin_refused, behind_overfull, behind_refused, block_refused, case_overfull, case_refused_by, delay_inner, else_refused, event_inner, forever_inner, item_refused, items_refused, label_refused, listed_all, listed_more, listed_none, named_refused, otherwise_none, otherwise_some, repeat_inner, stated_all, stated_more, stated_none, statement_refused, states_Block, states_Case, states_Named, states_behind, then_refused, turn_refused, while_inner}
use Rattle.vs_elab_statements.specs.Blocks.{HaveScopes}
use Rattle.vs_elab_statements.proofs.BelowLemmas.{overfull_below, refused_below}
use Rattle.vs_elab_statements.proofs.ScopeLemmas.{has_inside, has_place, have_at, in_around, in_block, in_case, in_else, in_named, in_other, in_then, stmt_within}
use Rattle.vs_elab_statements.proofs.NumberLemmas.{null_answers, finish_answers, dump_answers, none_below}
use Rattle.vs_elab_statements.proofs.statements.+statement.Goals as goal

pub statement-returns-in-Later-clause-answer : goal.statement-returns-in-Later-clause-answer
statement-returns-in-Later-clause-answer t c envs p v = rw c.in-Later.is (c.later.ensures.answer envs p v)

pub statement-returns-in-Print-clause-answer : goal.statement-returns-in-Print-clause-answer
statement-returns-in-Print-clause-answer t c envs p v = rw c.in-Print.is (c.print.ensures.answer envs p v)

pub statement-returns-in_ok-inner-in-Block-clause-answer : goal.statement-returns-in_ok-inner-in-Block-clause-answer
statement-returns-in_ok-inner-in-Block-clause-answer t c envs p v =
    rw c.in-Block.is (states_Block c.args.view.now.list.now envs p c.args.next.now _ c.in-Block.inner _ c.in_ok-inner-in-Block.inner c.deref.ensures.value (c.in_ok-inner-in-Block.ensures.answer envs p v))

pub statement-returns-in_err-inner-in-Block-clause-answer : goal.statement-returns-in_err-inner-in-Block-clause-answer
statement-returns-in_err-inner-in-Block-clause-answer t c envs p v =
    let q = err_from_is_err_and c.from_residual.result c.from_residual.ensures.1 in
    rw (q.1, q.2, c.in-Block.is) (block_refused c.args.view.now.list.now envs p c.args.next.now c.in-Block.inner _ c.in_err-inner-in-Block.field-0.0 c.deref.ensures.value (c.in_err-inner-in-Block.ensures.answer envs p v))

pub statement-returns-in_ok-inner-in-Named-clause-answer : goal.statement-returns-in_ok-inner-in-Named-clause-answer
statement-returns-in_ok-inner-in-Named-clause-answer t c envs p v =
    rw c.in-Named.is (states_Named c.args.view.now.list.now envs p c.args.next.now _ c.in-Named.name c.in-Named.field-1 c.in-Named.inner _ _ c.in_ok-inner-in-Named.inner c.deref-in-Named.ensures.value c.deref-in-Named-2.ensures.value (c.in_ok-inner-in-Named.ensures.answer envs p c.in-Named.field-1.items v))

pub statement-returns-in_err-inner-in-Named-clause-answer : goal.statement-returns-in_err-inner-in-Named-clause-answer
statement-returns-in_err-inner-in-Named-clause-answer t c envs p v =
    let q = err_from_is_err_and c.from_residual-in_err-inner-in-Named.result c.from_residual-in_err-inner-in-Named.ensures.1 in
    rw (q.1, q.2, c.in-Named.is) (named_refused c.args.view.now.list.now envs p c.args.next.now c.in-Named.name c.in-Named.field-1 c.in-Named.inner _ _ c.in_err-inner-in-Named.field-0.0 c.deref-in-Named.ensures.value c.deref-in-Named-2.ensures.value (c.in_err-inner-in-Named.ensures.answer envs p c.in-Named.field-1.items v))

pub statement-returns-in_err-inner-in-If-clause-answer : goal.statement-returns-in_err-inner-in-If-clause-answer
statement-returns-in_err-inner-in-If-clause-answer t c envs p v =
    let q = err_from_is_err_and c.from_residual-in_err-inner-in-If.result c.from_residual-in_err-inner-in-If.ensures.1 in
    rw (q.1, q.2, c.in-If.is) (then_refused c.args.view.now.list.now envs p c.args.next.now c.in-If.e c.in-If.x c.in-If.other _ c.in_err-inner-in-If.field-0.0 c.deref-in-If.ensures (c.in_err-inner-in-If.ensures.answer envs p v))

pub statement-returns-in_err-other-in-If-clause-answer : goal.statement-returns-in_err-other-in-If-clause-answer
statement-returns-in_err-other-in-If-clause-answer t c envs p v =
    let q = err_from_is_err_and c.from_residual-in_err-other-in-If.result c.from_residual-in_err-other-in-If.ensures.1 in
    rw (q.1, q.2, c.in-If.is) (else_refused c.args.view.now.list.now envs p c.args.next.now _ c.in-If.e c.in-If.x c.in-If.other _ c.in_err-other-in-If.field-0.0 c.deref-in-If.ensures (c.in_ok-inner-in-If.ensures.answer envs p v).1.1.next_is (c.in_err-other-in-If.ensures.answer envs p v))

pub statement-returns-in_err-inner-in-While-clause-answer : goal.statement-returns-in_err-inner-in-While-clause-answer
statement-returns-in_err-inner-in-While-clause-answer t c envs p v =
    let q = err_from_is_err_and c.from_residual-in_err-inner-in-While.result c.from_residual-in_err-inner-in-While.ensures.1 in
    rw (q.1, q.2, c.in-While.is) (while_inner c.args.view.now.list.now envs p c.args.next.now c.in-While.x _ c.deref-in-While.ensures c.in-While.e c.in_err-inner-in-While.field-0.0 (c.in_err-inner-in-While.ensures.answer envs p v))

pub statement-returns-in_err-inner-in-Repeat-clause-answer : goal.statement-returns-in_err-inner-in-Repeat-clause-answer
statement-returns-in_err-inner-in-Repeat-clause-answer t c envs p v =
    let q = err_from_is_err_and c.from_residual-in_err-inner-in-Repeat.result c.from_residual-in_err-inner-in-Repeat.ensures.1 in
    rw (q.1, q.2, c.in-Repeat.is) (repeat_inner c.args.view.now.list.now envs p c.args.next.now c.in-Repeat.x _ c.deref-in-Repeat.ensures c.in-Repeat.e c.in_err-inner-in-Repeat.field-0.0 (c.in_err-inner-in-Repeat.ensures.answer envs p v))

pub statement-returns-in_err-inner-in-Forever-clause-answer : goal.statement-returns-in_err-inner-in-Forever-clause-answer
statement-returns-in_err-inner-in-Forever-clause-answer t c envs p v =
    let q = err_from_is_err_and c.from_residual-in_err-inner-in-Forever.result c.from_residual-in_err-inner-in-Forever.ensures.1 in
    rw (q.1, q.2, c.in-Forever.is) (forever_inner c.args.view.now.list.now envs p c.args.next.now c.in-Forever.x _ c.deref-in-Forever.ensures c.in_err-inner-in-Forever.field-0.0 (c.in_err-inner-in-Forever.ensures.answer envs p v))

pub statement-returns-in_err-inner-in-Delay-clause-answer : goal.statement-returns-in_err-inner-in-Delay-clause-answer
statement-returns-in_err-inner-in-Delay-clause-answer t c envs p v =
    let q = err_from_is_err_and c.from_residual-in_err-inner-in-Delay.result c.from_residual-in_err-inner-in-Delay.ensures.1 in
    rw (q.1, q.2, c.in-Delay.is) (delay_inner c.args.view.now.list.now envs p c.args.next.now c.in-Delay.x _ c.deref-in-Delay.ensures c.in-Delay.value c.in_err-inner-in-Delay.field-0.0 (c.in_err-inner-in-Delay.ensures.answer envs p v))

pub statement-returns-in_err-inner-in-Event-clause-answer : goal.statement-returns-in_err-inner-in-Event-clause-answer
statement-returns-in_err-inner-in-Event-clause-answer t c envs p v =
    let q = err_from_is_err_and c.from_residual-in_err-inner-in-Event.result c.from_residual-in_err-inner-in-Event.ensures.1 in
    rw (q.1, q.2, c.in-Event.is) (event_inner c.args.view.now.list.now envs p c.args.next.now c.in-Event.x _ c.deref-in-Event.ensures c.in-Event.control c.in_err-inner-in-Event.field-0.0 (c.in_err-inner-in-Event.ensures.answer envs p v))

pub statement-returns-in-Case-clause-answer : goal.statement-returns-in-Case-clause-answer
statement-returns-in-Case-clause-answer t c envs p v =
    rw c.in-Case.is (c.case_statement.ensures.answer envs p c.in-Case.all (sym c.deref-in-Case.ensures.value) v)

pub statement-case_statement-requires : goal.statement-case_statement-requires
statement-case_statement-requires t c =
    let same : items_depth c.deref-in-Case.result.now ≡ items_depth c.in-Case.all.items = ap items_depth c.deref-in-Case.ensures.value in
    let whole : size-Stmt c.args.s.now ≡ size-Stmt (s.Case c.in-Case.kind c.in-Case.e c.in-Case.all) = ap size-Stmt c.in-Case.is in
    let below : items_depth c.in-Case.all.items < size-Stmt (s.Case c.in-Case.kind c.in-Case.e c.in-Case.all) = items_falls c.in-Case.kind c.in-Case.e c.in-Case.all in
    (omega arith, (c.requires.placed, in_case c.args.view.now.list.now c.args.view.now.place c.args.s.now c.requires.blocks c.in-Case.kind c.in-Case.e c.in-Case.all c.deref-in-Case.result.now c.in-Case.is c.deref-in-Case.ensures.value))

pub case_statement-returns-in_err-number-clause-answer : goal.case_statement-returns-in_err-number-clause-answer
case_statement-returns-in_err-number-clause-answer t c envs p v same seen =
    let q = err_from_is_err_and c.from_residual.result c.from_residual.ensures.1 in
    rw (q.1, q.2) (case_overfull c.args.view.now.list.now envs p c.args.next.now c.args.kind c.args.e.now v c.in_err-number.field-0.0 c.in_err-number.ensures)

pub case_statement-returns-in_err-shape-clause-answer : goal.case_statement-returns-in_err-shape-clause-answer
case_statement-returns-in_err-shape-clause-answer t c envs p v same seen =
    let q = err_from_is_err_and c.from_residual-in_err-shape.result c.from_residual-in_err-shape.ensures.1 in
    rw (q.1, q.2) (case_refused_by c.args.view.now.list.now envs p c.args.next.now c.args.kind c.args.e.now v _ c.in_err-shape.field-0.0 (sym same) (rw (seen.names, c.deref.ensures) at c.in_err-shape.ensures))

pub case_statement-returns-in_err-done-clause-answer : goal.case_statement-returns-in_err-done-clause-answer
case_statement-returns-in_err-done-clause-answer t c envs p v same seen =
    let q = err_from_is_err_and c.from_residual-in_err-done.result c.from_residual-in_err-done.ensures.1 in
    rw (q.1, q.2) (items_refused c.args.view.now.list.now envs p c.args.next.now _ c.args.kind c.args.e.now v _ c.in_err-done.field-0.0 c.in_ok-number.ensures.1.0 (sym same) (c.in_err-done.ensures.answer envs p seen))

pub case_statement-returns-clause-answer : goal.case_statement-returns-clause-answer
case_statement-returns-clause-answer t c envs p v same seen =
    states_Case c.args.view.now.list.now envs p c.args.next.now c.in_ok-number.number _ _ c.args.kind c.args.e.now v c.in_ok-shape.shape c.in_ok-shape.selector c.in_ok-done.done _ _ c.in_ok-number.ensures (rw (seen.names, c.deref.ensures) at c.in_ok-shape.ensures) (c.in_ok-done.ensures.answer envs p seen) (sym same) (sym same)

pub for_statement-returns-in_err-begin-clause-answer : goal.for_statement-returns-in_err-begin-clause-answer
for_statement-returns-in_err-begin-clause-answer t c envs p v =
    let q = err_from_is_err_and c.from_residual.result c.from_residual.ensures.1 in
    rw (q.1, q.2) (begin_refused c.args.view.now.list.now envs p c.args.next.now c.args.head.now c.args.x.now c.in_err-begin.field-0.0 (rw (c.deref.ensures, c.deref-2.ensures) at (c.in_err-begin.ensures.answer envs p v)))

pub for_statement-returns-in_err-inner-clause-answer : goal.for_statement-returns-in_err-inner-clause-answer
for_statement-returns-in_err-inner-clause-answer t c envs p v =
    let q = err_from_is_err_and c.from_residual-in_err-inner.result c.from_residual-in_err-inner.ensures.1 in
    rw (q.1, q.2) (turn_refused c.args.view.now.list.now envs p c.args.next.now c.args.head.now c.args.x.now _ _ c.in_err-inner.field-0.0 (c.in_ok-begin.ensures.answer envs p v).1.next_is c.deref-3.ensures (c.in_err-inner.ensures.answer envs p v))

pub numbered_body-returns-clause-answer : goal.numbered_body-returns-clause-answer
numbered_body-returns-clause-answer t c envs p v = states_behind c.args.view.now.list.now envs p c.args.next.now c.in_ok-number.number _ _ c.args.s.now c.in_ok-inner.inner c.in_ok-number.ensures (c.in_ok-inner.ensures.answer envs p v)

pub numbered_body-returns-in_err-number-clause-answer : goal.numbered_body-returns-in_err-number-clause-answer
numbered_body-returns-in_err-number-clause-answer t c envs p v =
    let q = err_from_is_err_and c.from_residual.result c.from_residual.ensures.1 in
    rw (q.1, q.2) (behind_overfull c.args.view.now.list.now envs p c.args.next.now c.args.s.now c.in_err-number.field-0.0 c.in_err-number.ensures)

pub numbered_body-returns-in_err-inner-clause-answer : goal.numbered_body-returns-in_err-inner-clause-answer
numbered_body-returns-in_err-inner-clause-answer t c envs p v =
    let q = err_from_is_err_and c.from_residual-in_err-inner.result c.from_residual-in_err-inner.ensures.1 in
    rw (q.1, q.2) (behind_refused c.args.view.now.list.now envs p c.args.next.now _ c.args.s.now c.in_err-inner.field-0.0 c.in_ok-number.ensures.1.0 (c.in_err-inner.ensures.answer envs p v))

pub otherwise-returns-in-Some-clause-answer : goal.otherwise-returns-in-Some-clause-answer
otherwise-returns-in-Some-clause-answer t c envs p v = rw c.in-Some.is (otherwise_some c.args.view.now.list.now envs p c.args.next.now _ c.in-Some.s _ c.statement.result c.deref.ensures (c.statement.ensures.answer envs p v))

pub otherwise-returns-in-None-clause-answer : goal.otherwise-returns-in-None-clause-answer
otherwise-returns-in-None-clause-answer t c envs p v = rw c.in-None.is (otherwise_none c.args.view.now.list.now envs p c.args.next.now c.new.result (omega arith) c.new.ensures.items)

pub statements-loop-s-init : goal.statements-loop-s-init
statements-loop-s-init t c = λ envs p v. stated_none c.args.view.now.list.now envs p c.args.next.now c.in_ok-done.done.items c.in_ok-done.ensures.items

pub statements-returns-in_err-one-clause-answer : goal.statements-returns-in_err-one-clause-answer
statements-returns-in_err-one-clause-answer t c envs p v =
    let q = err_from_is_err_and c.from_residual-in_err-one.result c.from_residual-in_err-one.ensures.1 in
    rw (q.1, q.2) (statement_refused c.args.view.now.list.now envs p c.args.next.now _ c.args.all.now c.loop-s.s-index c.s-item.result c.in_err-one.field-0.0 (omega arith) c.s-item.is (c.loop-s.invariant envs p v).means.next_is (c.in_err-one.ensures.answer envs p v))

pub statements-loop-s-preserved : goal.statements-loop-s-preserved
statements-loop-s-preserved t c = λ envs p v.
    stated_more c.args.view.now.list.now envs p c.args.next.now _ _ c.args.all.now c.loop-s.s-index c.s-item.result _ _ _ (omega arith) c.s-item.is c.in_ok-push.ensures.items (c.loop-s.invariant envs p v) (c.in_ok-one.ensures.answer envs p v)

pub statements-returns-clause-answer : goal.statements-returns-clause-answer
statements-returns-clause-answer t c envs p v = stated_all c.args.view.now.list.now envs p c.args.next.now _ c.args.all.now c.loop-s.s-index _ (omega arith) (omega arith) (c.loop-s.invariant envs p v)

pub items-loop-label-init : goal.items-loop-label-init
items-loop-label-init t c = λ envs p v. listed_none c.args.view.now.list.now envs p c.args.shape c.args.next.now c.in_ok-done.done.items c.in_ok-done.ensures.items

pub items-returns-in_err-values-clause-answer : goal.items-returns-in_err-values-clause-answer
items-returns-in_err-values-clause-answer t c envs p v =
    let q = err_from_is_err_and c.from_residual-in_err-values.result c.from_residual-in_err-values.ensures.1 in
    rw (q.1, q.2) (label_refused c.args.view.now.list.now envs p c.args.next.now c.args.all.now c.loop-label.label-index c.loop-label-item.result c.in_err-values.field-0.0 (omega arith) c.loop-label-item.is (rw v.names at c.in_err-values.ensures))

pub items-returns-in_err-one-clause-answer : goal.items-returns-in_err-one-clause-answer
items-returns-in_err-one-clause-answer t c envs p v =
    let q = err_from_is_err_and c.from_residual-in_err-one.result c.from_residual-in_err-one.ensures.1 in
    rw (q.1, q.2) (item_refused c.args.view.now.list.now envs p c.args.next.now _ c.args.all.now c.loop-label.label-index c.loop-label-item.result c.in_err-one.field-0.0 (omega arith) c.loop-label-item.is (c.loop-label.invariant envs p v).means.next_is (c.in_err-one.ensures.answer envs p v))

pub items-loop-label-preserved : goal.items-loop-label-preserved
items-loop-label-preserved t c = λ envs p v.
    listed_more c.args.view.now.list.now envs p c.args.shape c.args.next.now _ _ c.args.all.now c.loop-label.label-index c.loop-label-item.result _ _ c.in_ok-values.values c.in_ok-one.one (omega arith) c.loop-label-item.is c.in_ok-push.ensures.items (c.loop-label.invariant envs p v) (rw v.names at c.in_ok-values.ensures) (c.in_ok-one.ensures.answer envs p v)

pub items-returns-clause-answer : goal.items-returns-clause-answer
items-returns-clause-answer t c envs p v = listed_all c.args.view.now.list.now envs p c.args.shape c.args.next.now _ c.args.all.now c.loop-label.label-index _ (omega arith) (omega arith) (c.loop-label.invariant envs p v)

pub block-returns-in-Ok-clause-answer : goal.block-returns-in-Ok-clause-answer
block-returns-in-Ok-clause-answer t c envs p locals v =
    let list = c.args.view.now.list.now in
    let here = c.args.view.now.place in
    let place = c.in-Some.place in
    let outer = c.index-list-here.result in
    let inner = c.index-list-place.result in
    let at = got list here outer c.requires.placed.within c.index-list-here.is in
    let found = sym c.in-Some.ensures in
    let placed = placed_inside list here outer c.args.name.now place c.requires.placed at found in
    let path = p ++ plainly c.args.name.now ∷ [] in
    let site = site_inside list envs here p outer c.args.name.now place v.site at found in
    let there = got list place inner placed.within c.index-list-place.is in
    let names = names_at list envs place path inner _ _ site there (rw c.deref.ensures.value at c.new-names.ensures) c.in_ok-around.ensures in
    let ratio = ratio_inside list envs here p outer c.args.name.now place c.args.view.now.ratio.ticks v.site at found v.ratio in
    let x : NamedBlock = record { name = c.args.name.now; locals = locals; statements = c.args.all.now } in
    let q = c.in-Ok.ensures.answer envs path (record { site = site; names = names; ratio = ratio }) in
    (inside_free envs p c.args.next.now x q.0, q.1)

pub block-returns-clause-answer : goal.block-returns-clause-answer
block-returns-clause-answer t c envs p locals v =
    let list = c.args.view.now.list.now in
    let here = c.args.view.now.place in
    let place = c.in-Some.place in
    let outer = c.index-list-here.result in
    let inner = c.index-list-place.result in
    let at = got list here outer c.requires.placed.within c.index-list-here.is in
    let found = sym c.in-Some.ensures in
    let placed = placed_inside list here outer c.args.name.now place c.requires.placed at found in
    let path = p ++ plainly c.args.name.now ∷ [] in
    let site = site_inside list envs here p outer c.args.name.now place v.site at found in
    let there = got list place inner placed.within c.index-list-place.is in
    let names = names_at list envs place path inner _ _ site there (rw c.deref.ensures.value at c.new-names.ensures) c.in_ok-around.ensures in
    let ratio = ratio_inside list envs here p outer c.args.name.now place c.args.view.now.ratio.ticks v.site at found v.ratio in
    let x : NamedBlock = record { name = c.args.name.now; locals = locals; statements = c.args.all.now } in
    let q = c.in-Err.ensures.answer envs path (record { site = site; names = names; ratio = ratio }) in
    rw c.deeper.ensures (inside_fails list envs p c.args.next.now place x c.in-Err.fault site q)

pub block-returns-clause-below : goal.block-returns-clause-below
block-returns-clause-below t c =
    let list = c.args.view.now.list.now in
    let here = c.args.view.now.place in
    let place = c.in-Some.place in
    let outer = c.index-list-here.result in
    let inner = c.index-list-place.result in
    let at = got list here outer c.requires.placed.within c.index-list-here.is in
    let found = sym c.in-Some.ensures in
    let placed = placed_inside list here outer c.args.name.now place c.requires.placed at found in
    rw c.deeper.ensures (below_deeper (length list) place c.in-Err.fault placed.within c.in-Err.ensures.below)

pub items-statement-requires : goal.items-statement-requires
items-statement-requires t c =
    let below = item_within c.args.all.now c.loop-label.label-index c.loop-label-item.result (omega arith) c.loop-label-item.is in
    let at = got c.args.all.now c.loop-label.label-index c.loop-label-item.result (omega arith) c.loop-label-item.is in
    (omega arith, (c.requires.placed, have_at c.args.view.now.list.now c.args.view.now.place (λ (x : CaseLabel × Stmt). blocks_in x.1) c.args.all.now c.loop-label.label-index c.loop-label-item.result c.requires.blocks at))

pub statement-returns-in-For-clause-answer : goal.statement-returns-in-For-clause-answer
statement-returns-in-For-clause-answer t c envs p v = rw c.in-For.is (c.for_statement.ensures.answer envs p v)

pub statement-returns-in_ok-inner-in-While-clause-answer : goal.statement-returns-in_ok-inner-in-While-clause-answer
statement-returns-in_ok-inner-in-While-clause-answer t c envs p v =
    rw c.in-While.is (c.while_around.ensures.answer envs p c.args.next.now _ c.in-While.x v (rw c.deref-in-While.ensures at (c.in_ok-inner-in-While.ensures.answer envs p v)))

pub statement-returns-in_ok-inner-in-Repeat-clause-answer : goal.statement-returns-in_ok-inner-in-Repeat-clause-answer
statement-returns-in_ok-inner-in-Repeat-clause-answer t c envs p v =
    rw c.in-Repeat.is (c.repeat_around.ensures.answer envs p c.args.next.now _ c.in-Repeat.x v (rw c.deref-in-Repeat.ensures at (c.in_ok-inner-in-Repeat.ensures.answer envs p v)))

pub statement-returns-in_ok-inner-in-Delay-clause-answer : goal.statement-returns-in_ok-inner-in-Delay-clause-answer
statement-returns-in_ok-inner-in-Delay-clause-answer t c envs p v =
    rw c.in-Delay.is (c.delay_around.ensures.answer envs p c.args.next.now _ c.in-Delay.x v (rw c.deref-in-Delay.ensures at (c.in_ok-inner-in-Delay.ensures.answer envs p v)))

pub statement-returns-in_ok-inner-in-Event-clause-answer : goal.statement-returns-in_ok-inner-in-Event-clause-answer
statement-returns-in_ok-inner-in-Event-clause-answer t c envs p v =
    rw c.in-Event.is (c.event_around.ensures.answer envs p c.args.next.now _ c.in-Event.x v (rw c.deref-in-Event.ensures at (c.in_ok-inner-in-Event.ensures.answer envs p v)))

pub statement-returns-in_ok-inner-in-Forever-clause-answer : goal.statement-returns-in_ok-inner-in-Forever-clause-answer
statement-returns-in_ok-inner-in-Forever-clause-answer t c envs p v =
    rw c.in-Forever.is (c.forever_around.ensures.answer c.args.view.now.list.now envs p c.args.next.now _ c.in-Forever.x (rw c.deref-in-Forever.ensures at (c.in_ok-inner-in-Forever.ensures.answer envs p v)))

pub statement-returns-in_ok-other-in-If-clause-answer : goal.statement-returns-in_ok-other-in-If-clause-answer
statement-returns-in_ok-other-in-If-clause-answer t c envs p v =
    rw c.in-If.is (c.if_around.ensures.answer envs p c.args.next.now _ _ c.in-If.x c.in-If.other v (rw c.deref-in-If.ensures at (c.in_ok-inner-in-If.ensures.answer envs p v)) (c.in_ok-other-in-If.ensures.answer envs p v))

pub statement-returns-in-Assign-clause-answer : goal.statement-returns-in-Assign-clause-answer
statement-returns-in-Assign-clause-answer t c envs p v = rw c.in-Assign.is (c.assign.ensures.answer envs p v)

pub statement-returns-in-Null-clause-answer : goal.statement-returns-in-Null-clause-answer
statement-returns-in-Null-clause-answer t c envs p v = rw c.in-Null.is (null_answers c.args.view.now.list.now envs p c.args.next.now _ c.null.result c.null.ensures)

pub statement-returns-in-Null-clause-below : goal.statement-returns-in-Null-clause-below
statement-returns-in-Null-clause-below t c = none_below (length c.args.view.now.list.now) c.args.next.now _ c.null.result c.null.ensures

pub statement-returns-in-Finish-clause-answer : goal.statement-returns-in-Finish-clause-answer
statement-returns-in-Finish-clause-answer t c envs p v = rw c.in-Finish.is (finish_answers c.args.view.now.list.now envs p c.args.next.now _ c.in-Finish.field-0 c.finish.result c.finish.ensures)

pub statement-returns-in-Finish-clause-below : goal.statement-returns-in-Finish-clause-below
statement-returns-in-Finish-clause-below t c = none_below (length c.args.view.now.list.now) c.args.next.now _ c.finish.result c.finish.ensures

pub statement-returns-in-Dump-clause-answer : goal.statement-returns-in-Dump-clause-answer
statement-returns-in-Dump-clause-answer t c envs p v = rw c.in-Dump.is (dump_answers c.args.view.now.list.now envs p c.args.next.now _ c.in-Dump.field-0 c.in-Dump.field-1 c.null-in-Dump.result c.null-in-Dump.ensures)

pub statement-returns-in-Dump-clause-below : goal.statement-returns-in-Dump-clause-below
statement-returns-in-Dump-clause-below t c = none_below (length c.args.view.now.list.now) c.args.next.now _ c.null-in-Dump.result c.null-in-Dump.ensures

pub for_statement-returns-clause-answer : goal.for_statement-returns-clause-answer
for_statement-returns-clause-answer t c envs p v =
    c.for_around.ensures.answer envs p c.args.next.now _ c.args.x.now v (rw (c.deref.ensures, c.deref-2.ensures) at (c.in_ok-begin.ensures.answer envs p v)) (rw c.deref-3.ensures at (c.in_ok-inner.ensures.answer envs p v))

pub statement-returns-in-Later-clause-below : goal.statement-returns-in-Later-clause-below
statement-returns-in-Later-clause-below t c = c.later.ensures.below

pub statement-returns-in-Print-clause-below : goal.statement-returns-in-Print-clause-below
statement-returns-in-Print-clause-below t c = c.print.ensures.below

pub statement-returns-in_ok-inner-in-Block-clause-below : goal.statement-returns-in_ok-inner-in-Block-clause-below
statement-returns-in_ok-inner-in-Block-clause-below t c = tt

pub statement-returns-in_err-inner-in-Block-clause-below : goal.statement-returns-in_err-inner-in-Block-clause-below
statement-returns-in_err-inner-in-Block-clause-below t c =
    let q = err_from_is_err_and c.from_residual.result c.from_residual.ensures.1 in
    rw (q.1, q.2) c.in_err-inner-in-Block.ensures.below

pub statement-returns-in_ok-inner-in-Named-clause-below : goal.statement-returns-in_ok-inner-in-Named-clause-below
statement-returns-in_ok-inner-in-Named-clause-below t c = tt

pub statement-returns-in_err-inner-in-Named-clause-below : goal.statement-returns-in_err-inner-in-Named-clause-below
statement-returns-in_err-inner-in-Named-clause-below t c =
    let q = err_from_is_err_and c.from_residual-in_err-inner-in-Named.result c.from_residual-in_err-inner-in-Named.ensures.1 in
    rw (q.1, q.2) c.in_err-inner-in-Named.ensures.below

pub statement-returns-in_err-inner-in-If-clause-below : goal.statement-returns-in_err-inner-in-If-clause-below
statement-returns-in_err-inner-in-If-clause-below t c =
    let q = err_from_is_err_and c.from_residual-in_err-inner-in-If.result c.from_residual-in_err-inner-in-If.ensures.1 in
    rw (q.1, q.2) c.in_err-inner-in-If.ensures.below

pub statement-returns-in_err-other-in-If-clause-below : goal.statement-returns-in_err-other-in-If-clause-below
statement-returns-in_err-other-in-If-clause-below t c =
    let q = err_from_is_err_and c.from_residual-in_err-other-in-If.result c.from_residual-in_err-other-in-If.ensures.1 in
    rw (q.1, q.2) c.in_err-other-in-If.ensures.below

pub statement-returns-in_err-inner-in-While-clause-below : goal.statement-returns-in_err-inner-in-While-clause-below
statement-returns-in_err-inner-in-While-clause-below t c =
    let q = err_from_is_err_and c.from_residual-in_err-inner-in-While.result c.from_residual-in_err-inner-in-While.ensures.1 in
    rw (q.1, q.2) c.in_err-inner-in-While.ensures.below

pub statement-returns-in_err-inner-in-Repeat-clause-below : goal.statement-returns-in_err-inner-in-Repeat-clause-below
statement-returns-in_err-inner-in-Repeat-clause-below t c =
    let q = err_from_is_err_and c.from_residual-in_err-inner-in-Repeat.result c.from_residual-in_err-inner-in-Repeat.ensures.1 in
    rw (q.1, q.2) c.in_err-inner-in-Repeat.ensures.below

pub statement-returns-in_err-inner-in-Forever-clause-below : goal.statement-returns-in_err-inner-in-Forever-clause-below
statement-returns-in_err-inner-in-Forever-clause-below t c =
    let q = err_from_is_err_and c.from_residual-in_err-inner-in-Forever.result c.from_residual-in_err-inner-in-Forever.ensures.1 in
    rw (q.1, q.2) c.in_err-inner-in-Forever.ensures.below

pub statement-returns-in_err-inner-in-Delay-clause-below : goal.statement-returns-in_err-inner-in-Delay-clause-below
statement-returns-in_err-inner-in-Delay-clause-below t c =
    let q = err_from_is_err_and c.from_residual-in_err-inner-in-Delay.result c.from_residual-in_err-inner-in-Delay.ensures.1 in
    rw (q.1, q.2) c.in_err-inner-in-Delay.ensures.below

pub statement-returns-in_err-inner-in-Event-clause-below : goal.statement-returns-in_err-inner-in-Event-clause-below
statement-returns-in_err-inner-in-Event-clause-below t c =
    let q = err_from_is_err_and c.from_residual-in_err-inner-in-Event.result c.from_residual-in_err-inner-in-Event.ensures.1 in
    rw (q.1, q.2) c.in_err-inner-in-Event.ensures.below

pub statement-returns-in-Case-clause-below : goal.statement-returns-in-Case-clause-below
statement-returns-in-Case-clause-below t c = c.case_statement.ensures.below

pub case_statement-returns-in_err-number-clause-below : goal.case_statement-returns-in_err-number-clause-below
case_statement-returns-in_err-number-clause-below t c =
    let q = err_from_is_err_and c.from_residual.result c.from_residual.ensures.1 in
    rw (q.1, q.2) (overfull_below (length c.args.view.now.list.now) c.args.next.now c.in_err-number.field-0.0 c.in_err-number.ensures)

pub case_statement-returns-in_err-shape-clause-below : goal.case_statement-returns-in_err-shape-clause-below
case_statement-returns-in_err-shape-clause-below t c =
    let q = err_from_is_err_and c.from_residual-in_err-shape.result c.from_residual-in_err-shape.ensures.1 in
    rw (q.1, q.2) (refused_below (length c.args.view.now.list.now) c.in_err-shape.field-0.0)

pub case_statement-returns-in_err-done-clause-below : goal.case_statement-returns-in_err-done-clause-below
case_statement-returns-in_err-done-clause-below t c =
    let q = err_from_is_err_and c.from_residual-in_err-done.result c.from_residual-in_err-done.ensures.1 in
    rw (q.1, q.2) c.in_err-done.ensures.below

pub case_statement-returns-clause-below : goal.case_statement-returns-clause-below
case_statement-returns-clause-below t c = tt

pub for_statement-returns-in_err-begin-clause-below : goal.for_statement-returns-in_err-begin-clause-below
for_statement-returns-in_err-begin-clause-below t c =
    let q = err_from_is_err_and c.from_residual.result c.from_residual.ensures.1 in
    rw (q.1, q.2) c.in_err-begin.ensures.below

pub for_statement-returns-in_err-inner-clause-below : goal.for_statement-returns-in_err-inner-clause-below
for_statement-returns-in_err-inner-clause-below t c =
    let q = err_from_is_err_and c.from_residual-in_err-inner.result c.from_residual-in_err-inner.ensures.1 in
    rw (q.1, q.2) c.in_err-inner.ensures.below

pub numbered_body-returns-clause-below : goal.numbered_body-returns-clause-below
numbered_body-returns-clause-below t c = tt

pub numbered_body-returns-in_err-number-clause-below : goal.numbered_body-returns-in_err-number-clause-below
numbered_body-returns-in_err-number-clause-below t c =
    let q = err_from_is_err_and c.from_residual.result c.from_residual.ensures.1 in
    rw (q.1, q.2) (overfull_below (length c.args.view.now.list.now) c.args.next.now c.in_err-number.field-0.0 c.in_err-number.ensures)

pub numbered_body-returns-in_err-inner-clause-below : goal.numbered_body-returns-in_err-inner-clause-below
numbered_body-returns-in_err-inner-clause-below t c =
    let q = err_from_is_err_and c.from_residual-in_err-inner.result c.from_residual-in_err-inner.ensures.1 in
    rw (q.1, q.2) c.in_err-inner.ensures.below

pub otherwise-returns-in-Some-clause-below : goal.otherwise-returns-in-Some-clause-below
otherwise-returns-in-Some-clause-below t c = c.statement.ensures.below

pub otherwise-returns-in-None-clause-below : goal.otherwise-returns-in-None-clause-below
otherwise-returns-in-None-clause-below t c = tt

pub statements-returns-in_err-one-clause-below : goal.statements-returns-in_err-one-clause-below
statements-returns-in_err-one-clause-below t c =
    let q = err_from_is_err_and c.from_residual-in_err-one.result c.from_residual-in_err-one.ensures.1 in
    rw (q.1, q.2) c.in_err-one.ensures.below

pub statements-returns-clause-below : goal.statements-returns-clause-below
statements-returns-clause-below t c = tt

pub items-returns-in_err-values-clause-below : goal.items-returns-in_err-values-clause-below
items-returns-in_err-values-clause-below t c =
    let q = err_from_is_err_and c.from_residual-in_err-values.result c.from_residual-in_err-values.ensures.1 in
    rw (q.1, q.2) (refused_below (length c.args.view.now.list.now) c.in_err-values.field-0.0)

pub items-returns-in_err-one-clause-below : goal.items-returns-in_err-one-clause-below
items-returns-in_err-one-clause-below t c =
    let q = err_from_is_err_and c.from_residual-in_err-one.result c.from_residual-in_err-one.ensures.1 in
    rw (q.1, q.2) c.in_err-one.ensures.below

pub items-returns-clause-below : goal.items-returns-clause-below
items-returns-clause-below t c = tt

pub block-returns-in-Ok-clause-below : goal.block-returns-in-Ok-clause-below
block-returns-in-Ok-clause-below t c = tt

pub statement-returns-in-For-clause-below : goal.statement-returns-in-For-clause-below
statement-returns-in-For-clause-below t c = c.for_statement.ensures.below

pub statement-returns-in_ok-inner-in-While-clause-below : goal.statement-returns-in_ok-inner-in-While-clause-below
statement-returns-in_ok-inner-in-While-clause-below t c = c.while_around.ensures.below

pub statement-returns-in_ok-inner-in-Repeat-clause-below : goal.statement-returns-in_ok-inner-in-Repeat-clause-below
statement-returns-in_ok-inner-in-Repeat-clause-below t c = c.repeat_around.ensures.below

pub statement-returns-in_ok-inner-in-Delay-clause-below : goal.statement-returns-in_ok-inner-in-Delay-clause-below
statement-returns-in_ok-inner-in-Delay-clause-below t c = c.delay_around.ensures.below

pub statement-returns-in_ok-inner-in-Event-clause-below : goal.statement-returns-in_ok-inner-in-Event-clause-below
statement-returns-in_ok-inner-in-Event-clause-below t c = c.event_around.ensures.below

pub statement-returns-in_ok-inner-in-Forever-clause-below : goal.statement-returns-in_ok-inner-in-Forever-clause-below
statement-returns-in_ok-inner-in-Forever-clause-below t c = c.forever_around.ensures.below (length c.args.view.now.list.now)

pub statement-returns-in_ok-other-in-If-clause-below : goal.statement-returns-in_ok-other-in-If-clause-below
statement-returns-in_ok-other-in-If-clause-below t c = c.if_around.ensures.below

pub statement-returns-in-Assign-clause-below : goal.statement-returns-in-Assign-clause-below
statement-returns-in-Assign-clause-below t c = c.assign.ensures.below

pub for_statement-returns-clause-below : goal.for_statement-returns-clause-below
for_statement-returns-clause-below t c = c.for_around.ensures.below

-- ---- named blocks have their scopes

pub statement-statements-requires : goal.statement-statements-requires
statement-statements-requires t c =
    (search (rules, the_lemmas), (c.requires.placed, in_block c.args.view.now.list.now c.args.view.now.place c.args.s.now c.requires.blocks c.in-Block.inner c.deref.result.now c.in-Block.is c.deref.ensures.value))

pub statement-block-requires : goal.statement-block-requires
statement-block-requires t c = (
  search (rules, the_lemmas),
  (
    c.requires.placed,
    in_named c.args.view.now.list.now c.args.view.now.place c.args.s.now c.requires.blocks c.in-Named.name c.in-Named.field-1 c.in-Named.inner c.deref-in-Named.result.now c.deref-in-Named-2.result.now c.in-Named.is c.deref-in-Named.ensures.value c.deref-in-Named-2.ensures.value,
  ),
)

pub statement-numbered_body-requires : goal.statement-numbered_body-requires
statement-numbered_body-requires t c =
    (search (rules, the_lemmas), (c.requires.placed, in_then c.args.view.now.list.now c.args.view.now.place c.args.s.now c.requires.blocks c.in-If.e c.in-If.x c.in-If.other c.deref-in-If.result.now c.in-If.is c.deref-in-If.ensures))

pub statement-otherwise-requires : goal.statement-otherwise-requires
statement-otherwise-requires t c =
    (search (rules, the_lemmas), (c.requires.placed, in_else c.args.view.now.list.now c.args.view.now.place c.args.s.now c.requires.blocks c.in-If.e c.in-If.x c.in-If.other c.in-If.is))

pub statement-for_statement-requires : goal.statement-for_statement-requires
statement-for_statement-requires t c =
    (search (rules, the_lemmas), (c.requires.placed, in_around c.args.view.now.list.now c.args.view.now.place c.args.s.now c.requires.blocks (s.For c.in-For.head c.in-For.x) c.in-For.x.value c.in-For.x.value c.in-For.is (blocks_For c.in-For.head c.in-For.x) refl))

pub statement-numbered_body-requires-in-While : goal.statement-numbered_body-requires-in-While
statement-numbered_body-requires-in-While t c =
    (search (rules, the_lemmas), (c.requires.placed, in_around c.args.view.now.list.now c.args.view.now.place c.args.s.now c.requires.blocks (s.While c.in-While.e c.in-While.x) c.in-While.x.value c.deref-in-While.result.now c.in-While.is (blocks_While c.in-While.e c.in-While.x) c.deref-in-While.ensures))

pub statement-numbered_body-requires-in-Repeat : goal.statement-numbered_body-requires-in-Repeat
statement-numbered_body-requires-in-Repeat t c =
    (search (rules, the_lemmas), (c.requires.placed, in_around c.args.view.now.list.now c.args.view.now.place c.args.s.now c.requires.blocks (s.Repeat c.in-Repeat.e c.in-Repeat.x) c.in-Repeat.x.value c.deref-in-Repeat.result.now c.in-Repeat.is (blocks_Repeat c.in-Repeat.e c.in-Repeat.x) c.deref-in-Repeat.ensures))

pub statement-numbered_body-requires-in-Forever : goal.statement-numbered_body-requires-in-Forever
statement-numbered_body-requires-in-Forever t c =
    (search (rules, the_lemmas), (c.requires.placed, in_around c.args.view.now.list.now c.args.view.now.place c.args.s.now c.requires.blocks (s.Forever c.in-Forever.x) c.in-Forever.x.value c.deref-in-Forever.result.now c.in-Forever.is (blocks_Forever c.in-Forever.x) c.deref-in-Forever.ensures))

pub statement-numbered_body-requires-in-Delay : goal.statement-numbered_body-requires-in-Delay
statement-numbered_body-requires-in-Delay t c =
    (search (rules, the_lemmas), (c.requires.placed, in_around c.args.view.now.list.now c.args.view.now.place c.args.s.now c.requires.blocks (s.Delay c.in-Delay.value c.in-Delay.x) c.in-Delay.x.value c.deref-in-Delay.result.now c.in-Delay.is (blocks_Delay c.in-Delay.value c.in-Delay.x) c.deref-in-Delay.ensures))

pub statement-numbered_body-requires-in-Event : goal.statement-numbered_body-requires-in-Event
statement-numbered_body-requires-in-Event t c =
    (search (rules, the_lemmas), (c.requires.placed, in_around c.args.view.now.list.now c.args.view.now.place c.args.s.now c.requires.blocks (s.Event c.in-Event.control c.in-Event.x) c.in-Event.x.value c.deref-in-Event.result.now c.in-Event.is (blocks_Event c.in-Event.control c.in-Event.x) c.deref-in-Event.ensures))

pub statements-statement-requires : goal.statements-statement-requires
statements-statement-requires t c =
    let at = got c.args.all.now c.loop-s.s-index c.s-item.result (omega arith) c.s-item.is in
    let small = stmt_within c.args.all.now c.loop-s.s-index c.s-item.result (omega arith) c.s-item.is in
    (first_of (omega (arith, small, c.decreases), search (rules, the_lemmas)), (c.requires.placed, have_at c.args.view.now.list.now c.args.view.now.place blocks_in c.args.all.now c.loop-s.s-index c.s-item.result c.requires.blocks at))

pub block-unreachable-requires : goal.block-unreachable-requires
block-unreachable-requires t c =
    let list = c.args.view.now.list.now in
    let here = c.args.view.now.place in
    let there = has_place list here c.args.name.now c.args.all.now c.index-list-here.result c.requires.blocks (got list here c.index-list-here.result c.requires.placed.within c.index-list-here.is) in
    c.in_default.not-Some there.0 (c.find.ensures ∙ there.1)

pub block-statements-requires : goal.block-statements-requires
block-statements-requires t c =
    let list = c.args.view.now.list.now in
    let here = c.args.view.now.place in
    let place = c.in-Some.place in
    let outer = c.index-list-here.result in
    let at = got list here outer c.requires.placed.within c.index-list-here.is in
    let found = sym c.in-Some.ensures in
    (first_of (search rules, grind (arith, common_steps)), (placed_inside list here outer c.args.name.now place c.requires.placed at found, has_inside list here c.args.name.now c.args.all.now outer place c.requires.blocks at found))

pub otherwise-statement-requires : goal.otherwise-statement-requires
otherwise-statement-requires t c =
    (first_of (search rules, grind (arith, common_steps)), (c.requires.placed, in_other c.args.view.now.list.now c.args.view.now.place c.args.other.now c.in-Some.s c.deref.result.now c.in-Some.is c.deref.ensures c.requires.blocks))

pub for_statement-numbered_body-requires : goal.for_statement-numbered_body-requires
for_statement-numbered_body-requires t c =
    (first_of (search rules, grind (arith, common_steps)), (c.requires.placed, subst (λ z. HaveScopes c.args.view.now.list.now c.args.view.now.place (blocks_in z)) (sym c.deref-3.ensures) c.requires.blocks))
