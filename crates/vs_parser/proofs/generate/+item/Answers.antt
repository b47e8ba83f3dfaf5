use Rattle.std.proofs.Common.{refl, arith}
use Rattle.std.proofs.lemmas.Result.{err_from_is_err_and}
use Rattle.vs_syntax.specs.vs_lexer.specs.declared.token.Word.TheVariants as w
use Rattle.vs_syntax.specs.Grammar.{many, part, word, guarded, generate_loop, generate_branches, block_name, a_generate_block, an_item}
use Rattle.vs_syntax.specs.Views.{module_item_tree}
use Rattle.vs_syntax.specs.Reading.{stuck_here, stuck_first, stuck_second}
use Rattle.vs_syntax.proofs.Gets.{gets_seq, gets_stop, gets_absent}
use Rattle.vs_parser.specs.vs_parse_expressions.specs.Answers.{seen}
use Rattle.vs_parser.specs.vs_parse_expressions.proofs.Exits.{fails_by}
use Rattle.vs_parser.specs.vs_parse_expressions.proofs.Rows.{along_start, along_push, shorter, all_read}
use Rattle.std.specs.Prelude.{Err}
use Rattle.vs_parser.specs.vs_parse_expressions.specs.declared.reading.ReadFault.TheVariants as stop
use Rattle.vs_parser.specs.declared.items_head.ItemHead.TheVariants as i
use Rattle.vs_parser.specs.Generated.{block_rest}
use Rattle.vs_parser.proofs.ItemsHeads.{item_goes, item_deep, begins_of, need_of}
use Rattle.vs_parser.proofs.ItemsHeads as items
use Rattle.vs_parser.proofs.Generated.{construct_is, row_stuck, region_rest, otherwise, else_stuck, else_read, null_read, block_answers, item_answers}
use Rattle.vs_parser.proofs.Trees.{tree_Region, tree_For, tree_If, tree_Null, tree_Block}
use Rattle.vs_parser.proofs.generate.+item.Goals as goal

pub item-returns-then-depth-least_item : goal.item-returns-then-depth-least_item
item-returns-then-depth-least_item t c = item_deep c.args.depth _ _ c.args.head c.requires (omega (arith, c.least_item.ensures))

pub item-returns-in-Plain : goal.item-returns-in-Plain
item-returns-in-Plain t c = items.item_answers c.args.depth _ c.args.after.now (i.Plain c.in-Plain.plain) _ (begins_of _ _ _ _ c.in-Plain.is c.requires) (need_of _ _ _ c.args.depth c.in-Plain.is c.least_item.ensures (omega arith)) c.plain_item.ensures

pub item-returns-in-Region : goal.item-returns-in-Region
item-returns-in-Region t c =
    items.item_answers c.args.depth _ c.args.after.now (i.Generate c.in-Generate.word) _ (begins_of _ _ _ _ c.in-Generate.is c.requires) (need_of _ _ _ c.args.depth c.in-Generate.is c.least_item.ensures (omega arith))
    (construct_is _ _ _ _ _ c.in-Region.is c.region.ensures)

pub item-returns-in-For : goal.item-returns-in-For
item-returns-in-For t c =
    items.item_answers c.args.depth _ c.args.after.now (i.Generate c.in-Generate.word) _ (begins_of _ _ _ _ c.in-Generate.is c.requires) (need_of _ _ _ c.args.depth c.in-Generate.is c.least_item.ensures (omega arith))
    (construct_is _ _ _ _ _ c.in-For.is c.generate_for.ensures)

pub item-returns-in-If : goal.item-returns-in-If
item-returns-in-If t c =
    items.item_answers c.args.depth _ c.args.after.now (i.Generate c.in-Generate.word) _ (begins_of _ _ _ _ c.in-Generate.is c.requires) (need_of _ _ _ c.args.depth c.in-Generate.is c.least_item.ensures (omega arith))
    (construct_is _ _ _ _ _ c.in-If.is c.generate_if.ensures)

pub items-loop-head-init : goal.items-loop-head-init
items-loop-head-init t c = record {
  along = along_start (part an_item) c.args.depth c.args.tokens.now _ module_item_tree _ c.split_at.ensures.back c.new-tree.ensures.items;
}

pub items-returns-in_err-inner : goal.items-returns-in_err-inner
items-returns-in_err-inner t c =
    let p = err_from_is_err_and c.from_residual.result c.from_residual.ensures.1 in
    rw (p.1, p.2) (fails_by (part an_item) (many (part an_item)) c.args.depth c.args.depth (seen c.loop-head.rest.now) (seen c.args.tokens.now)
    (λ deep at s. c.loop-head.invariant.along.stops deep at (row_stuck c.args.depth deep _ at (item_goes _ _ c.in-Some.head c.in-Some.ensures) s))
    c.in_err-inner.field-0.0 c.in_err-inner.ensures)

pub items-loop-head-smaller : goal.items-loop-head-smaller
items-loop-head-smaller t c = shorter (part an_item) c.args.depth (seen c.loop-head.rest.now) (seen c.in_ok-inner.inner.rest.now) _ (item_goes _ _ c.in-Some.head c.in-Some.ensures) c.in_ok-inner.ensures

pub items-loop-head-preserved : goal.items-loop-head-preserved
items-loop-head-preserved t c = record {
  along = along_push (part an_item) c.args.depth _ _ _ module_item_tree _ _ _ c.in_ok-push.ensures.items c.loop-head.invariant.along (item_goes _ _ c.in-Some.head c.in-Some.ensures) c.in_ok-inner.ensures;
}

pub items-returns : goal.items-returns
items-returns t c = all_read (part an_item) c.args.depth _ _ _ _ c.loop-head.invariant.along (gets_stop c.in_default.ensures)

pub region-returns-in_err-inner : goal.region-returns-in_err-inner
region-returns-in_err-inner t c =
    let p = err_from_is_err_and c.from_residual.result c.from_residual.ensures.1 in
    rw (p.1, p.2) (fails_by (many (part an_item)) region_rest c.args.depth c.args.depth (seen c.args.tokens.now) (seen c.args.tokens.now)
    (λ deep at s. stuck_first s)
    c.in_err-inner.field-0.0 c.in_err-inner.ensures)

pub region-returns-in_err-rest : goal.region-returns-in_err-rest
region-returns-in_err-rest t c =
    let p = err_from_is_err_and c.from_residual-in_err-rest.result c.from_residual-in_err-rest.ensures.1 in
    rw (p.1, p.2) (fails_by (word w.Endgenerate) region_rest c.args.depth c.args.depth (seen c.in_ok-inner.inner.rest.now) (seen c.args.tokens.now)
    (λ deep at s. stuck_second c.in_ok-inner.ensures s)
    c.in_err-rest.field-0.0 (c.in_err-rest.ensures c.args.depth))

pub region-returns : goal.region-returns
region-returns t c = record { inner = _; whole = tree_Region _; gets = gets_seq c.in_ok-inner.ensures (c.in_ok-rest.ensures c.args.depth) }

pub generate_for-returns-in_err-header : goal.generate_for-returns-in_err-header
generate_for-returns-in_err-header t c =
    let p = err_from_is_err_and c.from_residual.result c.from_residual.ensures.1 in
    rw (p.1, p.2) (c.in_err-header.ensures)

pub generate_for-returns-in_err-inner : goal.generate_for-returns-in_err-inner
generate_for-returns-in_err-inner t c =
    let p = err_from_is_err_and c.from_residual-in_err-inner.result c.from_residual-in_err-inner.ensures.1 in
    rw (p.1, p.2) (fails_by (part a_generate_block) generate_loop c.args.depth c.args.depth (seen c.in_ok-header.header.rest.now) (seen c.args.tokens.now)
    (λ deep at s. c.in_ok-header.ensures.stops deep at s)
    c.in_err-inner.field-0.0 c.in_err-inner.ensures)

pub generate_for-returns : goal.generate_for-returns
generate_for-returns t c = record { inner = _; whole = tree_For _ _; gets = c.in_ok-header.ensures.reads _ _ c.in_ok-inner.ensures }

pub generate_if-returns-in_err-condition : goal.generate_if-returns-in_err-condition
generate_if-returns-in_err-condition t c =
    let p = err_from_is_err_and c.from_residual.result c.from_residual.ensures.1 in
    rw (p.1, p.2) (c.in_err-condition.ensures generate_branches)

pub generate_if-returns-in_err-inner : goal.generate_if-returns-in_err-inner
generate_if-returns-in_err-inner t c =
    let p = err_from_is_err_and c.from_residual-in_err-inner.result c.from_residual-in_err-inner.ensures.1 in
    rw (p.1, p.2) (fails_by (part a_generate_block) (guarded generate_branches) c.args.depth c.args.depth (seen c.in_ok-condition.condition.rest.now) (seen c.args.tokens.now)
    (λ deep at s. (c.in_ok-condition.ensures generate_branches).stops deep at (stuck_first s))
    c.in_err-inner.field-0.0 c.in_err-inner.ensures)

pub generate_if-returns-in_err-other : goal.generate_if-returns-in_err-other
generate_if-returns-in_err-other t c =
    let p = err_from_is_err_and c.from_residual-in_err-other.result c.from_residual-in_err-other.ensures.1 in
    rw (p.1, p.2) (fails_by otherwise (guarded generate_branches) c.args.depth c.args.depth (seen c.in_ok-inner.inner.rest.now) (seen c.args.tokens.now)
    (λ deep at s. (c.in_ok-condition.ensures generate_branches).stops deep at (stuck_second c.in_ok-inner.ensures s))
    c.in_err-other.field-0.0 c.in_err-other.ensures)

pub generate_if-returns : goal.generate_if-returns
generate_if-returns t c = record { inner = _; whole = tree_If _ _ _; gets = (c.in_ok-condition.ensures generate_branches).reads _ _ (gets_seq c.in_ok-inner.ensures c.in_ok-other.ensures) }

pub alternative-returns-in_default : goal.alternative-returns-in_default
alternative-returns-in_default t c = gets_absent c.in_default.ensures

pub alternative-returns-in_err-inner : goal.alternative-returns-in_err-inner
alternative-returns-in_err-inner t c =
    let p = err_from_is_err_and c.from_residual.result c.from_residual.ensures.1 in
    rw (p.1, p.2) (fails_by (part a_generate_block) otherwise c.args.depth c.args.depth (seen c.in-Some.after.now) (seen c.args.tokens.now)
    (λ deep at s. else_stuck c.args.depth deep _ _ at c.in-Some.ensures s)
    c.in_err-inner.field-0.0 c.in_err-inner.ensures)

pub alternative-returns : goal.alternative-returns
alternative-returns t c = else_read c.args.depth _ _ _ _ c.in-Some.ensures c.in_ok-inner.ensures

pub boxed-returns-in_err-inner : goal.boxed-returns-in_err-inner
boxed-returns-in_err-inner t c =
    let p = err_from_is_err_and c.from_residual.result c.from_residual.ensures.1 in
    rw (p.1, p.2) (c.in_err-inner.ensures)

pub boxed-returns : goal.boxed-returns
boxed-returns t c = rw (c.in_ok-tree.ensures.ok) c.in_ok-inner.ensures

pub generated-returns-in-Some : goal.generated-returns-in-Some
generated-returns-in-Some t c = rw tree_Null (null_read c.args.depth _ _ c.in-Some.ensures)

pub generated-returns-in-Some-word_at : goal.generated-returns-in-Some-word_at
generated-returns-in-Some-word_at t c = block_answers c.args.depth _ _ _ c.in-Some-word_at.ensures c.block.ensures

pub generated-returns-in-Some-item_head : goal.generated-returns-in-Some-item_head
generated-returns-in-Some-item_head t c = item_answers c.args.depth _ _ c.in_default.ensures c.in_default-word_at.ensures c.item.ensures

pub generated-returns-in-None : goal.generated-returns-in-None
generated-returns-in-None t c = item_answers c.args.depth c.args.tokens.now (Err (stop.Unexpected c.args.tokens)) c.in_default.ensures c.in_default-word_at.ensures (stuck_here refl c.in-None.ensures)

pub block-returns-in_err-name : goal.block-returns-in_err-name
block-returns-in_err-name t c =
    let p = err_from_is_err_and c.from_residual.result c.from_residual.ensures.1 in
    rw (p.1, p.2) (fails_by block_name block_rest c.args.depth c.args.depth (seen c.args.tokens.now) (seen c.args.tokens.now)
    (λ deep at s. stuck_first s)
    c.in_err-name.field-0.0 (c.in_err-name.ensures c.args.depth))

pub block-returns-in_err-inner : goal.block-returns-in_err-inner
block-returns-in_err-inner t c =
    let p = err_from_is_err_and c.from_residual-in_err-inner.result c.from_residual-in_err-inner.ensures.1 in
    rw (p.1, p.2) (fails_by (many (part an_item)) block_rest c.args.depth c.args.depth (seen c.in_ok-name.name.rest.now) (seen c.args.tokens.now)
    (λ deep at s. stuck_second (c.in_ok-name.ensures c.args.depth) (stuck_first s))
    c.in_err-inner.field-0.0 c.in_err-inner.ensures)

pub block-returns-in_err-rest : goal.block-returns-in_err-rest
block-returns-in_err-rest t c =
    let p = err_from_is_err_and c.from_residual-in_err-rest.result c.from_residual-in_err-rest.ensures.1 in
    rw (p.1, p.2) (fails_by (word w.End) block_rest c.args.depth c.args.depth (seen c.in_ok-inner.inner.rest.now) (seen c.args.tokens.now)
    (λ deep at s. stuck_second (c.in_ok-name.ensures c.args.depth) (stuck_second c.in_ok-inner.ensures s))
    c.in_err-rest.field-0.0 (c.in_err-rest.ensures c.args.depth))

pub block-returns : goal.block-returns
block-returns t c = record { inner = _; whole = tree_Block _ _; gets = gets_seq (c.in_ok-name.ensures c.args.depth) (gets_seq c.in_ok-inner.ensures (c.in_ok-rest.ensures c.args.depth)) }
