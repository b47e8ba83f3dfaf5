use Rattle.std.proofs.Common.{append_assoc}
use Rattle.vs_scopes.proofs.PiecesLemmas.{blocks_Block, blocks_If, blocks_Case, blocks_For, blocks_While, blocks_Repeat, blocks_Delay, blocks_Event}
use Rattle.vs_scopes.proofs.TurnLemmas.{one_more, all_taken}
use Rattle.vs_scopes.specs.Pieces.{blocks_in}
use Rattle.std.proofs.Math.Nat.{le_refl}
use Rattle.vs_scopes.proofs.DepthLemmas.{falls_in}
use Rattle.vs_syntax.specs.vs_logic4.proofs.Basics.{second_most}
use Rattle.vs_scopes.proofs.blocks.+blocks.Goals as goal

pub add_blocks-returns-in-Block : goal.add_blocks-returns-in-Block
add_blocks-returns-in-Block t c = rw (c.in-Block.is, blocks_Block c.in-Block.inner) (rw c.deref.ensures.value at c.add_blocks_among.ensures)

pub add_blocks-returns-in_ok-add_blocks-in-If : goal.add_blocks-returns-in_ok-add_blocks-in-If
add_blocks-returns-in_ok-add_blocks-in-If t c =
    let first = rw c.deref-in-If.ensures at c.in_ok-add_blocks-in-If.ensures in
    rw (c.in-If.is, blocks_If c.in-If.field-0 c.in-If.x c.in-If.other) (rw append_assoc at (rw first at c.add_else_blocks.ensures))

pub add_blocks-returns-in-Case : goal.add_blocks-returns-in-Case
add_blocks-returns-in-Case t c = rw (c.in-Case.is, blocks_Case _ _ c.in-Case.items) (rw c.deref-in-Case.ensures.value at c.add_blocks_in_items.ensures)

pub add_blocks_among-loop-s-preserved : goal.add_blocks_among-loop-s-preserved
add_blocks_among-loop-s-preserved t c = one_more blocks_in c.args.all.now c.loop-s.s-index c.s-item.result _ _ _ c.loop-s.invariant c.loop-s-test.true c.s-item.is c.in_ok-add_blocks.ensures

pub add_blocks_among-returns : goal.add_blocks_among-returns
add_blocks_among-returns t c = all_taken blocks_in c.args.all.now c.loop-s.s-index _ _ c.loop-s.invariant c.loop-s-test.false

pub add_blocks_in_items-loop-s-preserved : goal.add_blocks_in_items-loop-s-preserved
add_blocks_in_items-loop-s-preserved t c = one_more (λ x. blocks_in x.1) c.args.items.now c.loop-s.s-index c.loop-s-item.result _ _ _ c.loop-s.invariant c.loop-s-test.true c.loop-s-item.is c.in_ok-add_blocks.ensures

pub add_blocks_in_items-returns : goal.add_blocks_in_items-returns
add_blocks_in_items-returns t c = all_taken (λ x. blocks_in x.1) c.args.items.now c.loop-s.s-index _ _ c.loop-s.invariant c.loop-s-test.false

pub add_blocks-returns-in-For : goal.add_blocks-returns-in-For
add_blocks-returns-in-For t c = rw (c.in-For.is, blocks_For _ c.in-For.x) (rw c.deref-in-For.ensures at c.add_blocks-in-For.ensures)

pub add_blocks-returns-in-While : goal.add_blocks-returns-in-While
add_blocks-returns-in-While t c = rw (c.in-While.is, blocks_While _ c.in-While.x) (rw c.deref-in-While.ensures at c.add_blocks-in-While.ensures)

pub add_blocks-returns-in-Repeat : goal.add_blocks-returns-in-Repeat
add_blocks-returns-in-Repeat t c = rw (c.in-Repeat.is, blocks_Repeat _ c.in-Repeat.x) (rw c.deref-in-Repeat.ensures at c.add_blocks-in-Repeat.ensures)

pub add_blocks-returns-in-Delay : goal.add_blocks-returns-in-Delay
add_blocks-returns-in-Delay t c = rw (c.in-Delay.is, blocks_Delay _ c.in-Delay.x) (rw c.deref-in-Delay.ensures at c.add_blocks-in-Delay.ensures)

pub add_blocks-returns-in-Event : goal.add_blocks-returns-in-Event
add_blocks-returns-in-Event t c = rw (c.in-Event.is, blocks_Event _ c.in-Event.x) (rw c.deref-in-Event.ensures at c.add_blocks-in-Event.ensures)

pub add_blocks_among-add_blocks-requires : goal.add_blocks_among-add_blocks-requires
add_blocks_among-add_blocks-requires t c = (falls_in 2 0 _ c.args.all.now c.loop-s.s-index t _ c.s-item.result c.loop-s-test.true c.s-item.is c.decreases (le_refl _), tt)

pub add_blocks_in_items-add_blocks-requires : goal.add_blocks_in_items-add_blocks-requires
add_blocks_in_items-add_blocks-requires t c = (falls_in 2 0 _ c.args.items.now c.loop-s.s-index t _ c.loop-s-item.result c.loop-s-test.true c.loop-s-item.is c.decreases (second_most 0 _), tt)
