use Rattle.std.proofs.Common.{◌∙◌, ◌++◌, ap, sym}
use Rattle.std.proofs.Math.Nat.{le_refl}
use Rattle.vs_scopes.proofs.TurnLemmas.{one_more, all_taken}
use Rattle.vs_scopes.proofs.DepthLemmas.{falls_in}
use Rattle.vs_program_words.specs.Tops.{else_uses, used_among, used_in}
use Rattle.vs_program_words.proofs.UsesLemmas.{added, added_behind, uses_Block, uses_If, uses_Region}
use Rattle.vs_program_words.proofs.tops.+uses.Goals as goal

pub add_uses_among-loop-item-preserved : goal.add_uses_among-loop-item-preserved
add_uses_among-loop-item-preserved t c = one_more used_in c.args.items.now c.loop-item.item-index c.item-item.result _ _ _ c.loop-item.invariant c.loop-item-test.true c.item-item.is c.in_ok-add_uses.ensures

pub add_uses_among-returns : goal.add_uses_among-returns
add_uses_among-returns t c = all_taken used_in c.args.items.now c.loop-item.item-index _ _ c.loop-item.invariant c.loop-item-test.false

pub add_uses_among-add_uses-requires : goal.add_uses_among-add_uses-requires
add_uses_among-add_uses-requires t c = (falls_in 2 0 _ c.args.items.now c.loop-item.item-index t _ c.item-item.result c.loop-item-test.true c.item-item.is c.decreases (le_refl _), tt)

pub add_uses-returns-in-Region : goal.add_uses-returns-in-Region
add_uses-returns-in-Region t c =
    added _ _ _ _ _ c.add_uses_among.ensures (ap used_among c.deref.ensures.value ∙ sym (uses_Region c.in-Region.items) ∙ ap used_in (sym c.in-Region.is))

pub add_uses-returns-in-Block : goal.add_uses-returns-in-Block
add_uses-returns-in-Block t c =
    added _ _ _ _ _ c.add_uses_among-in-Block.ensures
    (ap used_among c.deref-in-Block.ensures.value ∙ sym (uses_Block c.in-Block.field-0 c.in-Block.items) ∙ ap used_in (sym c.in-Block.is))

pub add_uses-returns-in_ok-add_uses-in-If : goal.add_uses-returns-in_ok-add_uses-in-If
add_uses-returns-in_ok-add_uses-in-If t c =
    added_behind _ _ _ _ _ _ _ c.in_ok-add_uses-in-If.ensures c.add_else_uses.ensures
    (ap (λ y. used_in y ++ else_uses c.in-If.other) c.deref-in-If.ensures ∙ sym (uses_If c.in-If.field-0 c.in-If.x c.in-If.other) ∙ ap used_in (sym c.in-If.is))
