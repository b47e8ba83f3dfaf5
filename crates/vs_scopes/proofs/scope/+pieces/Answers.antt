use Rattle.vs_scopes.proofs.PiecesLemmas.{pieces_Region}
use Rattle.vs_scopes.proofs.TurnLemmas.{one_more, all_taken}
use Rattle.vs_scopes.specs.Pieces.{pieces_in}
use Rattle.std.proofs.Math.Nat.{le_refl}
use Rattle.vs_scopes.proofs.DepthLemmas.{falls_in}
use Rattle.vs_scopes.proofs.scope.+pieces.Goals as goal

pub add_pieces-returns-in-Region : goal.add_pieces-returns-in-Region
add_pieces-returns-in-Region t c = rw (c.in-Region.is, pieces_Region c.in-Region.items) (rw c.deref.ensures.value at c.add_pieces_among.ensures)

pub add_pieces_among-loop-item-preserved : goal.add_pieces_among-loop-item-preserved
add_pieces_among-loop-item-preserved t c = one_more pieces_in c.args.items.now c.loop-item.item-index c.item-item.result _ _ _ c.loop-item.invariant c.loop-item-test.true c.item-item.is c.in_ok-add_pieces.ensures

pub add_pieces_among-returns : goal.add_pieces_among-returns
add_pieces_among-returns t c = all_taken pieces_in c.args.items.now c.loop-item.item-index _ _ c.loop-item.invariant c.loop-item-test.false

pub add_pieces_among-add_pieces-requires : goal.add_pieces_among-add_pieces-requires
add_pieces_among-add_pieces-requires t c = (falls_in 2 0 _ c.args.items.now c.loop-item.item-index t _ c.item-item.result c.loop-item-test.true c.item-item.is c.decreases (le_refl _), tt)
