use Rattle.std.proofs.Common.{append_assoc}
use Rattle.vs_scopes.proofs.UsesLemmas.{names_Lefts}
use Rattle.vs_scopes.proofs.TurnLemmas.{one_more, all_taken}
use Rattle.vs_scopes.specs.Uses.{left_names}
use Rattle.std.proofs.Math.Nat.{le_refl}
use Rattle.vs_scopes.proofs.DepthLemmas.{falls_in}
use Rattle.vs_scopes.proofs.uses.+used_left.Goals as goal

pub add_left-returns-in_ok-add_left-in-Concat : goal.add_left-returns-in_ok-add_left-in-Concat
add_left-returns-in_ok-add_left-in-Concat t c =
    let first = rw c.deref-in-Concat.ensures at c.in_ok-add_left-in-Concat.ensures in
    rw (c.in-Concat.is, names_Lefts c.in-Concat.first c.in-Concat.rest) (rw append_assoc at (rw first at (rw c.deref-in-Concat-2.ensures.value at c.add_lefts.ensures)))

pub add_lefts-loop-left-preserved : goal.add_lefts-loop-left-preserved
add_lefts-loop-left-preserved t c = one_more left_names c.args.all.now c.loop-left.left-index c.left-item.result _ _ _ c.loop-left.invariant c.loop-left-test.true c.left-item.is c.in_ok-add_left.ensures

pub add_lefts-returns : goal.add_lefts-returns
add_lefts-returns t c = all_taken left_names c.args.all.now c.loop-left.left-index _ _ c.loop-left.invariant c.loop-left-test.false

pub add_lefts-add_left-requires : goal.add_lefts-add_left-requires
add_lefts-add_left-requires t c = (falls_in 2 0 _ c.args.all.now c.loop-left.left-index t _ c.left-item.result c.loop-left-test.true c.left-item.is c.decreases (le_refl _), tt)
