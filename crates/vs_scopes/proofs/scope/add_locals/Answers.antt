use Rattle.vs_scopes.proofs.TurnLemmas.{one_mapped, all_mapped}
use Rattle.vs_scopes.specs.Pieces.{local}
use Rattle.vs_scopes.proofs.scope.add_locals.Goals as goal

pub loop-one-preserved : goal.loop-one-preserved
loop-one-preserved c = one_mapped local c.args.locals.now c.loop-one.one-index c.one-item.result _ _ _ c.loop-one.invariant c.loop-one-test.true c.one-item.is c.in_ok-add_piece.ensures

pub returns : goal.returns
returns c = all_mapped local c.args.locals.now c.loop-one.one-index _ _ c.loop-one.invariant c.loop-one-test.false
