use Rattle.vs_scopes.proofs.TurnLemmas.{one_more, all_taken}
use Rattle.vs_scopes.specs.Uses.{end_names}
use Rattle.vs_scopes.proofs.uses.add_ends.Goals as goal

pub loop-end-preserved : goal.loop-end-preserved
loop-end-preserved c = one_more end_names c.args.ends.now c.loop-end.end-index c.end-item.result _ _ _ c.loop-end.invariant c.loop-end-test.true c.end-item.is c.in_ok-add_end.ensures

pub returns : goal.returns
returns c = all_taken end_names c.args.ends.now c.loop-end.end-index _ _ c.loop-end.invariant c.loop-end-test.false
