use Rattle.vs_graph.proofs.Sets.{other, one_more, all_one}
use Rattle.vs_graph.proofs.families.all_are.Goals as goal

pub returns-then-y-x : goal.returns-then-y-x
returns-then-y-x c = other c.args.xs.now c.args.x c.loop-y.y-index c.loop-y-test.true (λ e. c.if-y-x.true e)

pub loop-y-preserved : goal.loop-y-preserved
loop-y-preserved c = one_more c.args.xs.now c.args.x c.loop-y.y-index c.loop-y.invariant c.if-y-x.false

pub returns : goal.returns
returns c = all_one c.args.xs.now c.args.x c.loop-y.y-index c.loop-y-test.false c.loop-y.invariant
