use Rattle.std.proofs.Common.{refl, arith}
use Rattle.vs_graph.proofs.Sets.{shared, further, apart}
use Rattle.vs_graph.proofs.families.is_apart.Goals as goal

pub returns-then-has : goal.returns-then-has
returns-then-has c = shared c.args.a.now c.args.b.now c.loop-x.x-index c.loop-x-test.true (c.if-has.ensures.0 refl)

pub loop-x-preserved : goal.loop-x-preserved
loop-x-preserved c = further c.args.a.now c.args.b.now c.loop-x.x-index c.loop-x.invariant (λ h. absurd (grind (arith, c.if-has.ensures.1 h)))

pub returns : goal.returns
returns c = apart c.args.a.now c.args.b.now c.loop-x.x-index c.loop-x-test.false c.loop-x.invariant
