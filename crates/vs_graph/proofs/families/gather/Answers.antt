use Rattle.std.specs.List.{Contains}
use Rattle.vs_graph.proofs.Sets.{more, up_to}
use Rattle.vs_graph.proofs.families.gather.Goals as goal

pub loop-i-preserved : goal.loop-i-preserved
loop-i-preserved g c r =
    more (λ i. g.F.Family.has c.args.family.now i r) (Contains c.loop-i.all.items r) (Contains c.put.new.out.items r) c.loop-i.i (c.loop-i.invariant r) (c.in_ok-put.ensures r)

pub returns : goal.returns
returns g c r = up_to (λ i. g.F.Family.has c.args.family.now i r) (Contains c.loop-i.all.items r) c.loop-i.i c.args.n c.loop-i-test.false c.loop-i.auto.i-end (c.loop-i.invariant r)
