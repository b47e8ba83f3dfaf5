use Rattle.std.proofs.Common.{◌⊎◌}
use Rattle.std.specs.List.{Contains}
use Rattle.vs_graph.proofs.Joined.{put_on, settled}
use Rattle.vs_graph.proofs.gathered.Gathered.put.Goals as goal

pub returns-then-len-self : goal.returns-then-len-self
returns-then-len-self c r =
    settled (Contains c.args.self.now r ⊎ Contains c.args.more.now r) (Contains c.extend_from_slice.new.self.items r) (Contains c.settle.new.all.items r)
    (c.settle.ensures.same r)
    (put_on c.args.self.now c.args.more.now c.extend_from_slice.new.self.items c.self.inside.all.items c.self.view_is c.in_ok-extend_from_slice.ensures.items r)

pub returns-else-len-self : goal.returns-else-len-self
returns-else-len-self c r =
    put_on c.args.self.now c.args.more.now c.extend_from_slice.new.self.items c.self.inside.all.items c.self.view_is c.in_ok-extend_from_slice.ensures.items r
