use Rattle.std.proofs.Common.{◌↔◌, List, ℕ, subst}
use Rattle.std.specs.List.{Contains}
use Rattle.vs_graph.proofs.gathered.Gathered.list.Goals as goal

pub returns-clause-exact : goal.returns-clause-exact
returns-clause-exact c r =
    subst (λ (l : List ℕ). (Contains c.settle.new.all.items r ↔ Contains l r)) c.self.view_is (c.settle.ensures.same r)
