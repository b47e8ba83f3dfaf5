use Rattle.std.proofs.Common.{ℕ, List, subst}
use Rattle.std.specs.List.{Contains}
use Rattle.vs_drivers.proofs.inverses.Mirrored.put_copy_nodes.Goals as goal

pub put_nodes-requires-clause-within : goal.put_nodes-requires-clause-within
put_nodes-requires-clause-within c v h = c.args.self.now.copied c.args.u v (subst (λ (l : List ℕ). Contains l v) c.row.ensures h)

pub put_nodes-requires-2-clause-within : goal.put_nodes-requires-2-clause-within
put_nodes-requires-2-clause-within c v h = c.args.self.now.inverted c.args.u v (subst (λ (l : List ℕ). Contains l v) c.row-2.ensures h)
