use Rattle.vs_graph.proofs.Sorts.{users_are}
use Rattle.vs_graph.proofs.sorting.users_of.Goals as goal

pub returns : goal.returns
returns c = users_are c.args.needs.now c.in_ok-users.users c.in_ok-users.ensures.exact
