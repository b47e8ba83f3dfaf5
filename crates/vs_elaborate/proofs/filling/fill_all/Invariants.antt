use Rattle.std.proofs.Common.{List, take}
use Rattle.vs_elab_statements.specs.vs_scopes.specs.Scopes.{Scope}
use Rattle.vs_elab_statements.specs.Surroundings.{surroundings_at}
use Rattle.vs_elab_statements.specs.passes.Views.{AreSites}
use Rattle.vs_elaborate.specs.passes.Filling.{Fills}
use Rattle.vs_elaborate.proofs.filling.fill_all.Given as goal

abbrev pub invariant-loop-place : goal.invariant-loop-place
invariant-loop-place l = (ss : List Scope) → AreSites l.list ss (surroundings_at l.ratio.ticks ss) → Fills (surroundings_at l.ratio.ticks ss) (take l.place ss) l.contents
