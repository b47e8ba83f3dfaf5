use Rattle.std.proofs.Common.{map, take}
use Rattle.vs_elab_statements.specs.Members.{net_assignment}
use Rattle.vs_elab_statements.specs.vs_scopes.specs.Printed.{Path}
use Rattle.vs_elab_statements.specs.vs_scopes.specs.Scopes.{Scope}
use Rattle.vs_elab_statements.specs.Surroundings.{Surroundings}
use Rattle.vs_elab_statements.specs.vs_scopes.proofs.AnswerLemmas.{Kept}
use Rattle.vs_elaborate.specs.passes.Filling.{IsFrame, Drives}
use Rattle.vs_elaborate.proofs.drivers.drive_assigned.Given as goal

abbrev pub invariant-loop-one : goal.invariant-loop-one
invariant-loop-one l = (envs : Path → Surroundings) (s : Scope) → IsFrame l.frame envs s → Kept (Drives s l.fn.assigns.items) (Drives s l.assigns.items) (map net_assignment (take l.one-index l.list))
