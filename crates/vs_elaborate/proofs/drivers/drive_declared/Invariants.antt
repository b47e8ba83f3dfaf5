use Rattle.std.proofs.Common.{take}
use Rattle.std.specs.List.{flat_map}
use Rattle.vs_elab_statements.specs.Members.{assignment_of}
use Rattle.vs_elab_statements.specs.vs_scopes.specs.Printed.{Path}
use Rattle.vs_elab_statements.specs.vs_scopes.specs.Scopes.{Scope}
use Rattle.vs_elab_statements.specs.Surroundings.{Surroundings}
use Rattle.vs_elab_statements.specs.vs_scopes.proofs.AnswerLemmas.{Kept}
use Rattle.vs_elaborate.specs.passes.Filling.{IsFrame, Drives}
use Rattle.vs_elaborate.proofs.drivers.drive_declared.Given as goal

abbrev pub invariant-loop-declarator : goal.invariant-loop-declarator
invariant-loop-declarator l = (envs : Path → Surroundings) (s : Scope) → IsFrame l.frame envs s → Kept (Drives s l.fn.assigns.items) (Drives s l.assigns.items) (flat_map (λ d. assignment_of d.name.items d.value) (take l.declarator-index l.declarators))
