use Rattle.std.proofs.Common.{take}
use Rattle.std.specs.List.{flat_map}
use Rattle.vs_elab_statements.specs.Members.{setting}
use Rattle.vs_elab_statements.specs.vs_scopes.specs.Printed.{Path}
use Rattle.vs_elab_statements.specs.vs_scopes.specs.Scopes.{Scope}
use Rattle.vs_elab_statements.specs.Surroundings.{Surroundings}
use Rattle.vs_elab_statements.specs.vs_scopes.proofs.AnswerLemmas.{Kept}
use Rattle.vs_elaborate.specs.passes.Filling.{IsFrame, Runs}
use Rattle.vs_elaborate.proofs.processes.run_declared.Given as goal

abbrev pub invariant-loop-declarator : goal.invariant-loop-declarator
invariant-loop-declarator l = (envs : Path → Surroundings) (s : Scope) → IsFrame l.frame envs s → Kept (Runs envs s l.first l.fn.contents) (Runs envs s l.first l.contents) (flat_map (λ d. setting d.name.items d.value) (take l.declarator-index l.declarators))
