use Rattle.std.proofs.Common.{take}
use Rattle.vs_elab_statements.specs.vs_scopes.specs.Printed.{Path}
use Rattle.vs_elab_statements.specs.Surroundings.{Surroundings}
use Rattle.vs_elab_statements.specs.passes.Views.{IsView}
use Rattle.vs_elab_statements.proofs.PartLemmas.{Stated, KeepsItems}
use Rattle.vs_elab_statements.proofs.statements.+statement.Given as goal

abbrev pub invariant-statements-loop-s : goal.invariant-statements-loop-s
invariant-statements-loop-s l = (envs : Path → Surroundings) (p : Path) → IsView l.view envs p → Stated envs p l.fn.next (take l.s-index l.all) l.done.items l.next

abbrev pub invariant-items-loop-label : goal.invariant-items-loop-label
invariant-items-loop-label l = (envs : Path → Surroundings) (p : Path) → IsView l.view envs p → KeepsItems envs p l.shape l.fn.next (take l.label-index l.all) l.done.items l.next
