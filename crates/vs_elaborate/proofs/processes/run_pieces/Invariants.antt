use Rattle.std.proofs.Common.{take}
use Rattle.std.specs.List.{flat_map}
use Rattle.vs_elab_hierarchy.specs.vs_scopes.specs.Reads.{read_piece}
use Rattle.vs_elab_statements.specs.Members.{behaviors_in}
use Rattle.vs_elab_statements.specs.vs_scopes.specs.Printed.{Path}
use Rattle.vs_elab_statements.specs.vs_scopes.specs.Scopes.{Scope}
use Rattle.vs_elab_statements.specs.Surroundings.{Surroundings}
use Rattle.vs_elab_statements.specs.vs_scopes.proofs.AnswerLemmas.{Kept}
use Rattle.vs_elaborate.specs.passes.Filling.{IsFrame, Runs}
use Rattle.vs_elaborate.proofs.processes.run_pieces.Given as goal

abbrev pub invariant-loop-piece : goal.invariant-loop-piece
invariant-loop-piece l = (envs : Path → Surroundings) (s : Scope) → IsFrame l.frame envs s → Kept (Runs envs s l.first l.fn.contents) (Runs envs s l.first l.contents) (flat_map (λ x. behaviors_in (read_piece x)) (take l.piece-index l.pieces))
