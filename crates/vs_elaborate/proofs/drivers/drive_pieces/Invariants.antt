use Rattle.std.proofs.Common.{take}
use Rattle.std.specs.List.{flat_map}
use Rattle.vs_elab_hierarchy.specs.vs_scopes.specs.Reads.{read_piece}
use Rattle.vs_elab_statements.specs.Members.{drivers_in}
use Rattle.vs_elab_statements.specs.vs_scopes.specs.Printed.{Path}
use Rattle.vs_elab_statements.specs.vs_scopes.specs.Scopes.{Scope}
use Rattle.vs_elab_statements.specs.Surroundings.{Surroundings}
use Rattle.vs_elab_statements.specs.vs_scopes.proofs.AnswerLemmas.{Kept}
use Rattle.vs_elaborate.specs.passes.Filling.{IsFrame, Drives}
use Rattle.vs_elaborate.proofs.drivers.drive_pieces.Given as goal

abbrev pub invariant-loop-piece : goal.invariant-loop-piece
invariant-loop-piece l = (envs : Path → Surroundings) (s : Scope) → IsFrame l.frame envs s → Kept (Drives s l.fn.assigns.items) (Drives s l.assigns.items) (flat_map (λ x. drivers_in (read_piece x)) (take l.piece-index l.pieces))
