use Rattle.std.proofs.Common.{take}
use Rattle.std.specs.List.{flat_map}
use Rattle.vs_elab_signals.specs.vs_scopes.specs.Reads.{read_piece}
use Rattle.vs_scopes.specs.Declarations.{declared_in}
use Rattle.vs_scopes.proofs.AnswerLemmas.{Kept}
use Rattle.vs_scopes.specs.Scopes.{Scope}
use Rattle.vs_elab_signals.specs.signal_passes.Declaring.{IsAt, Declares}
use Rattle.vs_elab_signals.proofs.declarations.declare_pieces.Given as goal

abbrev pub invariant-loop-piece : goal.invariant-loop-piece
invariant-loop-piece l = (s : Scope) → IsAt s l.site →
    Kept (Declares s l.fn.to l.fn.plan) (Declares s l.to l.plan) (flat_map (λ x. declared_in s.known (read_piece x)) (take l.piece-index l.pieces))
