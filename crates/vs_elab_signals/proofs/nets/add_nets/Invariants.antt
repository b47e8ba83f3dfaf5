use Rattle.std.proofs.Common.{ℕ, List, take}
use Rattle.vs_scopes.specs.Scopes.{Scope}
use Rattle.vs_scopes.specs.scopes_passes.Answers.{borrowed}
use Rattle.vs_scopes.specs.scopes_passes.Parts.{IsSet}
use Rattle.vs_elab_signals.specs.nets_passes.Nets.{IsAround, AddsNets}
use Rattle.vs_elab_signals.proofs.nets.add_nets.Given as goal

abbrev pub invariant-loop-name : goal.invariant-loop-name
invariant-loop-name l =
    (ss : List Scope) (s : Scope) (before : List (List ℕ)) → IsAround ss l.around s → IsSet before l.fn.used → AddsNets l.text s.sight before (borrowed (take l.name-index l.names)) l.used l.fn.pieces.items l.pieces.items
