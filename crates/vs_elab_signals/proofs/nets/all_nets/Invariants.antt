use Rattle.std.proofs.Common.{List}
use Rattle.vs_scopes.specs.Scopes.{Scope}
use Rattle.vs_elab_signals.specs.nets_passes.Nets.{IsAround}
use Rattle.vs_elab_signals.proofs.NetLemmas.{Made}
use Rattle.vs_elab_signals.proofs.nets.all_nets.Given as goal

abbrev pub invariant-loop-piece : goal.invariant-loop-piece
invariant-loop-piece l = (ss : List Scope) (s : Scope) → IsAround ss l.around s → Made l.text s.sight l.pieces l.piece-index l.used l.all.items
