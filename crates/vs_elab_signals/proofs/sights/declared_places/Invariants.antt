use Rattle.std.proofs.Common.{[], map, take}
use Rattle.vs_elab_signals.specs.vs_scopes.specs.Reads.{read_piece}
use Rattle.vs_scopes.specs.Nets.{nets_from}
use Rattle.vs_scopes.specs.scopes_passes.Declared.{AddsNames}
use Rattle.vs_elab_signals.proofs.sights.declared_places.Given as goal

abbrev pub invariant-loop-place : goal.invariant-loop-place
invariant-loop-place l = AddsNames [] l.names (nets_from 0 (map read_piece (take l.place l.pieces)))
