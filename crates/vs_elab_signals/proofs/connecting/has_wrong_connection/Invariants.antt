use Rattle.std.proofs.Common.{◌≡◌, map, drop}
use Rattle.vs_scopes.specs.Scopes.{has_wrong_end}
use Rattle.vs_scopes.specs.scopes_passes.Parts.{read_port, read_end}
use Rattle.vs_elab_signals.proofs.connecting.has_wrong_connection.Given as goal

abbrev pub invariant-loop-place : goal.invariant-loop-place
invariant-loop-place l =
    has_wrong_end (map read_port l.ports) (map read_end l.ends) ≡ has_wrong_end (map read_port (drop l.place l.ports)) (map read_end (drop l.place l.ends))
