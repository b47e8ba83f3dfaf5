use Rattle.std.proofs.Common.{◌≡◌, List, map, drop}
use Rattle.vs_elab_signals.specs.vs_scopes.specs.Reads.{read_piece}
use Rattle.vs_scopes.specs.Scopes.{Scope, late_from}
use Rattle.vs_scopes.specs.scopes_passes.Names.{read_path}
use Rattle.vs_elab_signals.specs.nets_passes.Nets.{IsAround, HasNetPlaces}
use Rattle.vs_elab_signals.proofs.late.check_late.Given as goal

abbrev pub invariant-loop-place : goal.invariant-loop-place
invariant-loop-place l = (ss : List Scope) (s : Scope) → IsAround ss l.around s → HasNetPlaces s l.text l.told → read_path l.path ≡ s.path →
    late_from s l.place (map read_piece (drop l.place l.pieces)) ≡ late_from s 0 (map read_piece l.pieces)
