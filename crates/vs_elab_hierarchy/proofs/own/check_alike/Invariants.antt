use Rattle.std.proofs.Common.{◌≡◌, false, map, take}
use Rattle.std.specs.List.{list_any}
use Rattle.vs_widths.specs.Names.{meaning_of}
use Rattle.vs_elab_signals.specs.vs_scopes.specs.Reads.{read_piece}
use Rattle.vs_scopes.specs.Declarations.{is_unlike}
use Rattle.vs_scopes.specs.scopes_passes.Parts.{read_port}
use Rattle.vs_elab_hierarchy.proofs.own.check_alike.Given as goal

abbrev pub invariant-loop-port : goal.invariant-loop-port
invariant-loop-port l = list_any (is_unlike (meaning_of l.site.known.now) (map read_piece l.pieces)) (map read_port (take l.port-index l.ports)) ≡ false
