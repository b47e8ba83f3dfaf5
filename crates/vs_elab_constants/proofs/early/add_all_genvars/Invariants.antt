use Rattle.std.proofs.Common.{map, take}
use Rattle.std.specs.List.{flat_map}
use Rattle.vs_scopes.specs.vs_widths.specs.declared.bindings.Binding.TheVariants.{Genvar}
use Rattle.vs_scopes.specs.Reads.{read_piece}
use Rattle.vs_scopes.specs.Declarations.{genvars_in, bound_to}
use Rattle.vs_scopes.specs.scopes_passes.Declared.{AddsNames}
use Rattle.vs_elab_constants.proofs.early.add_all_genvars.Given as goal

abbrev pub invariant-loop-piece : goal.invariant-loop-piece
invariant-loop-piece l = AddsNames l.fn.names l.names (bound_to Genvar (flat_map genvars_in (map read_piece (take l.piece-index l.pieces))))
