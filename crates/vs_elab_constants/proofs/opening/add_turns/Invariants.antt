use Rattle.std.proofs.Common.{◌≡◌, ◌++◌, drop}
use Rattle.vs_scopes.specs.scopes_passes.Names.{read_part}
use Rattle.vs_elab_constants.specs.Reads.{read_inners}
use Rattle.vs_elab_constants.specs.generate_passes.Opening.{turn_blocks}
use Rattle.vs_elab_constants.proofs.opening.add_turns.Given as goal

abbrev pub invariant-loop-value : goal.invariant-loop-value
invariant-loop-value l =
    read_inners l.inners.items ++ turn_blocks l.place (read_part l.name) l.genvar l.items (drop l.value-index l.values) ≡ read_inners l.fn.inners.items ++ turn_blocks l.place (read_part l.name) l.genvar l.items l.values
