use Rattle.std.proofs.Common.{map}
use Rattle.vs_elab_constants.specs.vs_widths.specs.Names.{by_bytes}
use Rattle.vs_elab_signals.specs.vs_scopes.specs.Reads.{read_piece}
use Rattle.vs_scopes.specs.Scopes.{block_text}
use Rattle.vs_elab_signals.proofs.members.block_members.Goals as goal

pub returns : goal.returns
returns c ss s a =
    c.gathered.ensures ss s (block_text (by_bytes c.args.constants.now) (map read_piece c.args.pieces.items)) a (rw c.deref.ensures.value at c.in_ok-text.ensures)
