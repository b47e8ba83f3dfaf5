use Rattle.std.proofs.Common.{map, ap, ◌∙◌}
use Rattle.vs_elab_signals.specs.vs_scopes.specs.Reads.{read_piece}
use Rattle.vs_scopes.specs.Scopes.{text_of}
use Rattle.vs_elab_signals.proofs.members.module_members.Goals as goal

pub module_text-requires-clause-pieces : goal.module_text-requires-clause-pieces
module_text-requires-clause-pieces c = ap (map read_piece) c.deref.ensures.value ∙ c.requires.pieces

pub returns : goal.returns
returns c ss s a = rw c.requires.pieces at (c.gathered.ensures ss s (text_of c.args.«module».now) a c.in_ok-text.ensures)
