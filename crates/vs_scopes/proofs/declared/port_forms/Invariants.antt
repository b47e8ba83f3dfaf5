use Rattle.std.proofs.Common.{map, take}
use Rattle.vs_scopes.specs.Reads.{read_piece}
use Rattle.vs_scopes.specs.scopes_passes.Declared.{ArePortForms}
use Rattle.vs_scopes.proofs.declared.port_forms.Given as goal

abbrev pub invariant-loop-piece : goal.invariant-loop-piece
invariant-loop-piece l = ArePortForms (map read_piece (take l.piece-index l.pieces)) l.forms
