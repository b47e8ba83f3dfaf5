use Rattle.std.proofs.Common.{◌≡◌, ◌+◌, ◌≤◌, map, take}
use Rattle.vs_widths.specs.Names.{meaning_of}
use Rattle.vs_scopes.specs.Reads.{read_piece}
use Rattle.vs_scopes.specs.Generate.{turns_among}
use Rattle.vs_elab_constants.proofs.counting.turns_after.Given as goal

abbrev pub invariant-loop-piece : goal.invariant-loop-piece
invariant-loop-piece l = record {
  same : l.turns ≡ l.before + turns_among (meaning_of l.names) (map read_piece (take l.piece-index l.pieces));
  few : l.turns ≤ 65536;
}
