use Rattle.std.proofs.Common.{ℕ, ◌<◌, get_or}
use Rattle.vs_graph.specs.Clear.{AreClear}
use Rattle.vs_claims.specs.vs_maps.specs.Reaches.{places}
use Rattle.vs_cert_blocks.specs.Blocks.{IsSignalFirst}
use Rattle.vs_cert_blocks.proofs.blocks.are_written.Given as goal

abbrev pub invariant-loop-signal : goal.invariant-loop-signal
invariant-loop-signal l = record {
  first : (k : ℕ) → k < l.signal-index → IsSignalFirst l.design l.walks.tables.now (get_or l.signals k 0);
  clear : AreClear (places l.walks.tables.now) l.marks.items;
}
