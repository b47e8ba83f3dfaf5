use Rattle.std.proofs.Common.{ℕ, ◌<◌, ◌-◌}
use Rattle.vs_graph.specs.Clear.{AreClear}
use Rattle.vs_claims.specs.vs_maps.specs.Reaches.{places}
use Rattle.vs_drivers.specs.Places.{bit}
use Rattle.vs_cert_blocks.specs.Walks.{IsWrittenFirst}
use Rattle.vs_cert_blocks.proofs.walks.Walks.signal_is_written_first.Given as goal

abbrev pub invariant-loop-word : goal.invariant-loop-word
invariant-loop-word l = record {
  first : (w n : ℕ) → w < l.word → n < l.width → IsWrittenFirst l.self.tables.now (bit l.signal w n);
  clear : AreClear (places l.self.tables.now) l.marks.items;
}

abbrev pub decreases-loop-word : goal.decreases-loop-word
decreases-loop-word l = l.count - l.word
