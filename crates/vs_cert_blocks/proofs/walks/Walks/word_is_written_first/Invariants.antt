use Rattle.std.proofs.Common.{ℕ, ◌<◌, ◌-◌}
use Rattle.vs_graph.specs.Clear.{AreClear}
use Rattle.vs_claims.specs.vs_maps.specs.Reaches.{places}
use Rattle.vs_drivers.specs.Places.{bit}
use Rattle.vs_cert_blocks.specs.Walks.{IsWrittenFirst}
use Rattle.vs_cert_blocks.proofs.walks.Walks.word_is_written_first.Given as goal

abbrev pub invariant-loop-place : goal.invariant-loop-place
invariant-loop-place l = record {
  first : (n : ℕ) → n < l.place → IsWrittenFirst l.self.tables.now (bit l.signal l.word n);
  clear : AreClear (places l.self.tables.now) l.marks.items;
}

abbrev pub decreases-loop-place : goal.decreases-loop-place
decreases-loop-place l = l.width - l.place
