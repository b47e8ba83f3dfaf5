use Rattle.std.proofs.Common.{ℕ, ◌≡◌, ◌<◌, length}
use Rattle.vs_claims.specs.vs_maps.specs.Ranges.{reads_at}
use Rattle.vs_cert_blocks.specs.Walks.{row_at}
use Rattle.vs_cert_blocks.proofs.blocks.reads.Given as goal

abbrev pub invariant-loop-place : goal.invariant-loop-place
invariant-loop-place l = record {
  long : length l.rows.items ≡ l.place;
  are : (p : ℕ) → p < l.place → row_at l.rows.items p ≡ reads_at l.tables p;
}
