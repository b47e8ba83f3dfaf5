use Rattle.std.proofs.Common.{◌≡◌, ℕ, ◌-◌, ◌<◌, ◌≤◌, length}
use Rattle.std.specs.Prelude.{slice_index}
use Rattle.vs_vcd_writing.proofs.marks.skip_unmarked.Given as goal

abbrev pub invariant-loop-word : goal.invariant-loop-word
invariant-loop-word l = record {
  order : l.from ≤ l.word;
  most : l.word ≤ length l.marks;
  unmarked : (w : ℕ) → l.from ≤ w → w < l.word → slice_index l.marks w ≡ 0;
}

abbrev pub decreases-loop-word : goal.decreases-loop-word
decreases-loop-word l = length l.marks - l.word
