use Rattle.std.proofs.Common.{◌≡◌, ℕ, ◌<◌, length}
use Rattle.std.specs.Prelude.{slice_index}
use Rattle.vs_run_active.proofs.marks.clear.Given as goal

abbrev pub invariant-loop-word : goal.invariant-loop-word
invariant-loop-word l = record {
  len : length l.marks.items ≡ length l.fn.marks.items;
  none : (i : ℕ) → i < l.word → slice_index l.marks.items i ≡ 0;
}
