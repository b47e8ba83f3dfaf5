use Rattle.std.proofs.Common.{◌≡◌, ℕ, ◌*◌, ◌<◌, false, length, drop}
use Rattle.vs_vcd_writing.specs.Marks.{is_marked}
use Rattle.vs_run_active.proofs.ChangesLemmas.{is_among}
use Rattle.vs_run_steps.proofs.marks.mark_signals.Given as goal

abbrev pub invariant-loop-change : goal.invariant-loop-change
invariant-loop-change l = record {
  len : length l.marks.items ≡ length l.fn.marks.items;
  marked : (v : ℕ) → is_marked l.marks.items v ≡ false → (is_marked l.fn.marks.items v ≡ false) × (v < 512 * length l.fn.marks.items → is_among (drop l.change-index l.changes.items) v ≡ is_among l.changes.items v);
}
