use Rattle.std.proofs.Common.{◌≡◌, ℕ, ◌<◌, ◌≤◌, Some, length, slice_get}
use Rattle.vs_vcd_writing.specs.Values.{shown_value}
use Rattle.vs_vcd_writing.proofs.room.gather.Given as goal

abbrev pub invariant-loop-signal : goal.invariant-loop-signal
invariant-loop-signal l = record {
  long : length l.now ≡ length l.initial.now;
  words : (k : ℕ) → l.from ≤ k → k < l.signal → slice_get l.now k ≡ Some (shown_value l.store k);
}
