use Rattle.std.proofs.Common.{◌≡◌, ℕ, ◌-◌, ◌%◌, ◌<◌, ◌≤◌, get_or}
use Rattle.std.specs.Int.{bit_at}
use Rattle.vs_design.specs.vs_logic4.specs.Planes.{digit_of_bits}
use Rattle.vs_vcd_writing.specs.Values.{digit_character}
use Rattle.vs_vcd_writing.proofs.value.write_digits.Given as goal

abbrev pub invariant-loop-done : goal.invariant-loop-done
invariant-loop-done l = record {
  whole : l.done % 8 ≡ 0;
  most : l.done ≤ 64;
  written : (k : ℕ) → k < l.done → get_or l.room (64 - k) 0 ≡ digit_character (digit_of_bits (bit_at l.value k) (bit_at l.unknown k));
}

abbrev pub decreases-loop-done : goal.decreases-loop-done
decreases-loop-done l = 64 - l.done
