-- Whether ranges are the same.
use Rattle.std.specs.Prelude.{ℕ, ◌==◌, ◌&&◌, Bool, true, false, Option, Some, None}
use Rattle.vs_design.specs.declared.range.BitRange.{BitRange}
use Rattle.vs_design.specs.declared.range.Bits.{Bits}

abbrev pub same_word : Option ℕ → Option ℕ → Bool
same_word None None = true
same_word None (Some w) = false
same_word (Some v) None = false
same_word (Some v) (Some w) = v == w

abbrev pub same_bits : Option Bits → Option Bits → Bool
same_bits None None = true
same_bits None (Some b) = false
same_bits (Some a) None = false
same_bits (Some a) (Some b) = (a.low == b.low) && (a.width == b.width)

-- two ranges are the same
abbrev pub same_range : BitRange → BitRange → Bool
same_range r q = (r.signal == q.signal) && same_word r.word q.word && same_bits r.bits q.bits
