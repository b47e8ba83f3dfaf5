-- The flags of 256 slots, as the bits of four words.
use Rattle.std.specs.Prelude.{ℕ, ◌/◌, ◌%◌, List, slice_index}
use Rattle.std.specs.Int.{bit_at}

-- the flag of a slot: 1 or 0
abbrev pub flag_at : List ℕ → ℕ → ℕ
flag_at flags i = bit_at (slice_index flags (i / 64)) (i % 64)
