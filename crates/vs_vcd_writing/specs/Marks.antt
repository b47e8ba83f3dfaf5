-- Marks: which blocks of eight signals may have changed.
use Rattle.std.specs.Prelude.{◌≡◌, ℕ, ◌+◌, ◌*◌, min, ◌/◌, ◌%◌, ◌==◌, ◌<◌, ◌≤◌, Bool, true, false, Option, Some, None, List, slice_index}
use Rattle.std.specs.Int.{bit_at}
use Rattle.vs_vcd_writing.specs.declared.marks.BlockRange.{BlockRange}

-- whether a block is marked: its bit in words of 64 bits, the lowest bit first; past the last word none is
abbrev pub is_block_marked : List ℕ → ℕ → Bool
is_block_marked marks block = bit_at (slice_index marks (block / 64)) (block % 64) == 1

-- whether the block of the signal of this number is marked
abbrev pub is_marked : List ℕ → ℕ → Bool
is_marked marks signal = is_block_marked marks (signal / 8)

-- the numbers of the signals of a block, of so many in all
abbrev pub IsBlock : ℕ → ℕ → Option BlockRange → Type 0
IsBlock block count None = count < 8 * block
IsBlock block count (Some r) = (r.from ≡ 8 * block) × (r.from ≤ r.to) × (r.to ≡ min (8 * block + 8) count)

-- the first marked block from one on, where there is one
abbrev pub IsNextMark : List ℕ → ℕ → Option ℕ → Type 0
IsNextMark marks from None = (b : ℕ) → from ≤ b → is_block_marked marks b ≡ false
IsNextMark marks from (Some next) =
    (from ≤ next) × (is_block_marked marks next ≡ true) × ((b : ℕ) → from ≤ b → b < next → is_block_marked marks b ≡ false)
