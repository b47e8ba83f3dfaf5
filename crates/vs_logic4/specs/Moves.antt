-- Planes of bits, moved.
use Rattle.std.specs.Prelude.{◌≡◌, ℕ, suc, ◌+◌, ◌-◌, ◌*◌, ◌/◌, ◌%◌, ◌^◌, ◌<◌, ◌≤◌, ℤ, pos, negsuc, Bool, if◌then◌else◌}
use Rattle.std.specs.Int.{bit_at}

-- a plane of 64 bits moved right by a number of places, left where it is negative
abbrev pub lowered : ℤ → ℕ → ℕ
lowered (pos n) plane = plane / 2 ^ n
lowered (negsuc n) plane = plane * 2 ^ suc n % 2 ^ 64

-- a plane is another moved left within a width, with 0 behind it
pub record IsMovedLeft (width places plane moved : ℕ) : Type 0 where
  pub below : moved < 2 ^ width
  pub low : (i : ℕ) → i < width → i < places → bit_at moved i ≡ 0
  pub high : (i : ℕ) → i < width → places ≤ i → bit_at moved i ≡ bit_at plane (i - places)

-- a plane is another moved right within a width, with 0 or, where signed, its top bit behind it
pub record IsMovedRight (signed : Bool) (width places plane moved : ℕ) : Type 0 where
  pub below : moved < 2 ^ width
  pub low : (i : ℕ) → i < width → places + i < width → bit_at moved i ≡ bit_at plane (places + i)
  pub high : (i : ℕ) → i < width → width ≤ places + i → bit_at moved i ≡ (if signed then bit_at plane (width - 1) else 0)
