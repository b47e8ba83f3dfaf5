-- Which bits of nets are driven, as a table.
use Rattle.std.specs.Prelude.{◌≡◌, ℕ, ◌+◌, ◌*◌, ◌<◌, ◌≤◌, ◌==◌, ◌&&◌, ◌⊎◌, Bool, true, false, nat_le, nat_lt, List, ◌++◌, Option, Some, None, length, slice_get, get_or, min, [], ◌∷◌}
use Rattle.std.specs.List.{list_any, IsDistinct, All}
use Rattle.vs_design.specs.declared.range.Bits.{Bits}
use Rattle.vs_design.specs.declared.range.BitRange.{BitRange}
use Rattle.vs_design.specs.declared.signal.Signal.{Signal}
use Rattle.vs_design.specs.WellFormed.{width_at, bits_or_all, share_a_bit}

-- places from one on up to another that were marked in a table, and whether one of them was marked before
pub record IsMarked (from to : ℕ) (old new : List Bool) (again : Bool) : Type 0 where
  pub size : length new ≡ length old
  pub inside : (i : ℕ) → from ≤ i → i < to → get_or new i false ≡ true
  pub outside : (i : ℕ) → (i < from) ⊎ (to ≤ i) → get_or new i false ≡ get_or old i false
  pub fresh : again ≡ false → (i : ℕ) → from ≤ i → i < to → get_or old i false ≡ false
  pub place : again ≡ true → (i : ℕ) × (from ≤ i) × (i < to) × (get_or old i false ≡ true)

-- whether a range has this bit of a net of the design
abbrev pub drives_place : List Signal → ℕ → ℕ → BitRange → Bool
drives_place ss signal bit r =
    let bits = bits_or_all (width_at (slice_get ss signal)) r.bits in
    (r.signal == signal) && nat_lt bit (width_at (slice_get ss signal)) && nat_le bits.low bit && nat_lt bit (bits.low + bits.width)

-- the bits of signals that ranges drive, in a table of 64 for each signal; no two of the ranges share a bit
pub record Marks (ss : List Signal) (done : List BitRange) (table : List Bool) : Type 0 where
  pub size : length table ≡ 64 * length ss
  pub each : (signal bit : ℕ) → signal < length ss → bit < 64 → get_or table (64 * signal + bit) false ≡ list_any (drives_place ss signal bit) done
  pub distinct : IsDistinct (share_a_bit ss) done

-- the signals of ranges are signals of the design
abbrev pub AreWithin : List Signal → List BitRange → Type 0
AreWithin ss ranges = All (λ (r : BitRange). r.signal < length ss) ranges

-- the first bit of a range below a size, and the one behind the last
abbrev pub IsReach : ℕ → Option Bits → ℕ × ℕ → Type 0
IsReach size bits p = (p.0 ≡ min (bits_or_all size bits).low size) × (p.1 ≡ min ((bits_or_all size bits).low + (bits_or_all size bits).width) size)

-- two of the ranges share a bit of this signal
pub record SharesBit (ss : List Signal) (ranges : List BitRange) (number : ℕ) : Type 0 where
  pub first : ℕ
  pub second : ℕ
  pub before : first < second
  pub one : BitRange
  pub other : BitRange
  pub one_stands : slice_get ranges first ≡ Some one
  pub other_stands : slice_get ranges second ≡ Some other
  pub shared : share_a_bit ss one other ≡ true
  pub signal : one.signal ≡ number

-- what marks the bits of a range behind ranges that are done: none of them shares a bit with it, or one does
abbrev pub MarksOne : List Signal → BitRange → List Bool → List Bool → Bool → Type 0
MarksOne ss r old new false = (done : List BitRange) → Marks ss done old → Marks ss (done ++ r ∷ []) new
MarksOne ss r old new true = (done : List BitRange) → Marks ss done old → SharesBit ss (done ++ r ∷ []) r.signal

-- the same of ranges one after another, with a signal of which a bit is shared
abbrev pub MarksAll : List Signal → List BitRange → List Bool → List Bool → Option ℕ → Type 0
MarksAll ss ranges old new None = (done : List BitRange) → Marks ss done old → Marks ss (done ++ ranges) new
MarksAll ss ranges old new (Some n) = (n < length ss) × ((done : List BitRange) → Marks ss done old → SharesBit ss (done ++ ranges) n)
