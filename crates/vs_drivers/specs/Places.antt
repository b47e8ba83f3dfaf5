-- Words of a signal and places of a word, and which of them ranges have.
use Rattle.std.specs.Prelude.{ℕ, ◌+◌, ◌≡◌, ◌<◌, ◌≤◌, true, Option, Some, None, List, min}
use Rattle.vs_design.specs.declared.range.Bits.{Bits}
use Rattle.vs_design.specs.declared.range.BitRange.{BitRange}
use Rattle.vs_design.specs.Uses.{has_bit, has_word}
use Rattle.vs_rules.specs.Paths.{Bit}
use Rattle.vs_drivers.specs.Ranges.{HaveBit}

-- the lowest place of a range
abbrev pub low_of : Option Bits → ℕ
low_of None = 0
low_of (Some b) = b.low

-- the place after the last one, of so many places
abbrev pub end_of : ℕ → Option Bits → ℕ
end_of width None = width
end_of width (Some b) = min (b.low + b.width) width

-- one of so many words, which two ranges have
abbrev pub SharesWord : ℕ → Option ℕ → Option ℕ → Type 0
SharesWord count p q = (w : ℕ) × (w < count) × (has_word p w ≡ true) × (has_word q w ≡ true)

-- one of so many places, which two ranges have
abbrev pub SharesPlace : ℕ → Option Bits → Option Bits → Type 0
SharesPlace width p q = (n : ℕ) × (n < width) × (has_bit p n ≡ true) × (has_bit q n ≡ true)

-- a bit by its signal, word and place
abbrev pub bit : ℕ → ℕ → ℕ → Bit
bit v w n = record { signal = v; word = w; place = n }

-- ranges have all bits of a word from one place to before another one
abbrev pub CoverPlaces : List BitRange → ℕ → ℕ → ℕ → ℕ → Type 0
CoverPlaces rs v w low end = (n : ℕ) → low ≤ n → n < end → HaveBit rs (bit v w n)

-- ranges don't have a bit, or have all bits from there to before a later place
abbrev pub EndsAt : List BitRange → ℕ → ℕ → ℕ → Option ℕ → Type 0
EndsAt rs v w place None = HaveBit rs (bit v w place) → ⊥
EndsAt rs v w place (Some end) = (place < end) × CoverPlaces rs v w place end
