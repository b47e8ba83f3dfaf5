-- Bits that are in each of some ranges alike.
use Rattle.std.specs.Prelude.{ℕ, ◌≡◌, ◌<◌, ◌≤◌, Option, List}
use Rattle.std.specs.List.{Contains}
use Rattle.vs_design.specs.declared.range.Bits.{Bits}
use Rattle.vs_design.specs.declared.range.BitRange.{BitRange}
use Rattle.vs_design.specs.Uses.{covers, has_bit, has_word}

-- the places of a range from one to before another one, not beyond a bound, are in it alike; alike for words
pub record SamePlaces (bits : Option Bits) (place bound end : ℕ) : Type 0 where
  pub more : place < end
  pub bounded : end ≤ bound
  pub same : (n : ℕ) → place ≤ n → n < end → has_bit bits n ≡ has_bit bits place

pub record SameWords (words : Option ℕ) (word bound end : ℕ) : Type 0 where
  pub more : word < end
  pub bounded : end ≤ bound
  pub same : (w : ℕ) → word ≤ w → w < end → has_word words w ≡ has_word words word

-- each of some ranges has two bits of a signal alike
abbrev pub Alike : List BitRange → ℕ → ℕ → ℕ → ℕ → ℕ → Type 0
Alike rs v w n x m = (r : BitRange) → Contains rs r → covers v x m r ≡ covers v w n r

-- each of some ranges has the places of a word from one to before another one alike; and the words of a signal
pub record AlikePlaces (rs : List BitRange) (v w width place end : ℕ) : Type 0 where
  pub more : place < end
  pub bounded : end ≤ width
  pub alike : (n : ℕ) → place ≤ n → n < end → Alike rs v w place w n

pub record AlikeWords (rs : List BitRange) (v count word end : ℕ) : Type 0 where
  pub more : word < end
  pub bounded : end ≤ count
  pub alike : (w n : ℕ) → word ≤ w → w < end → Alike rs v word n w n
