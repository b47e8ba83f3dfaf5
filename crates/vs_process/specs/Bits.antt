-- Bits of a design, and ranges that have bits in common.
use Rattle.std.specs.Prelude.{ℕ, ◌≡◌, ◌<◌, ◌==◌, ◌&&◌, Bool, true, false, Option, Some, None, List, slice_get, nat_lt}
use Rattle.std.specs.List.{list_any}
use Rattle.vs_design.specs.declared.range.Bits.{Bits}
use Rattle.vs_design.specs.declared.range.BitRange.{BitRange}
use Rattle.vs_design.specs.declared.signal.Signal.{Signal}
use Rattle.vs_design.specs.Parts.{Parts}
use Rattle.vs_design.specs.Uses.{bits_meet, covers}
use Rattle.vs_design.specs.WellFormed.{bits_or_all, width_at}

-- the design has the bit: a signal, a word of it and a place in the word
pub record HasBit (d : Parts) (v w n : ℕ) : Type 0 where
  pub signal : Signal
  pub is : slice_get d.signals v ≡ Some signal
  pub word : w < signal.count
  pub place : n < signal.width

-- one of the ranges of a list and another range have a bit of the design in common
pub record SharesBit (d : Parts) (rs : List BitRange) (r : BitRange) : Type 0 where
  pub word : ℕ
  pub place : ℕ
  pub bit : HasBit d r.signal word place
  pub listed : list_any (covers r.signal word place) rs ≡ true
  pub has : covers r.signal word place r ≡ true

-- ---- ranges that meet

-- whether two ranges of a signal have a word in common: one that names no word has those of the signal
abbrev pub common_word : Option Signal → Option ℕ → Option ℕ → Bool
common_word None p q = false
common_word (Some s) None None = true
common_word (Some s) None (Some x) = nat_lt x s.count
common_word (Some s) (Some w) None = nat_lt w s.count
common_word (Some s) (Some w) (Some x) = w == x

-- whether they have a place in common: one that names no bits has those of a word
abbrev pub common_place : ℕ → Option Bits → Option Bits → Bool
common_place width p q = bits_meet (Some (bits_or_all width p)) (Some (bits_or_all width q))

-- whether two ranges have a bit in common: what is named whole has the bits of its signal, what is chosen has the bits that are chosen, in range or
-- not (profile)
abbrev pub meet_in : Parts → BitRange → BitRange → Bool
meet_in d r q =
    let s = slice_get d.signals r.signal in
    (r.signal == q.signal) && common_word s r.word q.word && common_place (width_at s) r.bits q.bits
