-- Bits of words as masks.
use Rattle.std.specs.Prelude.{ℕ, ◌≡◌, ◌<◌, ◌≤◌, ◌+◌, ◌-◌, ◌%◌, ◌^◌, ◌==◌, ◌&&◌, ◌||◌, not, min, Bool, Option, Some, None, List, length, get_or, bit_and, if◌then◌else◌}
use Rattle.std.specs.Int.{bit_at}
use Rattle.vs_design.specs.vs_logic4.specs.declared.digit.Digit.{Digit}
use Rattle.vs_design.specs.vs_logic4.specs.declared.digit.Digit.TheVariants.{Zero}
use Rattle.vs_design.specs.vs_logic4.specs.declared.edge.Edge.{Edge}
use Rattle.vs_design.specs.vs_logic4.specs.declared.edge.Edge.TheVariants.{Any}
use Rattle.vs_design.specs.vs_logic4.specs.Edges.{is_edge}
use Rattle.vs_design.specs.vs_logic4.specs.Planes.{value_plane, unknown_plane}
use Rattle.vs_design.specs.declared.range.Bits.{Bits}
use Rattle.vs_design.specs.declared.range.BitRange.{BitRange}
use Rattle.vs_design.specs.declared.statement.EventTerm.{EventTerm}
use Rattle.vs_eval.specs.declared.masks.WordMask.{WordMask}
use Rattle.vs_eval.specs.declared.masks.WordChange.{WordChange}
use Rattle.vs_eval.specs.Differences.{difference, sees}
use Rattle.vs_eval.specs.Waking.{edge_word, term_wakes}

-- the word of a mask of all words; no signal has a word of this number
abbrev pub every_word : ℕ
every_word = 2 ^ 64 - 1

-- whether a mask has one of these bits of a word
abbrev pub has_bits : WordMask → ℕ → ℕ → Bool
has_bits m word number = not (bit_and m.bits number == 0) && ((m.word == every_word) || (m.word == word))

-- the bits of a range of bits, below the 64th
abbrev pub range_bits : Option Bits → ℕ
range_bits None = 2 ^ 64 - 1
range_bits (Some b) = 2 ^ min 64 (b.low + b.width) - 2 ^ b.low

-- the lowest of them
abbrev pub lowest_bit : Option Bits → ℕ
lowest_bit None = 1
lowest_bit (Some b) = if b.width == 0 then 0 else 2 ^ b.low % 2 ^ 64

-- these bits of one word or of all words
abbrev pub mask_in : Option ℕ → ℕ → WordMask
mask_in None bits = record { bits = bits; word = every_word }
mask_in (Some w) bits = if w == every_word then record { bits = 0; word = 0 } else record { bits = bits; word = w }

-- the mask of a range
abbrev pub range_mask : BitRange → WordMask
range_mask r = mask_in r.word (range_bits r.bits)

-- the mask of a range for an edge: of any change all its bits, else the lowest bit of its first word
abbrev pub edge_mask : Edge → BitRange → WordMask
edge_mask Any r = range_mask r
edge_mask edge r = mask_in (Some (edge_word r.word)) (lowest_bit r.bits)

-- the mask of a term
abbrev pub term_mask : EventTerm → WordMask
term_mask t = edge_mask t.edge t.range

-- a mask has the bits of a range
abbrev pub IsMaskOf : BitRange → WordMask → Type 0
IsMaskOf r m = (word number : ℕ) → word < every_word → number < 2 ^ 64 → has_bits m word number ≡ sees word number r

-- the bits of a number are the places at which the change of a word is such an edge
abbrev pub AreEdges : Edge → List Digit → List Digit → ℕ → Type 0
AreEdges Any before after number = number ≡ difference before after
AreEdges edge before after number = (place : ℕ) → place < 64 → (bit_at number place == 1) ≡ is_edge edge (get_or before place Zero) (get_or after place Zero)

-- a mask has one of the places at which the change of a word is an edge of a term's kind where that change wakes the term
abbrev pub IsTermMask : EventTerm → WordMask → Type 0
IsTermMask t m =
    (word number : ℕ) (before after : List Digit) → word < every_word → number < 2 ^ 64 → length before ≡ length after → length before ≤ 64 →
    AreEdges t.edge before after number → has_bits m word number ≡ term_wakes t.range.signal word (Some before) (Some after) t

-- the planes of a change are those of a word before and after it
pub record IsChangeOf (c : WordChange) (before after : List Digit) : Type 0 where
  pub value : c.value ≡ value_plane before
  pub unknown : c.unknown ≡ unknown_plane before
  pub new_value : c.new_value ≡ value_plane after
  pub new_unknown : c.new_unknown ≡ unknown_plane after
  pub size : length before ≡ length after
  pub limit : length before ≤ 64

-- the bits of a number are the places at which a change is such an edge
abbrev pub AreEdgesOf : Edge → WordChange → ℕ → Type 0
AreEdgesOf edge c number = (before after : List Digit) → IsChangeOf c before after → AreEdges edge before after number
