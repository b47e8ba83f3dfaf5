-- Masks of bits of a word.
use Rattle.std.specs.Prelude.{ℕ, ◌≡◌, ◌<◌, ◌≤◌, ◌^◌, ◌==◌, ◌&&◌, not, Option, Some, List, length, get_or, bit_and}
use Rattle.std.specs.Int.{bit_at}
use Rattle.vs_design.specs.vs_logic4.specs.declared.digit.Digit.{Digit}
use Rattle.vs_design.specs.vs_logic4.specs.declared.digit.Digit.TheVariants.{Zero}
use Rattle.vs_design.specs.vs_logic4.specs.declared.edge.Edge.{Edge}
use Rattle.vs_design.specs.vs_logic4.specs.Edges.{is_edge}
use Rattle.vs_design.specs.declared.range.Bits.{Bits}
use Rattle.vs_design.specs.Uses.{has_word}
use Rattle.vs_eval.specs.declared.masks.WordMask.{WordMask}
use Rattle.vs_eval.specs.Differences.{has_some}
use Rattle.vs_eval.specs.Masks.{every_word, has_bits}
use Rattle.vs_eval.specs.Waking.{edge_digit, is_edge_of}

-- a mask has the bits of a range
abbrev pub IsBitMask : Option Bits → ℕ → Type 0
IsBitMask bits mask = (number : ℕ) → number < 2 ^ 64 → not (bit_and mask number == 0) ≡ has_some bits number

-- a mask has the lowest bit of a range
abbrev pub IsLowestMask : Option Bits → ℕ → Type 0
IsLowestMask bits mask =
    (edge : Edge) (number : ℕ) (before after : List Digit) → length before ≡ length after → length before ≤ 64 →
    ((place : ℕ) → place < 64 → (bit_at number place == 1) ≡ is_edge edge (get_or before place Zero) (get_or after place Zero)) →
    not (bit_and mask number == 0) ≡ is_edge_of edge (edge_digit bits (Some before)) (edge_digit bits (Some after))

-- a mask has these bits of such a word
abbrev pub IsWordOf : Option ℕ → ℕ → WordMask → Type 0
IsWordOf only bits m = (word number : ℕ) → word < every_word → has_bits m word number ≡ (has_word only word && not (bit_and bits number == 0))
