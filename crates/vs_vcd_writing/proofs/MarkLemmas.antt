-- Marks of blocks.
use Rattle.std.proofs.Common.{◌≡◌, ℕ, ◌+◌, ◌*◌, ◌-◌, ◌/◌, ◌%◌, ◌^◌, ◌<◌, ◌≤◌, true, false, Option, Some, None, List, bit_or, refl, sym, ap, ◌∙◌, arith, w64, inl, inr}
use Rattle.std.proofs.Math.Nat.{div-le_self}
use Rattle.std.proofs.lemmas.Nat.{shr-shr, le_or_l, le_or_r}
use Rattle.std.proofs.lemmas.Bool.{eq-eqb, ne_eqb, cases_lt}
use Rattle.std.proofs.lemmas.Nat.Bits.{bit_at-trailing_zeros, bit_at-zero, bit_at_above}
use Rattle.std.specs.Prelude.{◌==◌, slice_index}
use Rattle.std.specs.Int.{bit_at, trailing_zeros}
use Rattle.vs_vcd_writing.specs.Marks.{is_block_marked, is_marked, IsNextMark}
use Rattle.vs_design.specs.vs_logic4.proofs.Basics.{bit_at-shr as bit_at-shifted}

-- a block is unmarked where its bit is 0, and marked where it is 1
bit_unmarked : (marks : List ℕ) (b word place n : ℕ) → b / 64 ≡ word → b % 64 ≡ place → slice_index marks word ≡ n → bit_at n place ≡ 0 → is_block_marked marks b ≡ false
bit_unmarked marks b word place n w p is h =
    ap (λ i. bit_at (slice_index marks i) (b % 64) == 1) w ∙ ap (λ i. bit_at (slice_index marks word) i == 1) p ∙ ap (λ m. bit_at m place == 1) is
    ∙ ne_eqb (bit_at n place) 1 (λ e. omega (arith, e, h))

bit_marked : (marks : List ℕ) (b word place n : ℕ) → b / 64 ≡ word → b % 64 ≡ place → slice_index marks word ≡ n → bit_at n place ≡ 1 → is_block_marked marks b ≡ true
bit_marked marks b word place n w p is h =
    ap (λ i. bit_at (slice_index marks i) (b % 64) == 1) w ∙ ap (λ i. bit_at (slice_index marks word) i == 1) p ∙ ap (λ m. bit_at m place == 1) is
    ∙ eq-eqb (bit_at n place) 1 h

-- the lowest bit of a word from a place on, where there is one
pub mark_in : (marks : List ℕ) (word from n bits : ℕ) → from / 64 ≡ word → slice_index marks word ≡ n → n < 2 ^ 64 → bits ≡ n / 2 ^ (from % 64) → (bits ≡ 0 → ⊥)
    → (trailing_zeros w64 bits + from % 64 < 64) × IsNextMark marks from (Some (from + trailing_zeros w64 bits))
mark_in marks word from n bits w is small shifted some =
    let fits : bits < 2 ^ 64 = omega (arith, shifted, small, div-le_self n (2 ^ (from % 64))) in
    let lowest = bit_at-trailing_zeros w64 bits (omega (arith, some)) fits in
    let zeros = trailing_zeros w64 bits in
    let place = from % 64 in
    let set : bit_at n (place + zeros) ≡ 1 = sym (bit_at-shifted n place zeros) ∙ ap (λ m. bit_at m zeros) (sym shifted) ∙ lowest.1 in
    let within : place + zeros < 64 =
    elim (cases_lt (place + zeros) 64) [
      | inl lt ↦ lt
      | inr ge ↦ absurd (omega (arith, set, bit_at_above n 64 (place + zeros) small ge))
    ] in (
      omega (arith, within),
      (
        omega arith,
        bit_marked marks (from + zeros) word (place + zeros) n (omega (arith, w, within)) (omega (arith, within)) is set,
        λ b ge lt.
            let at : place + (b - from) ≡ b % 64 = omega (arith, w, within, ge, lt) in
            bit_unmarked marks b word (place + (b - from)) n (omega (arith, w, within, ge, lt)) (sym at) is
            (sym (bit_at-shifted n place (b - from)) ∙ ap (λ m. bit_at m (b - from)) (sym shifted) ∙ lowest.2 (b - from) (omega (arith, ge, lt))),
      ),
    )

unmarked_rest : (marks : List ℕ) (word from n b : ℕ) → from / 64 ≡ word → slice_index marks word ≡ n → n / 2 ^ (from % 64) ≡ 0 → from ≤ b → b < 64 * (word + 1)
    → is_block_marked marks b ≡ false
unmarked_rest marks word from n b w is none ge lt =
    let place = from % 64 in
    bit_unmarked marks b word (place + (b - from)) n (omega (arith, w, ge, lt)) (omega (arith, w, ge, lt)) is
    (sym (bit_at-shifted n place (b - from)) ∙ ap (λ m. bit_at m (b - from)) none ∙ bit_at-zero (b - from))

-- from a place on in a word without a bit there, the next mark is that of the words behind
pub mark_behind : (marks : List ℕ) (word from n : ℕ) (o : Option ℕ) → from / 64 ≡ word → slice_index marks word ≡ n → n / 2 ^ (from % 64) ≡ 0
    → IsNextMark marks (64 * (word + 1)) o → IsNextMark marks from o
mark_behind marks word from n None w is none rest =
    λ b ge.
    elim (cases_lt b (64 * (word + 1))) [
      | inl lt ↦ unmarked_rest marks word from n b w is none ge lt
      | inr far ↦ rest b far
    ]
mark_behind marks word from n (Some next) w is none rest = (
  omega (arith, w, rest.0),
  rest.1,
  λ b ge lt.
      elim (cases_lt b (64 * (word + 1))) [
        | inl near ↦ unmarked_rest marks word from n b w is none ge near
        | inr far ↦ rest.2 b far lt
      ],
)

-- the lowest bit of a word, where the words before it have none
pub mark_of_word : (marks : List ℕ) (word from n : ℕ) → slice_index marks word ≡ n → n < 2 ^ 64 → (n ≡ 0 → ⊥) → 64 * from ≤ 64 * word
    → ((b : ℕ) → 64 * from ≤ b → b < 64 * word → is_block_marked marks b ≡ false)
    → (trailing_zeros w64 n < 64) × IsNextMark marks (64 * from) (Some (64 * word + trailing_zeros w64 n))
mark_of_word marks word from n is small some order before =
    let lowest = bit_at-trailing_zeros w64 n (omega (arith, some)) small in
    let zeros = trailing_zeros w64 n in (
      lowest.0,
      (
        omega (arith, order),
        bit_marked marks (64 * word + zeros) word zeros n (omega (arith, lowest.0)) (omega (arith, lowest.0)) is lowest.1,
        λ b ge lt.
            elim (cases_lt b (64 * word)) [
              | inl near ↦ before b ge near
              | inr far ↦ bit_unmarked marks b word (b - 64 * word) n (omega (arith, far, lt, lowest.0)) (omega (arith, far, lt, lowest.0)) is (lowest.2 (b - 64 * word) (omega (arith, far, lt)))
            ],
      ),
    )

-- four words more have no mark
pub four_more : (marks : List ℕ) (from word : ℕ)
    → bit_or (bit_or (bit_or (slice_index marks word) (slice_index marks (word + 1))) (slice_index marks (word + 2))) (slice_index marks (word + 3)) ≡ 0
    → ((w : ℕ) → from ≤ w → w < word → slice_index marks w ≡ 0) → (w : ℕ) → from ≤ w → w < word + 4 → slice_index marks w ≡ 0
four_more marks from word none before w ge lt =
    let a = slice_index marks word in
    let b = slice_index marks (word + 1) in
    let c = slice_index marks (word + 2) in
    let d = slice_index marks (word + 3) in
    let one = le_or_l (bit_or (bit_or a b) c) d in
    let two = le_or_l (bit_or a b) c in
    elim (cases_lt w word) [
      | inl near ↦ before w ge near
      | inr far ↦
          elim (cases_lt w (word + 1)) [
            | inl first ↦ let at : w ≡ word = omega arith in ap (slice_index marks) at ∙ omega (arith, none, one, two, le_or_l a b)
            | inr second ↦
                elim (cases_lt w (word + 2)) [
                  | inl here ↦ let at : w ≡ word + 1 = omega arith in ap (slice_index marks) at ∙ omega (arith, none, one, two, le_or_r a b)
                  | inr third ↦
                      elim (cases_lt w (word + 3)) [
                        | inl there ↦ let at : w ≡ word + 2 = omega arith in ap (slice_index marks) at ∙ omega (arith, none, one, le_or_r (bit_or a b) c)
                        | inr last ↦ let at : w ≡ word + 3 = omega arith in ap (slice_index marks) at ∙ omega (arith, none, le_or_r (bit_or (bit_or a b) c) d)
                      ]
                ]
          ]
    ]

-- the blocks of words without a mark
pub unmarked_words : (marks : List ℕ) (from to : ℕ) → ((w : ℕ) → from ≤ w → w < to → slice_index marks w ≡ 0)
    → (b : ℕ) → 64 * from ≤ b → b < 64 * to → is_block_marked marks b ≡ false
unmarked_words marks from to none b ge lt = bit_unmarked marks b (b / 64) (b % 64) 0 refl refl (none (b / 64) (omega arith) (omega arith)) (bit_at-zero (b % 64))

-- ---- signals

-- a signal of a marked block is marked
pub marked_in : (marks : List ℕ) (block i : ℕ) → is_block_marked marks block ≡ true → 8 * block ≤ i → i < 8 * block + 8 → is_marked marks i ≡ true
marked_in marks block i h ge lt = let at : i / 8 ≡ block = omega (arith, ge, lt) in ap (is_block_marked marks) at ∙ h

-- a signal before the next mark isn't
pub unmarked_before : (marks : List ℕ) (from block i : ℕ) → IsNextMark marks from (Some block) → 8 * from ≤ i → i < 8 * block → is_marked marks i ≡ false
unmarked_before marks from block i h ge lt = h.2 (i / 8) (omega (arith, ge)) (omega (arith, lt))

-- without a next mark none is
pub unmarked_all : (marks : List ℕ) (from i : ℕ) → IsNextMark marks from None → 8 * from ≤ i → is_marked marks i ≡ false
unmarked_all marks from i h ge = h (i / 8) (omega (arith, ge))
