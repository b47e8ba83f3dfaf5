-- A range that is not changed has the digits that it covers as they were.
use Rattle.std.proofs.Common.{◌≡◌, ℕ, zero, suc, ◌+◌, ◌-◌, ◌<◌, ◌≤◌, ◌&&◌, true, false, Option, Some, None, option_map, List, [], ◌∷◌, map, take, drop, slice_get, refl, sym, ◌∙◌, ap, subst, arith, eqb-true, leb-true, ltb-true}
use Rattle.std.specs.Prelude.{nat_le, nat_lt}
use Rattle.std.proofs.lemmas.Bool.{and_parts}
use Rattle.std.proofs.lemmas.Option.{slice_get-map, same_Some}
use Rattle.vs_design.specs.vs_logic4.specs.declared.digit.Digit.{Digit}
use Rattle.vs_design.specs.declared.range.Bits.{Bits}
use Rattle.vs_design.specs.declared.range.BitRange.{BitRange}
use Rattle.vs_design.specs.Stores.{Store, chosen_bits, chosen_words, is_changed, one_word, word_in, words_in}
use Rattle.vs_design.specs.Uses.{covers, has_bit, has_word, is_of}
use Rattle.vs_process.specs.vs_eval.specs.Laws.{digit_in, digit_of}
use Rattle.vs_process.proofs.Values.{unchanged}
use Rattle.vs_design.proofs.Stores.{word_in-words}
use Rattle.vs_design.specs.vs_logic4.proofs.Basics.{get-drop, get-take}

bit_at : (bits : Option Bits) (x y : List Digit) (k : ℕ) → has_bit bits k ≡ true → chosen_bits bits x ≡ chosen_bits bits y → slice_get x k ≡ slice_get y k
bit_at None x y k h same = ap (λ l. slice_get l k) same
bit_at (Some b) x y k h same =
    let parts = and_parts (nat_le b.low k) (nat_lt k (b.low + b.width)) h in
    let low : b.low ≤ k = leb-true b.low k parts.0 in
    let high : k < b.low + b.width = ltb-true k (b.low + b.width) parts.1 in
    let place : b.low + (k - b.low) ≡ k = omega (arith, low) in
    let near : k - b.low < b.width = omega (arith, low, high) in
    at_place x place near ∙ ap (λ l. slice_get l (k - b.low)) same ∙ sym (at_place y place near)
  where
    at_place : (z : List Digit) → b.low + (k - b.low) ≡ k → k - b.low < b.width → slice_get z k ≡ slice_get (take b.width (drop b.low z)) (k - b.low)
    at_place z place near = ap (slice_get z) (sym place) ∙ sym (get-drop b.low (k - b.low) z) ∙ sym (get-take b.width (k - b.low) (drop b.low z) near)

word_at : (bits : Option Bits) (a c : Option (List Digit)) (k : ℕ) → has_bit bits k ≡ true → option_map (chosen_bits bits) a ≡ option_map (chosen_bits bits) c → digit_in a k ≡ digit_in c k
word_at bits None None k h same = refl
word_at bits None (Some y) k h same = cc
word_at bits (Some x) None k h same = cc
word_at bits (Some x) (Some y) k h same = bit_at bits x y k h (same_Some (chosen_bits bits x) (chosen_bits bits y) same)

one_at : (bits : Option Bits) (a c : Option (List Digit)) (k : ℕ) → has_bit bits k ≡ true → map (chosen_bits bits) (one_word a) ≡ map (chosen_bits bits) (one_word c) → digit_in a k ≡ digit_in c k
one_at bits None None k h same = refl
one_at bits None (Some y) k h same = cc
one_at bits (Some x) None k h same = cc
one_at bits (Some x) (Some y) k h same = let e : chosen_bits bits x ≡ chosen_bits bits y = cc in bit_at bits x y k h e

words_at : (word : Option ℕ) (bits : Option Bits) (a c : List (List Digit)) (w k : ℕ) → has_word word w ≡ true → has_bit bits k ≡ true →
    map (chosen_bits bits) (chosen_words word a) ≡ map (chosen_bits bits) (chosen_words word c) → digit_in (slice_get a w) k ≡ digit_in (slice_get c w) k
words_at None bits a c w k at_w at_k same =
    word_at bits (slice_get a w) (slice_get c w) k at_k (sym (slice_get-map (chosen_bits bits) a w) ∙ ap (λ l. slice_get l w) same ∙ slice_get-map (chosen_bits bits) c w)
words_at (Some n) bits a c w k at_w at_k same =
    let e : n ≡ w = eqb-true n w at_w in
    subst (λ m. digit_in (slice_get a m) k ≡ digit_in (slice_get c m) k) e (one_at bits (slice_get a n) (slice_get c n) k at_k same)

-- a digit that an unchanged range covers is as it was
pub unchanged_digit : (a c : Store) (r : BitRange) (w k : ℕ) → is_changed a c r ≡ false → covers r.signal w k r ≡ true → digit_of a r.signal w k ≡ digit_of c r.signal w k
unchanged_digit a c r w k same h =
    let parts = and_parts (is_of r.signal r && has_word r.word w) (has_bit r.bits k) h in
    let at_w = (and_parts (is_of r.signal r) (has_word r.word w) parts.0).1 in
    ap (λ o. digit_in o k) (word_in-words (slice_get a r.signal) w)
    ∙ words_at r.word r.bits (words_in (slice_get a r.signal)) (words_in (slice_get c r.signal)) w k at_w parts.1 (unchanged a c r same)
    ∙ sym (ap (λ o. digit_in o k) (word_in-words (slice_get c r.signal) w))

-- the same by the signal
pub unchanged_covered : (a c : Store) (r : BitRange) (v w k : ℕ) → is_changed a c r ≡ false → covers v w k r ≡ true → digit_of a v w k ≡ digit_of c v w k
unchanged_covered a c r v w k same h =
    let e : r.signal ≡ v = eqb-true r.signal v (and_parts (is_of v r) (has_word r.word w) (and_parts (is_of v r && has_word r.word w) (has_bit r.bits k) h).0).0 in
    subst (λ u. digit_of a u w k ≡ digit_of c u w k) e (unchanged_digit a c r w k same (subst (λ u. covers u w k r ≡ true) (sym e) h))
