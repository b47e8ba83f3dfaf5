-- Which bits the stores of a design have.
use Rattle.std.proofs.Common.{◌≡◌, ℕ, zero, suc, ◌+◌, ◌<◌, ◌≤◌, ◌==◌, ◌&&◌, max, min, nat_le, nat_lt, true, Option, Some, None, option_map, List, [], ◌∷◌, map, length, replicate, slice_get, refl, sym, ◌∙◌, ap, subst, arith, eq-eqb, eqb-true, leb-true}
use Rattle.std.proofs.lemmas.Bool.{and_from, and_parts, lt-ltb, ltb-true}
use Rattle.std.proofs.lemmas.Option.{none-some, same_Some}
use Rattle.vs_design.specs.vs_logic4.specs.declared.digit.Digit.{Digit}
use Rattle.vs_design.specs.declared.design.Assign.{Assign}
use Rattle.vs_design.specs.declared.range.Bits.{Bits}
use Rattle.vs_design.specs.declared.range.BitRange.{BitRange}
use Rattle.vs_design.specs.declared.signal.Signal.{Signal}
use Rattle.vs_design.specs.Parts.{Parts}
use Rattle.vs_design.specs.Stores.{Store, start_store, start_words, start_word, word_of}
use Rattle.vs_design.specs.Uses.{covers, has_bit, has_word, is_of}
use Rattle.vs_design.specs.WellFormed.{bits_or_all, width_at}
use Rattle.vs_process.specs.vs_eval.specs.Laws.{digit_of, digit_in}
use Rattle.vs_process.proofs.Digits.{lengths, length_in}
use Rattle.vs_process.proofs.Ranges.{present}
use Rattle.vs_process.proofs.Stores.{shape}
use Rattle.vs_process.specs.Bits.{HasBit, common_place, common_word, meet_in}

repeated_within : (count : ℕ) (word : List Digit) (w n : ℕ) → slice_get (map length (replicate count word)) w ≡ Some n → w < count
repeated_within zero word w n h = absurd (none-some n h)
repeated_within (suc count) word zero n h = omega arith
repeated_within (suc count) word (suc w) n h = let less : w < count = repeated_within count word w n h in omega (arith, less)

started_word : (assigns : List Assign) (first : ℕ) (ss : List Signal) (v w n : ℕ) → length_in (slice_get (shape (start_words assigns first ss)) v) w ≡ Some n → (s : Signal) × (slice_get ss v ≡ Some s) × (w < s.count)
started_word assigns first [] v w n h = absurd (none-some n h)
started_word assigns first (s ∷ ss) zero w n h = (s, refl, repeated_within s.count (start_word assigns first s) w n h)
started_word assigns first (s ∷ ss) (suc v) w n h = started_word assigns (suc first) ss v w n h

word_some : (o : Option (List Digit)) (k : ℕ) (x : Digit) → digit_in o k ≡ Some x → (word : List Digit) × (o ≡ Some word)
word_some None k x h = absurd (none-some x h)
word_some (Some word) k x h = (word, refl)

-- a digit of a store of the design's sizes is a bit of the design
pub bit_there : (d : Parts) (store : Store) → shape store ≡ shape (start_store d) → (v w n : ℕ) (x : Digit) → digit_of store v w n ≡ Some x → HasBit d v w n
bit_there d store shaped v w n x h =
    let word = word_some (word_of store v w) n x h in
    let s = started_word d.assigns 0 d.signals v w (length word.0)
    (ap (λ l. length_in (slice_get l v) w) (sym shaped) ∙ sym (lengths store v w) ∙ ap (option_map length) word.1) in
    let below = present d store shaped v w n x h in
    record { signal = s.0; is = s.1; word = s.2; place = subst (λ o. n < width_at o) s.1 below }

-- ---- what two stores of one shape have

same_missing : (xs ys : List Digit) (k : ℕ) → length xs ≡ length ys → slice_get xs k ≡ None → slice_get ys k ≡ None
same_missing xs [] k e h = refl
same_missing [] (y ∷ ys) k e h = absurd (cc e)
same_missing (x ∷ xs) (y ∷ ys) zero e h = absurd (none-some x (sym h))
same_missing (x ∷ xs) (y ∷ ys) (suc k) e h = same_missing xs ys k (let n : length xs ≡ length ys = cc e in n) h

same_absent : (o p : Option (List Digit)) (k : ℕ) → option_map length o ≡ option_map length p → digit_in o k ≡ None → digit_in p k ≡ None
same_absent o None k e h = refl
same_absent None (Some ys) k e h = absurd (cc e)
same_absent (Some xs) (Some ys) k e h = same_missing xs ys k (same_Some (length xs) (length ys) e) h

-- what one doesn't have the other doesn't have
pub missing : (x y : Store) (v w n : ℕ) → shape x ≡ shape y → digit_of x v w n ≡ None → digit_of y v w n ≡ None
missing x y v w n e h = same_absent (word_of x v w) (word_of y v w) n (lengths x v w ∙ ap (λ l. length_in (slice_get l v) w) e ∙ sym (lengths y v w)) h

-- so they agree on a place if they do where it is a bit of the design
pub by_bit : (d : Parts) (a c : Store) → shape a ≡ shape (start_store d) → shape a ≡ shape c → (v w n : ℕ) → (HasBit d v w n → digit_of a v w n ≡ digit_of c v w n) → digit_of a v w n ≡ digit_of c v w n
by_bit d a c started shaped v w n same = by_digit (digit_of a v w n) refl
  where
    by_digit : (o : Option Digit) → digit_of a v w n ≡ o → digit_of a v w n ≡ digit_of c v w n
    by_digit None is = is ∙ sym (missing a c v w n shaped is)
    by_digit (Some x) is = same (bit_there d a started v w n x is)

-- ---- ranges that meet

common_of : (s : Signal) (p q : Option ℕ) (w : ℕ) → w < s.count → has_word p w ≡ true → has_word q w ≡ true → common_word (Some s) p q ≡ true
common_of s None None w lt h g = refl
common_of s None (Some x) w lt h g = lt-ltb x s.count (subst (λ n. n < s.count) (sym (eqb-true x w g)) lt)
common_of s (Some x) None w lt h g = lt-ltb x s.count (subst (λ n. n < s.count) (sym (eqb-true x w h)) lt)
common_of s (Some x) (Some y) w lt h g = eq-eqb x y (eqb-true x w h ∙ sym (eqb-true y w g))

-- a place of a word that a range has is one of the places that it stands for
within_all : (size k : ℕ) (o : Option Bits) → k < size → has_bit o k ≡ true → ((bits_or_all size o).low ≤ k) × (k < (bits_or_all size o).low + (bits_or_all size o).width)
within_all size k None lt h = (omega arith, omega (arith, lt))
within_all size k (Some b) lt h =
    let parts = and_parts (nat_le b.low k) (nat_lt k (b.low + b.width)) h in
    (leb-true b.low k parts.0, ltb-true k (b.low + b.width) parts.1)

common_at : (size k : ℕ) (p q : Option Bits) → k < size → has_bit p k ≡ true → has_bit q k ≡ true → common_place size p q ≡ true
common_at size k p q lt h g =
    let b = bits_or_all size p in
    let c = bits_or_all size q in
    let one = within_all size k p lt h in
    let other = within_all size k q lt g in
    let bl : b.low ≤ k = one.0 in
    let bh : k < b.low + b.width = one.1 in
    let cl : c.low ≤ k = other.0 in
    let ch : k < c.low + c.width = other.1 in
    lt-ltb (max b.low c.low) (min (b.low + b.width) (c.low + c.width)) (omega (arith, bl, bh, cl, ch))

-- two ranges that cover a bit of the design have it in common
pub meets_bit : (d : Parts) (v w n : ℕ) (r q : BitRange) → HasBit d v w n → covers v w n r ≡ true → covers v w n q ≡ true → meet_in d r q ≡ true
meets_bit d v w n r q bit h g =
    let hs = and_parts (is_of v r && has_word r.word w) (has_bit r.bits n) h in
    let gs = and_parts (is_of v q && has_word q.word w) (has_bit q.bits n) g in
    let hw = and_parts (is_of v r) (has_word r.word w) hs.0 in
    let gw = and_parts (is_of v q) (has_word q.word w) gs.0 in
    let at_r : r.signal ≡ v = eqb-true r.signal v hw.0 in
    let at_q : q.signal ≡ v = eqb-true q.signal v gw.0 in
    subst (λ o. ((r.signal == q.signal) && common_word o r.word q.word && common_place (width_at o) r.bits q.bits) ≡ true) (sym (ap (slice_get d.signals) at_r ∙ bit.is))
    (and_from (r.signal == q.signal && common_word (Some bit.signal) r.word q.word) (common_place bit.signal.width r.bits q.bits)
    (and_from (r.signal == q.signal) (common_word (Some bit.signal) r.word q.word) (eq-eqb r.signal q.signal (at_r ∙ sym at_q)) (common_of bit.signal r.word q.word w bit.word hw.1 gw.1))
    (common_at bit.signal.width n r.bits q.bits bit.place hs.1 gs.1))

-- ranges that meet are of one signal
pub meets_of : (d : Parts) (r q : BitRange) → meet_in d r q ≡ true → is_of q.signal r ≡ true
meets_of d r q h =
    let s = slice_get d.signals r.signal in
    (and_parts (r.signal == q.signal) (common_word s r.word q.word) (and_parts (r.signal == q.signal && common_word s r.word q.word) (common_place (width_at s) r.bits q.bits) h).0).0
