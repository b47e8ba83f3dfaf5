-- Ranges that cover a range, by words and places.
use Rattle.std.proofs.Common.{◌≡◌, ℕ, ◌+◌, ◌↔◌, ◌<◌, ◌≤◌, Bool, true, IsTrue, Option, Some, None, List, slice_get, nat_le, nat_lt, refl, sym, ◌∙◌, ap, subst, arith, leb-true, eqb-true, eq-eqb}
use Rattle.std.proofs.lemmas.Bool.{and_parts, and_from, ltb-true, lt-ltb, le-leb}
use Rattle.std.proofs.lemmas.Option.{same_Some}
use Rattle.vs_design.specs.declared.range.Bits.{Bits}
use Rattle.vs_design.specs.declared.range.BitRange.{BitRange}
use Rattle.vs_design.specs.declared.signal.Signal.{Signal}
use Rattle.vs_design.specs.Parts.{Parts}
use Rattle.vs_design.specs.Uses.{has_bit, has_word}
use Rattle.vs_drivers.specs.Places.{bit, low_of, end_of, CoverPlaces}
use Rattle.vs_drivers.specs.Ranges.{HaveBit, Cover}
use Rattle.vs_drivers.proofs.Words.{parted, joins}

-- the places below a width that a range has are those from its lowest one to before its end
from_low : (bits : Option Bits) (n : ℕ) → has_bit bits n ≡ true → low_of bits ≤ n
from_low None n h = omega arith
from_low (Some b) n h = leb-true b.low n (and_parts (nat_le b.low n) (nat_lt n (b.low + b.width)) h).0

to_end : (bits : Option Bits) (width n : ℕ) → n < width → has_bit bits n ≡ true → n < end_of width bits
to_end None width n low h = low
to_end (Some b) width n low h =
    let last : n < b.low + b.width = ltb-true n (b.low + b.width) (and_parts (nat_le b.low n) (nat_lt n (b.low + b.width)) h).1 in
    omega arith

inside : (bits : Option Bits) (width n : ℕ) → low_of bits ≤ n → n < end_of width bits → (n < width) × (has_bit bits n ≡ true)
inside None width n from to = (to, refl)
inside (Some b) width n from to =
    (omega arith, and_from (nat_le b.low n) (nat_lt n (b.low + b.width)) (le-leb b.low n from) (lt-ltb n (b.low + b.width) (omega arith)))

-- a range is covered where each word of it is, and back
pub cover_on : (d : Parts) (rs : List BitRange) (r : BitRange) (s : Signal) → slice_get d.signals r.signal ≡ Some s →
    ((w : ℕ) → w < s.count → has_word r.word w ≡ true → CoverPlaces rs r.signal w (low_of r.bits) (end_of s.width r.bits)) → Cover d rs r
cover_on d rs r s is all b there has =
    let p = parted r b.signal b.word b.place has in
    let same = same_Some there.signal s (sym (ap (slice_get d.signals) p.of ∙ there.is) ∙ is) in
    subst (λ (v : ℕ). HaveBit rs (bit v b.word b.place)) p.of
    (all b.word (subst (λ (x : Signal). b.word < x.count) same there.word) p.word b.place (from_low r.bits b.place p.place)
    (to_end r.bits s.width b.place (subst (λ (x : Signal). b.place < x.width) same there.place) p.place))

pub cover_back : (d : Parts) (rs : List BitRange) (r : BitRange) (s : Signal) → slice_get d.signals r.signal ≡ Some s → Cover d rs r →
    (w : ℕ) → w < s.count → has_word r.word w ≡ true → CoverPlaces rs r.signal w (low_of r.bits) (end_of s.width r.bits)
cover_back d rs r s is all w low word n from to =
    let i = inside r.bits s.width n from to in
    all (bit r.signal w n) (record { signal = s; is = is; word = low; place = i.0 }) (joins r r.signal w n refl word i.1)

pub all_words : (d : Parts) (rs : List BitRange) (r : BitRange) (s : Signal) → slice_get d.signals r.signal ≡ Some s → (low end : ℕ) → low ≡ low_of r.bits → end ≡ end_of s.width r.bits →
    r.word ≡ None → (b : Bool) → (IsTrue b ↔ ((w : ℕ) → w < s.count → CoverPlaces rs r.signal w low end)) → (IsTrue b ↔ Cover d rs r)
all_words d rs r s is low end l e none b h = (
  λ t. cover_on d rs r s is (λ w below word n from to. h.0 t w below n (subst (λ (x : ℕ). x ≤ n) (sym l) from) (subst (λ (x : ℕ). n < x) (sym e) to)),
  λ all. h.1 (λ w below n from to. cover_back d rs r s is all w below (ap (λ (o : Option ℕ). has_word o w) none) n
      (subst (λ (x : ℕ). x ≤ n) l from) (subst (λ (x : ℕ). n < x) e to)),
)

pub one_word : (d : Parts) (rs : List BitRange) (r : BitRange) (s : Signal) → slice_get d.signals r.signal ≡ Some s → (low end : ℕ) → low ≡ low_of r.bits → end ≡ end_of s.width r.bits →
    (word : ℕ) → r.word ≡ Some word → word < s.count → (b : Bool) → (IsTrue b ↔ CoverPlaces rs r.signal word low end) → (IsTrue b ↔ Cover d rs r)
one_word d rs r s is low end l e word own below b h = (
  λ t. cover_on d rs r s is (λ w also has n from to.
      subst (λ (x : ℕ). HaveBit rs (bit r.signal x n)) (eqb-true word w (sym (ap (λ (o : Option ℕ). has_word o w) own) ∙ has))
      (h.0 t n (subst (λ (x : ℕ). x ≤ n) (sym l) from) (subst (λ (x : ℕ). n < x) (sym e) to))),
  λ all. h.1 (λ n from to. cover_back d rs r s is all word below (ap (λ (o : Option ℕ). has_word o word) own ∙ eq-eqb word word refl) n
      (subst (λ (x : ℕ). x ≤ n) l from) (subst (λ (x : ℕ). n < x) e to)),
)

pub no_word : (d : Parts) (rs : List BitRange) (r : BitRange) (s : Signal) → slice_get d.signals r.signal ≡ Some s → (word : ℕ) → r.word ≡ Some word → s.count ≤ word → Cover d rs r
no_word d rs r s is word own past = cover_on d rs r s is (λ w below has.
    let same : word ≡ w = eqb-true word w (sym (ap (λ (o : Option ℕ). has_word o w) own) ∙ has) in absurd (omega (arith, same, past, below)))
