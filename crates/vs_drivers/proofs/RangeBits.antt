-- Which of some ranges have a bit.
use Rattle.std.proofs.Common.{◌≡◌, ℕ, ◌+◌, ◌<◌, ◌≤◌, inl, inr, true, false, Option, Some, None, List, length, get_or, nat_le, nat_lt, refl, sym, ◌∙◌, ap, subst, arith, leb-true}
use Rattle.std.proofs.lemmas.Bool.{and_parts, and_from, false≢true, ltb-true, lt-ltb, le-leb}
use Rattle.std.proofs.lemmas.List.{get_or_default}
use Rattle.std.proofs.lemmas.List.Elements.{Contains-get_or}
use Rattle.vs_design.specs.declared.range.Bits.{Bits}
use Rattle.vs_design.specs.declared.range.BitRange.{BitRange}
use Rattle.vs_design.specs.Uses.{covers, has_bit}
use Rattle.vs_design.specs.vs_logic4.proofs.Basics.{below_or}
use Rattle.vs_drivers.specs.Places.{bit, end_of, CoverPlaces}
use Rattle.vs_drivers.specs.Ranges.{HaveBit}
use Rattle.vs_drivers.proofs.Words.{parted, joins}

-- from a place that a range has to its end it has all
until : (bits : Option Bits) (width place n : ℕ) → has_bit bits place ≡ true → place ≤ n → n < end_of width bits → has_bit bits n ≡ true
until None width place n h low high = refl
until (Some b) width place n h low high =
    let first : b.low ≤ place = leb-true b.low place (and_parts (nat_le b.low place) (nat_lt place (b.low + b.width)) h).0 in
    and_from (nat_le b.low n) (nat_lt n (b.low + b.width)) (le-leb b.low n (omega arith)) (lt-ltb n (b.low + b.width) (omega arith))

before_end : (bits : Option Bits) (width place : ℕ) → has_bit bits place ≡ true → place < width → place < end_of width bits
before_end None width place h low = low
before_end (Some b) width place h low =
    let last : place < b.low + b.width = ltb-true place (b.low + b.width) (and_parts (nat_le b.low place) (nat_lt place (b.low + b.width)) h).1 in
    omega arith

pub ends : (rs : List BitRange) (i : ℕ) (z : BitRange) (v w width place end : ℕ) → i < length rs → place < width → covers v w place (get_or rs i z) ≡ true →
    end ≡ end_of width (get_or rs i z).bits → (place < end) × CoverPlaces rs v w place end
ends rs i z v w width place end within low h e =
    let p = parted (get_or rs i z) v w place h in (
      subst (λ (x : ℕ). place < x) (sym e) (before_end (get_or rs i z).bits width place p.place low),
      λ n from to. record {
        range = get_or rs i z;
        listed = Contains-get_or rs i z within;
        has = joins (get_or rs i z) v w n p.of p.word (until (get_or rs i z).bits width place n p.place from (subst (λ (x : ℕ). n < x) e to));
      },
    )

-- ---- none has it

-- none of the first ranges has a bit
abbrev pub NoneOf : List BitRange → ℕ → ℕ → ℕ → ℕ → Type 0
NoneOf rs i v w n = (k : ℕ) (q : BitRange) → k < i → get_or rs k q ≡ q → covers v w n q ≡ false

pub none_more : (rs : List BitRange) (i : ℕ) (z : BitRange) (v w n : ℕ) → i < length rs → NoneOf rs i v w n → covers v w n (get_or rs i z) ≡ false → NoneOf rs (i + 1) v w n
none_more rs i z v w n within before here k q less is = elim (below_or k i less) [
  | inl l ↦ before k q l is
  | inr e ↦ subst (λ (x : BitRange). covers v w n x ≡ false) (get_or_default rs i z q within ∙ ap (λ (m : ℕ). get_or rs m q) (sym e) ∙ is) here
]

pub none_has : (rs : List BitRange) (i v w n : ℕ) → length rs ≤ i → NoneOf rs i v w n → HaveBit rs (bit v w n) → ⊥
none_has rs i v w n past none h =
    let x = h.listed in
    false≢true (sym (none x.0 h.range (omega (arith, x.1, past)) x.2) ∙ h.has)
