-- Ranges that are the same.
use Rattle.std.proofs.Common.{◌≡◌, ℕ, ◌==◌, ◌&&◌, Bool, true, false, Option, Some, None, List, refl, sym, ◌∙◌, ap, subst}
use Rattle.std.specs.Cmp.{IsEquivalence}
use Rattle.std.specs.List.{Contains, dedup}
use Rattle.std.proofs.lemmas.Bool.{and_parts, and_from, eqb-true, false≢true}
use Rattle.vs_design.specs.vs_logic4.proofs.Basics.{same_self}
use Rattle.vs_design.specs.declared.range.BitRange.{BitRange}
use Rattle.vs_design.specs.declared.range.Bits.{Bits}
use Rattle.vs_drivers.specs.Same.{same_word, same_bits, same_range}

abbrev bits : ℕ → ℕ → Bits
bits low width = record { low = low; width = width }

abbrev range : ℕ → Option ℕ → Option Bits → BitRange
range signal word bits = record { signal = signal; word = word; bits = bits }

word_is : (p q : Option ℕ) → same_word p q ≡ true → p ≡ q
word_is None None h = refl
word_is None (Some w) h = absurd (false≢true h)
word_is (Some v) None h = absurd (false≢true h)
word_is (Some v) (Some w) h = ap Some (eqb-true v w h)

bits_are : (p q : Option Bits) → same_bits p q ≡ true → p ≡ q
bits_are None None h = refl
bits_are None (Some b) h = absurd (false≢true h)
bits_are (Some a) None h = absurd (false≢true h)
bits_are (Some a) (Some b) h =
    let both = and_parts (a.low == b.low) (a.width == b.width) h in
    ap Some (ap (λ (n : ℕ). bits n a.width) (eqb-true a.low b.low both.0) ∙ ap (λ (n : ℕ). bits b.low n) (eqb-true a.width b.width both.1))

pub same_is : (r q : BitRange) → same_range r q ≡ true → r ≡ q
same_is r q h =
    let all = and_parts ((r.signal == q.signal) && same_word r.word q.word) (same_bits r.bits q.bits) h in
    let two = and_parts (r.signal == q.signal) (same_word r.word q.word) all.0 in
    ap (λ (v : ℕ). range v r.word r.bits) (eqb-true r.signal q.signal two.0) ∙ ap (λ (w : Option ℕ). range q.signal w r.bits) (word_is r.word q.word two.1)
    ∙ ap (λ (b : Option Bits). range q.signal q.word b) (bits_are r.bits q.bits all.1)

word_self : (p : Option ℕ) → same_word p p ≡ true
word_self None = refl
word_self (Some w) = same_self w w refl

bits_self : (p : Option Bits) → same_bits p p ≡ true
bits_self None = refl
bits_self (Some b) = and_from (b.low == b.low) (b.width == b.width) (same_self b.low b.low refl) (same_self b.width b.width refl)

range_self : (r : BitRange) → same_range r r ≡ true
range_self r =
    and_from ((r.signal == r.signal) && same_word r.word r.word) (same_bits r.bits r.bits)
    (and_from (r.signal == r.signal) (same_word r.word r.word) (same_self r.signal r.signal refl) (word_self r.word)) (bits_self r.bits)

one_way : (r q : BitRange) (a b : Bool) → same_range r q ≡ a → same_range q r ≡ b → a ≡ b
one_way r q true true e f = refl
one_way r q false false e f = refl
one_way r q true false e f = absurd (false≢true (sym f ∙ ap (λ (x : BitRange). same_range x r) (sym (same_is r q e)) ∙ range_self r))
one_way r q false true e f = absurd (false≢true (sym e ∙ ap (λ (x : BitRange). same_range x q) (sym (same_is q r f)) ∙ range_self q))

pub same_equivalence : IsEquivalence same_range
same_equivalence = record {
  refl = range_self;
  symm = λ r q. one_way r q (same_range r q) (same_range q r) refl refl;
  congr = λ r q p h. ap (λ (x : BitRange). same_range x p) (same_is r q h);
}
