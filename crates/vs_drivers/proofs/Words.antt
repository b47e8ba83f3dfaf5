-- Bits of a design by words and places.
use Rattle.std.proofs.Common.{◌≡◌, ℕ, ◌<◌, ◌&&◌, true, Some, List, length, ltb, get_or, slice_get, refl, sym, ◌∙◌, ap, subst, eqb-true, eq-eqb}
use Rattle.std.proofs.lemmas.Bool.{and_parts, and_from, ltb-true}
use Rattle.std.proofs.lemmas.Option.{same_Some, slice_get_read}
use Rattle.vs_design.specs.declared.range.BitRange.{BitRange}
use Rattle.vs_design.specs.declared.signal.Signal.{Signal}
use Rattle.vs_design.specs.Parts.{Parts}
use Rattle.vs_design.specs.Uses.{covers, has_bit, has_word, is_of}
use Rattle.vs_drivers.specs.Places.{bit, SharesWord, SharesPlace}
use Rattle.vs_drivers.specs.Ranges.{Share}

-- the signal of a number, as it is looked up
pub there : (d : Parts) (ss : List Signal) (v : ℕ) (s : Signal) → ss ≡ d.signals → true ≡ ltb v (length ss) → s ≡ get_or ss v s → slice_get d.signals v ≡ Some s
there d ss v s same within is =
    ap (λ (x : List Signal). slice_get x v) (sym same) ∙ slice_get_read ss (length ss) v s refl (ltb-true v (length ss) (sym within)) is

-- what it is for a range to have a bit
pub record Parted (r : BitRange) (v w n : ℕ) : Type 0 where
  pub of : r.signal ≡ v
  pub word : has_word r.word w ≡ true
  pub place : has_bit r.bits n ≡ true

pub parted : (r : BitRange) (v w n : ℕ) → covers v w n r ≡ true → Parted r v w n
parted r v w n h =
    let two = and_parts (is_of v r && has_word r.word w) (has_bit r.bits n) h in
    let one = and_parts (is_of v r) (has_word r.word w) two.0 in record { of = eqb-true r.signal v one.0; word = one.1; place = two.1 }

pub joins : (r : BitRange) (v w n : ℕ) → r.signal ≡ v → has_word r.word w ≡ true → has_bit r.bits n ≡ true → covers v w n r ≡ true
joins r v w n of word place =
    and_from (is_of v r && has_word r.word w) (has_bit r.bits n) (and_from (is_of v r) (has_word r.word w) (eq-eqb r.signal v of) word) place

-- a word and a place in common are a bit in common
pub shared : (d : Parts) (r q : BitRange) (s : Signal) → slice_get d.signals r.signal ≡ Some s → r.signal ≡ q.signal →
    SharesWord s.count r.word q.word → SharesPlace s.width r.bits q.bits → Share d r q
shared d r q s is same word place = record {
  bit = bit r.signal word.0 place.0;
  is = record { signal = s; is = is; word = word.1; place = place.1 };
  has = joins r r.signal word.0 place.0 refl word.2 place.2;
  other_has = joins q r.signal word.0 place.0 (sym same) word.3 place.3;
}

-- and back
pub share_word : (d : Parts) (r q : BitRange) (s : Signal) → slice_get d.signals r.signal ≡ Some s → Share d r q → SharesWord s.count r.word q.word
share_word d r q s is h =
    let one = parted r h.bit.signal h.bit.word h.bit.place h.has in
    let other = parted q h.bit.signal h.bit.word h.bit.place h.other_has in
    let same = same_Some h.is.signal s (sym (ap (slice_get d.signals) one.of ∙ h.is.is) ∙ is) in
    (h.bit.word, subst (λ (x : Signal). h.bit.word < x.count) same h.is.word, one.word, other.word)

pub share_place : (d : Parts) (r q : BitRange) (s : Signal) → slice_get d.signals r.signal ≡ Some s → Share d r q → SharesPlace s.width r.bits q.bits
share_place d r q s is h =
    let one = parted r h.bit.signal h.bit.word h.bit.place h.has in
    let other = parted q h.bit.signal h.bit.word h.bit.place h.other_has in
    let same = same_Some h.is.signal s (sym (ap (slice_get d.signals) one.of ∙ h.is.is) ∙ is) in
    (h.bit.place, subst (λ (x : Signal). h.bit.place < x.width) same h.is.place, one.place, other.place)
