-- Case equality is equality.
use Rattle.std.proofs.Common.{◌≡◌, Bool, true, false, List, [], ◌∷◌, IsTrue, ◌↔◌, refl, sym, ap}
use Rattle.std.proofs.lemmas.Bool.{and_parts, false_from_ne_true, false≢true}
use Rattle.std.specs.Cmp.{IsPartialEquivalence, IsEquivalence, partial_equiv_from_equiv}
use Rattle.vs_logic4.specs.declared.digit.Digit.{Digit}
use Rattle.vs_logic4.specs.declared.digit.Digit.TheVariants.{Zero, One, X, Z}
use Rattle.vs_logic4.specs.Vectors.{same_digit, same_digits}

pub same_digit_self : (d : Digit) → same_digit d d ≡ true
same_digit_self Zero = refl
same_digit_self One = refl
same_digit_self X = refl
same_digit_self Z = refl

pub same_digit-true : (d e : Digit) → same_digit d e ≡ true → d ≡ e
same_digit-true Zero Zero h = refl
same_digit-true One One h = refl
same_digit-true X X h = refl
same_digit-true Z Z h = refl
same_digit-true _ _ h = cc

pub same_digit_comm : (d e : Digit) → same_digit d e ≡ same_digit e d
same_digit_comm Zero Zero = refl
same_digit_comm Zero One = refl
same_digit_comm Zero X = refl
same_digit_comm Zero Z = refl
same_digit_comm One Zero = refl
same_digit_comm One One = refl
same_digit_comm One X = refl
same_digit_comm One Z = refl
same_digit_comm X Zero = refl
same_digit_comm X One = refl
same_digit_comm X X = refl
same_digit_comm X Z = refl
same_digit_comm Z Zero = refl
same_digit_comm Z One = refl
same_digit_comm Z X = refl
same_digit_comm Z Z = refl

pub same_digits_self : (xs : List Digit) → same_digits xs xs ≡ true
same_digits_self [] = refl
same_digits_self (d ∷ ds) = rw (same_digit_self d, same_digits_self ds) refl

-- two vectors with the same digits are equal
pub same_digits-true : (xs ys : List Digit) → same_digits xs ys ≡ true → xs ≡ ys
same_digits-true [] [] h = refl
same_digits-true [] (e ∷ es) h = cc
same_digits-true (d ∷ ds) [] h = cc
same_digits-true (d ∷ ds) (e ∷ es) h =
    let parts = and_parts (same_digit d e) (same_digits ds es) h in
    let first = same_digit-true d e parts.0 in
    let rest = same_digits-true ds es parts.1 in
    cc

same_digits_comm : (xs ys : List Digit) → same_digits xs ys ≡ same_digits ys xs
same_digits_comm [] [] = refl
same_digits_comm [] (e ∷ es) = refl
same_digits_comm (d ∷ ds) [] = refl
same_digits_comm (d ∷ ds) (e ∷ es) = rw (same_digit_comm d e, same_digits_comm ds es) refl

pub same_digits_equivalence : IsEquivalence same_digits
same_digits_equivalence = record {
  refl = same_digits_self;
  symm = same_digits_comm;
  congr = λ x y z h. ap (λ t. same_digits t z) (same_digits-true x y h);
}

pub same_digits_partial : IsPartialEquivalence same_digits
same_digits_partial = partial_equiv_from_equiv same_digits_equivalence

-- a test that is true exactly where two vectors are equal is `same_digits`
pub same_digits-from_iff : (b : Bool) (xs ys : List Digit) → IsTrue b ↔ (xs ≡ ys) → b ≡ same_digits xs ys
same_digits-from_iff true xs ys h = sym (rw (← (h.0 refl)) (same_digits_self xs))
same_digits-from_iff false xs ys h =
    sym (false_from_ne_true (same_digits xs ys) (λ t. false≢true (h.1 (same_digits-true xs ys t))))
