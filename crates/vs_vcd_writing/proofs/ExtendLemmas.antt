-- Digits that were dropped on the left are given back by extending.
use Rattle.std.proofs.Common.{◌≡◌, ℕ, zero, suc, ◌+◌, ◌-◌, true, List, [], ◌∷◌, ◌++◌, length, replicate, refl, sym, ap, ◌∙◌, subst, arith}
use Rattle.std.proofs.lemmas.Bool.{cond-true, cond-false, cases_Bool}
use Rattle.std.proofs.Common.{inl, inr}
use Rattle.vs_design.specs.vs_logic4.specs.declared.digit.Digit.{Digit}
use Rattle.vs_design.specs.vs_logic4.specs.declared.digit.Digit.TheVariants.{Zero, One, X, Z}
use Rattle.vs_vcd_writing.specs.Values.{is_extension, shortened}
use Rattle.vs_vcd_writing.specs.Shown.{left_digit, extended}

left_digit-left_digit : (d : Digit) → left_digit (left_digit d) ≡ left_digit d
left_digit-left_digit Zero = refl
left_digit-left_digit One = refl
left_digit-left_digit X = refl
left_digit-left_digit Z = refl

-- a digit that is dropped is the one that extending puts there
left_of_extension : (d e : Digit) → is_extension d e ≡ true → left_digit e ≡ d
left_of_extension Zero Zero h = refl
left_of_extension Zero One h = refl
left_of_extension X X h = refl
left_of_extension Z Z h = refl
left_of_extension _ _ h = cc

-- one digit more is put in front: the one that extends the first
front_more : (m : ℕ) (f e : Digit) (fs h : List Digit) → replicate m (left_digit f) ++ f ∷ fs ≡ e ∷ h → replicate (suc m) (left_digit f) ++ f ∷ fs ≡ left_digit e ∷ e ∷ h
front_more zero f e fs h same =
    let first : f ≡ e = cc in
    ap (λ l. left_digit f ∷ l) same ∙ ap (λ d. left_digit d ∷ e ∷ h) first
front_more (suc m) f e fs h same =
    let first : left_digit f ≡ e = cc in
    ap (λ l. left_digit f ∷ l) same ∙ ap (λ d. d ∷ e ∷ h) (sym (left_digit-left_digit f) ∙ ap left_digit first)

-- digits extend to others: they aren't longer, and so many more put in front give those
record Extends (ds whole : List Digit) : Type 0 where
  pub first : Digit
  pub rest : List Digit
  pub parts : ds ≡ first ∷ rest
  pub more : ℕ
  pub counts : more + length ds ≡ length whole
  pub gives : replicate more (left_digit first) ++ first ∷ rest ≡ whole

extends_more : (ds h : List Digit) (d e : Digit) → is_extension d e ≡ true → Extends ds (e ∷ h) → Extends ds (d ∷ e ∷ h)
extends_more ds h d e x r = record {
  first = r.first;
  rest = r.rest;
  parts = r.parts;
  more = suc r.more;
  counts = let c = r.counts in omega (arith, c);
  gives = front_more r.more r.first e r.rest h r.gives ∙ ap (λ l. l ∷ e ∷ h) (left_of_extension d e x);
}

shortened-Extends : (d : Digit) (ds : List Digit) → Extends (shortened (d ∷ ds)) (d ∷ ds)
shortened-Extends d [] = record { first = d; rest = []; parts = refl; more = 0; counts = omega arith; gives = refl }
shortened-Extends d (e ∷ ds) =
    elim (cases_Bool (is_extension d e)) [
      | inl gone ↦ subst (λ l. Extends l (d ∷ e ∷ ds)) (sym (cond-true (is_extension d e) (shortened (e ∷ ds)) (d ∷ e ∷ ds) gone)) (extends_more (shortened (e ∷ ds)) ds d e gone (shortened-Extends e ds))
      | inr kept ↦ subst (λ l. Extends l (d ∷ e ∷ ds)) (sym (cond-false (is_extension d e) (shortened (e ∷ ds)) (d ∷ e ∷ ds) kept))
          (record { first = d; rest = e ∷ ds; parts = refl; more = 0; counts = omega arith; gives = refl })
    ]

extended-Extends : (n : ℕ) (ds whole : List Digit) → n ≡ length whole → Extends ds whole → extended n ds ≡ whole
extended-Extends n ds whole size r =
    let count : n - length (r.first ∷ r.rest) ≡ r.more = omega (arith, r.counts, ap length r.parts, size) in
    ap (extended n) r.parts ∙ ap (λ m. replicate m (left_digit r.first) ++ r.first ∷ r.rest) count ∙ r.gives

-- what was dropped comes back
pub extended-shortened : (n : ℕ) (ds : List Digit) → n ≡ length ds → extended n (shortened ds) ≡ ds
extended-shortened n [] size = refl
extended-shortened n (d ∷ ds) size = extended-Extends n (shortened (d ∷ ds)) (d ∷ ds) size (shortened-Extends d ds)
