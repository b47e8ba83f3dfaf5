-- Identifier codes.
use Rattle.std.proofs.Common.{◌≡◌, ℕ, zero, suc, ◌+◌, ◌-◌, ◌/◌, ◌%◌, ◌<◌, ◌≤◌, List, [], ◌∷◌, ◌++◌, ◌^◌, length, refl, sym, ap, append_assoc, ◌∙◌, arith}
use Rattle.std.proofs.Common.{inl, inr, ◌*◌}
use Rattle.std.proofs.lemmas.Bool.{lt-ltb, le-ltb, cond-true, cond-false, cases_lt}
use Rattle.std.specs.Prelude.{nat_lt, if◌then◌else◌}
use Rattle.vs_vcd_writing.specs.Codes.{code, code_with_fuel}

-- fuel beyond the number changes nothing
pub code_with_fuel-enough : (f g n : ℕ) → n ≤ f → n ≤ g → code_with_fuel f n ≡ code_with_fuel g n
code_with_fuel-enough zero zero n p q = refl
code_with_fuel-enough zero (suc g) n p q = let none : n ≡ 0 = omega arith in rw none refl
code_with_fuel-enough (suc f) zero n p q = let none : n ≡ 0 = omega arith in rw none refl
code_with_fuel-enough (suc f) (suc g) n p q =
    ap (λ l. if nat_lt n 94 then (33 + n) ∷ [] else (33 + n % 94) ∷ l) (code_with_fuel-enough f g (n / 94 - 1) (omega arith) (omega arith))

pub code-short : (n : ℕ) → n < 94 → code n ≡ (33 + n) ∷ []
code-short zero h = refl
code-short (suc n) h = cond-true (nat_lt (suc n) 94) _ _ (lt-ltb (suc n) 94 h)

pub code-long : (n : ℕ) → 94 ≤ n → code n ≡ (33 + n % 94) ∷ code (n / 94 - 1)
code-long zero h = absurd (omega arith)
code-long (suc n) h =
    cond-false (nat_lt (suc n) 94) _ _ (le-ltb (suc n) 94 h)
    ∙ ap (λ l. (33 + suc n % 94) ∷ l) (code_with_fuel-enough n (suc n / 94 - 1) (suc n / 94 - 1) (omega arith) (omega arith))

-- one more character of a code is written
pub code_more : (old new text : List ℕ) (n : ℕ) → 94 ≤ n → new ≡ old ++ (33 + n % 94) ∷ [] → old ++ code n ≡ text → new ++ code (n / 94 - 1) ≡ text
code_more old new text n h push so_far =
    ap (λ l. l ++ code (n / 94 - 1)) push ∙ append_assoc old ((33 + n % 94) ∷ []) (code (n / 94 - 1)) ∙ ap (λ l. old ++ l) (sym (code-long n h)) ∙ so_far

-- a code has at most ten characters where its number has 64 bits
length-code_with_fuel : (k f n : ℕ) → n ≤ f → n < 94 ^ suc k → length (code_with_fuel f n) ≤ suc k
length-code_with_fuel k zero n p h = omega arith
length-code_with_fuel zero (suc f) n p h =
    omega (arith, ap length (cond-true (nat_lt n 94) ((33 + n) ∷ []) ((33 + n % 94) ∷ code_with_fuel f (n / 94 - 1)) (lt-ltb n 94 (omega (arith, h)))))
length-code_with_fuel (suc k) (suc f) n p h =
    elim (cases_lt n 94) [
      | inl short ↦ omega (arith, ap length (cond-true (nat_lt n 94) ((33 + n) ∷ []) ((33 + n % 94) ∷ code_with_fuel f (n / 94 - 1)) (lt-ltb n 94 short)))
      | inr long ↦
          let rest = length-code_with_fuel k f (n / 94 - 1) (omega arith) (omega (arith, h, long)) in
          omega (arith, rest, ap length (cond-false (nat_lt n 94) ((33 + n) ∷ []) ((33 + n % 94) ∷ code_with_fuel f (n / 94 - 1)) (le-ltb n 94 long)))
    ]

pub length-code : (n : ℕ) → n < 2 ^ 64 → length (code n) ≤ 10
length-code n h = length-code_with_fuel 9 n n (omega arith) (omega (arith, h))

-- one character of a code less is left
pub length-code-long : (n : ℕ) → 94 ≤ n → length (code n) ≡ length (code (n / 94 - 1)) + 1
length-code-long n h = ap length (code-long n h) ∙ omega arith

pub length-code-least : (n : ℕ) → 0 < length (code n)
length-code-least zero = omega arith
length-code-least (suc n) =
    elim (cases_lt (suc n) 94) [
      | inl short ↦ omega (arith, ap length (code-short (suc n) short))
      | inr long ↦ omega (arith, ap length (code-long (suc n) long))
    ]

-- one more than the number that a code is of
counted : List ℕ → ℕ
counted [] = 0
counted (c ∷ cs) = c - 32 + 94 * counted cs

counted-code_with_fuel : (f n : ℕ) → n ≤ f → counted (code_with_fuel f n) ≡ n + 1
unfolding counted
counted-code_with_fuel zero n h = let none : n ≡ 0 = omega arith in rw none refl
counted-code_with_fuel (suc f) n h =
    elim (cases_lt n 94) [
      | inl short ↦ ap counted (cond-true (nat_lt n 94) ((33 + n) ∷ []) ((33 + n % 94) ∷ code_with_fuel f (n / 94 - 1)) (lt-ltb n 94 short)) ∙ omega arith
      | inr long ↦
          let rest = counted-code_with_fuel f (n / 94 - 1) (omega arith) in
          ap counted (cond-false (nat_lt n 94) ((33 + n) ∷ []) ((33 + n % 94) ∷ code_with_fuel f (n / 94 - 1)) (le-ltb n 94 long)) ∙ omega (arith, rest)
    ]

-- different signals have different codes
pub code-injective : (m n : ℕ) → code m ≡ code n → m ≡ n
code-injective m n e =
    let same : counted (code m) ≡ counted (code n) = ap counted e in
    omega (arith, same, counted-code_with_fuel m m (omega arith), counted-code_with_fuel n n (omega arith))
