-- The value of decimal digits.
use Rattle.std.proofs.Common.{◌≡◌, ℕ, zero, suc, ◌+◌, ◌-◌, ◌*◌, ◌≤◌, ◌<◌, ◌^◌, ◌/◌, ◌%◌, true, false, if◌then◌else◌, nat_eq, List, [], ◌∷◌, length, get_or, drop, refl, sym, ap, ◌∙◌, arith, eq-eqb}
use Rattle.std.proofs.lemmas.List.{drop_more}
use Rattle.std.proofs.lemmas.Bool.{false_from_ne_true}
use borrow.Author.Tests.{eqb-true}
use Rattle.std.proofs.Math.Nat.{pow-succ', mul_assoc}
use Rattle.std.proofs.lemmas.Nat.{pow-add}
use Rattle.vs_logic4.specs.Vectors.{of_number}
use Rattle.vs_lexer.specs.Numbers.{value_after}

-- what is wrapped at 2^64 goes on as before
step_wraps : (m n d : ℕ) → m % 18446744073709551616 ≡ n % 18446744073709551616 → (m * 10 + d) % 18446744073709551616 ≡ (n * 10 + d) % 18446744073709551616
step_wraps m n d e = omega arith

value_after-wraps : (m n : ℕ) (bs : List ℕ) → m % 18446744073709551616 ≡ n % 18446744073709551616 → value_after m bs % 18446744073709551616 ≡ value_after n bs % 18446744073709551616
value_after-wraps m n [] e = e
value_after-wraps m n (b ∷ bs) e =
    let kept = value_after-wraps m n bs e in
    let grown = value_after-wraps (m * 10 + (b - 48)) (n * 10 + (b - 48)) bs (step_wraps m n (b - 48) e) in
    elim (nat_eq b 95) as (λ v. (if v then value_after m bs else value_after (m * 10 + (b - 48)) bs) % 18446744073709551616 ≡ (if v then value_after n bs else value_after (n * 10 + (b - 48)) bs) % 18446744073709551616) [ true ↦ kept | false ↦ grown ]

-- further digits never make the number smaller
pub value_after-grows : (n : ℕ) (bs : List ℕ) → n ≤ value_after n bs
value_after-grows n [] = omega arith
value_after-grows n (b ∷ bs) =
    let kept = value_after-grows n bs in
    let grown = value_after-grows (n * 10 + (b - 48)) bs in
    elim (nat_eq b 95) as (λ v. n ≤ (if v then value_after n bs else value_after (n * 10 + (b - 48)) bs)) [ true ↦ kept | false ↦ omega (arith, grown) ]

module _ (n : ℕ) (text : List ℕ) (i : ℕ) (within : i < length text) where
  pub value_after-mark : get_or text i 0 ≡ 95 → value_after n (drop (i + 1) text) ≡ value_after n (drop i text)
  value_after-mark e = sym (rw (drop_more text i 0 within, eq-eqb _ _ e) refl)

  pub value_after-digit : (m : ℕ) → (get_or text i 0 ≡ 95 → ⊥) → m ≡ n * 10 + (get_or text i 0 - 48) → value_after m (drop (i + 1) text) ≡ value_after n (drop i text)
  value_after-digit m e is =
      let other : nat_eq (get_or text i 0) 95 ≡ false = false_from_ne_true _ (λ t. e (eqb-true _ _ t)) in
      rw is (sym (rw (drop_more text i 0 within, other) refl))

  -- a number past the limit stays there
  pub value_after-past : (m : ℕ) → (get_or text i 0 ≡ 95 → ⊥) → m ≡ n * 10 + (get_or text i 0 - 48) → 4294967295 < m → value_after n (drop i text) ≡ value_after 0 text → value_after 0 text < 4294967296 → ⊥
  value_after-past m e is past same h =
      let step = value_after-digit m e is in
      let grows = value_after-grows m (drop (i + 1) text) in
      omega (arith, step, grows, same)

  -- a digit more, wrapped
  pub value_after-wrapped : (m : ℕ) → (get_or text i 0 ≡ 95 → ⊥) → m ≡ (n * 10 % 18446744073709551616 + (get_or text i 0 - 48)) % 18446744073709551616 → value_after m (drop (i + 1) text) % 18446744073709551616 ≡ value_after n (drop i text) % 18446744073709551616
  value_after-wrapped m e is =
      let same : m % 18446744073709551616 ≡ (n * 10 + (get_or text i 0 - 48)) % 18446744073709551616 = omega arith in
      value_after-wraps m (n * 10 + (get_or text i 0 - 48)) (drop (i + 1) text) same ∙ ap (λ (v : ℕ). v % 18446744073709551616) (value_after-digit (n * 10 + (get_or text i 0 - 48)) e refl)

-- a vector takes the low bits of a number alone
of_number_wraps : (w a b q : ℕ) → a ≡ b + q * 2 ^ w → of_number w a ≡ of_number w b
of_number_wraps zero a b q e = refl
of_number_wraps (suc w) a b q e =
    let double : 2 ^ suc w ≡ 2 * 2 ^ w = pow-succ' 2 w in
    let whole : a ≡ b + 2 * (q * 2 ^ w) = e ∙ rw double (omega arith) in
    let low : a % 2 ≡ b % 2 = omega arith in
    let high : a / 2 ≡ b / 2 + q * 2 ^ w = omega arith in
    rw (low, of_number_wraps w (a / 2) (b / 2) q high) refl

-- a number is what is left of it at 2^64, and so many times that
wrapped_parts : (n x y : ℕ) → 18446744073709551616 ≡ x * y → n ≡ n % 18446744073709551616 + n / 18446744073709551616 * x * y
wrapped_parts n x y e =
    let product : n / 18446744073709551616 * x * y ≡ n / 18446744073709551616 * 18446744073709551616 = mul_assoc (n / 18446744073709551616) x y ∙ ap (λ (v : ℕ). n / 18446744073709551616 * v) (sym e) in
    omega arith

pub of_number-wrapped : (w n : ℕ) → w ≤ 64 → of_number w (n % 18446744073709551616) ≡ of_number w n
of_number-wrapped w n h =
    let whole : 64 - w + w ≡ 64 = omega arith in
    let power : 18446744073709551616 ≡ 2 ^ (64 - w) * 2 ^ w = ap (λ (k : ℕ). 2 ^ k) (sym whole) ∙ pow-add 2 (64 - w) w in
    sym (of_number_wraps w n (n % 18446744073709551616) (n / 18446744073709551616 * 2 ^ (64 - w)) (wrapped_parts n (2 ^ (64 - w)) (2 ^ w) power))

-- at the end nothing is left to read
pub value_after-end : (n : ℕ) (text : List ℕ) (i : ℕ) → length text ≤ i → value_after n (drop i text) ≡ n
value_after-end n [] zero h = refl
value_after-end n [] (suc i) h = refl
value_after-end n (b ∷ bs) zero h = absurd (omega arith)
value_after-end n (b ∷ bs) (suc i) h = value_after-end n bs i (omega arith)
