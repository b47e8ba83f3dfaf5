-- Collecting the digits of a vector.
use Rattle.std.proofs.Common.{◌≡◌, ℕ, zero, suc, ◌+◌, ◌-◌, ◌≤◌, ◌<◌, ◌/◌, ◌%◌, ◌&&◌, ◌||◌, Bool, true, false, nat_lt, min, List, [], ◌∷◌, ◌++◌, length, get_or, set, take, drop, replicate, refl, sym, ap, ◌∙◌, append_assoc, arith, length-append, length-set}
use Rattle.std.proofs.lemmas.List.{append-nil, take_more_set, drop_more, take-replicate, length-replicate}
use Rattle.std.proofs.lemmas.Bool.{lt-ltb, ltb-true, false_from_ne_true}
use Rattle.vs_logic4.specs.declared.digit.Digit.{Digit}
use Rattle.vs_logic4.specs.declared.digit.Digit.TheVariants.{Zero, One}
use Rattle.vs_logic4.specs.Vectors.{of_number, digit_of_bit}
use Rattle.vs_lexer.specs.declared.collector.Collector.{Collector}
use Rattle.vs_lexer.specs.Numbers.{digit_vector, digits_vector, fits_from, is_lost_freely, highest, filling, fitted}
use Rattle.vs_lexer.specs.Collecting.{Collects}

take_short : (n : ℕ) (xs : List Digit) → length xs ≤ n → take n xs ≡ xs
take_short zero [] h = refl
take_short (suc n) [] h = refl
take_short zero (x ∷ xs) h = absurd (omega arith)
take_short (suc n) (x ∷ xs) h = ap (λ (l : List Digit). x ∷ l) (take_short n xs (omega arith))

take-append : (n : ℕ) (xs ys : List Digit) → take n (xs ++ ys) ≡ take n xs ++ take (n - length xs) ys
take-append zero [] ys = refl
take-append (suc n) [] ys = let whole : suc n - 0 ≡ suc n = omega arith in rw whole refl
take-append zero (x ∷ xs) ys = let none : 0 - length (x ∷ xs) ≡ 0 = omega arith in rw none refl
take-append (suc n) (x ∷ xs) ys =
    let less : suc n - length (x ∷ xs) ≡ n - length xs = omega arith in
    rw less (ap (λ (l : List Digit). x ∷ l) (take-append n xs ys))

take_take : (m n : ℕ) (xs : List Digit) → m ≤ n → take m (take n xs) ≡ take m xs
take_take zero n xs h = refl
take_take (suc m) zero xs h = absurd (omega arith)
take_take (suc m) (suc n) [] h = refl
take_take (suc m) (suc n) (x ∷ xs) h = ap (λ (l : List Digit). x ∷ l) (take_take m n xs (omega arith))

highest-push : (b : Digit) (ds : List Digit) (d : Digit) → highest b (ds ++ d ∷ []) ≡ d
highest-push b [] d = refl
highest-push b (e ∷ es) d = highest-push e es d

fits_from-push : (size n : ℕ) (b : Digit) (ds : List Digit) (d : Digit) → fits_from size n b (ds ++ d ∷ []) ≡ (fits_from size n b ds && (nat_lt (n + length ds) size || is_lost_freely (highest b ds) d))
fits_from-push size n b [] d =
    let at : n + 0 ≡ n = omega arith in
    rw at (elim (nat_lt n size || is_lost_freely b d) as (λ v. (v && true) ≡ (true && v)) [ true ↦ refl | false ↦ refl ])
fits_from-push size n b (e ∷ es) d =
    let at : n + length (e ∷ es) ≡ n + 1 + length es = omega arith in
    let step = fits_from-push size (n + 1) e es d in
    rw (at, step) (elim (nat_lt n size || is_lost_freely b e) as (λ v. (v && (fits_from size (n + 1) e es && (nat_lt (n + 1 + length es) size || is_lost_freely (highest e es) d))) ≡ ((v && fits_from size (n + 1) e es) && (nat_lt (n + 1 + length es) size || is_lost_freely (highest e es) d))) [ true ↦ refl | false ↦ refl ])

same_side : (n : ℕ) → nat_lt (min 64 n) 32 ≡ nat_lt n 32
same_side n =
    elim (nat_lt n 32) as (λ v. nat_lt n 32 ≡ v → nat_lt (min 64 n) 32 ≡ v) [
      | true ↦ λ h. (let below = ltb-true n 32 h in lt-ltb (min 64 n) 32 (omega arith))
      | false ↦ λ h. false_from_ne_true _ (λ t. let below = ltb-true (min 64 n) 32 t in let at : nat_lt n 32 ≡ true = lt-ltb n 32 (omega arith) in cc)
    ] refl

module _ (c : Collector) (ds : List Digit) (d : Digit) (was : Collects c ds) (f : Bool) (fits : f ≡ (c.fits && (nat_lt c.count 32 || is_lost_freely c.last d))) where
  pushed_fits : f ≡ fits_from 32 0 Zero (ds ++ d ∷ [])
  pushed_fits =
      let at : 0 + length ds ≡ length ds = omega arith in
      rw (fits, fits_from-push 32 0 Zero ds d, was.fits, was.last, was.count, same_side (length ds), at) refl

  pub pushed : c.count < 64 → Collects (record { digits = set c.digits c.count d; count = c.count + 1; last = d; fits = f }) (ds ++ d ∷ [])
  pushed room =
      let size : length (ds ++ d ∷ []) ≡ length ds + 1 = length-append ds (d ∷ []) in
      let here : c.count ≡ length ds = omega (arith, was.count) in
      let front : take c.count c.digits ≡ ds = was.digits ∙ take_short 64 ds (omega arith) in
      record {
        count = omega arith;
        digits = take_more_set c.digits c.count d (omega (arith, was.room)) ∙ ap (λ (l : List Digit). l ++ d ∷ []) front ∙ sym (take_short 64 (ds ++ d ∷ []) (omega arith));
        room = rw length-set was.room;
        last = sym (highest-push Zero ds d);
        fits = pushed_fits;
      }

  pub dropped : 64 ≤ c.count → Collects (record { digits = c.digits; count = c.count; last = d; fits = f }) (ds ++ d ∷ [])
  dropped full =
      let size : length (ds ++ d ∷ []) ≡ length ds + 1 = length-append ds (d ∷ []) in
      let long : 64 ≤ length ds = omega (arith, was.count) in
      let none : 64 - length ds ≡ 0 = omega arith in
      record {
        count = omega (arith, was.count);
        digits = was.digits ∙ sym (take-append 64 ds (d ∷ []) ∙ rw (none, append-nil) refl);
        room = was.room;
        last = sym (highest-push Zero ds d);
        fits = pushed_fits;
      }

-- the same digit again
pub collects_same : (c : Collector) (ds : List Digit) (times : ℕ) (d : Digit) → (times ≡ 0 → ⊥) → Collects c ((ds ++ d ∷ []) ++ replicate (times - 1) d) → Collects c (ds ++ replicate times d)
collects_same c ds zero d h x = absurd (h refl)
collects_same c ds (suc n) d h x =
    let less : suc n - 1 ≡ n = omega arith in
    rw (less, append_assoc) at x

-- a number's lowest bit, and those above
pub collects_number : (c : Collector) (ds : List Digit) (bits n : ℕ) (d : Digit) → (bits ≡ 0 → ⊥) → d ≡ digit_of_bit (n % 2) → Collects c ((ds ++ d ∷ []) ++ of_number (bits - 1) (n / 2)) → Collects c (ds ++ of_number bits n)
collects_number c ds zero n d h e x = absurd (h refl)
collects_number c ds (suc bits) n d h e x =
    let less : suc bits - 1 ≡ bits = omega arith in
    rw (less, append_assoc, e) at x

pub even_digit : (n : ℕ) → n % 2 ≡ 0 → Zero ≡ digit_of_bit (n % 2)
even_digit n e = rw e refl

pub odd_digit : (n : ℕ) → (n % 2 ≡ 0 → ⊥) → One ≡ digit_of_bit (n % 2)
odd_digit n h = let e : n % 2 ≡ 1 = omega arith in rw e refl

-- a byte more on the left
pub digits_vector-step : (bits : ℕ) (text : List ℕ) (i : ℕ) → 0 < i → i ≤ length text → digits_vector bits (drop (i - 1) text) ≡ digits_vector bits (drop i text) ++ digit_vector bits (get_or text (i - 1) 0)
digits_vector-step bits text i p h =
    let back : i - 1 + 1 ≡ i = omega arith in
    let here : drop (i - 1) text ≡ get_or text (i - 1) 0 ∷ drop (i - 1 + 1) text = drop_more text (i - 1) 0 (omega arith) in
    rw (here, back) refl

-- filled up, and cut at the size
pub fitted_is : (c : Collector) (ds : List Digit) (size : ℕ) (f : Digit) → size ≤ 64 → f ≡ filling (highest Zero ds) → Collects c (ds ++ replicate 64 f) → take size c.digits ≡ fitted size ds
fitted_is c ds size f h e x =
    let long : length (ds ++ replicate 64 f) ≡ length ds + 64 = length-append ds (replicate 64 f) ∙ ap (λ (n : ℕ). length ds + n) (length-replicate 64 f) in
    let full : c.count ≡ 64 = omega (arith, x.count) in
    let all : take c.count c.digits ≡ c.digits = take_short c.count c.digits (omega (arith, x.room)) in
    let same : c.digits ≡ take 64 (ds ++ replicate 64 f) = sym all ∙ x.digits in
    rw same (take_take size 64 (ds ++ replicate 64 f) h ∙ take-append size ds (replicate 64 f) ∙ ap (λ (l : List Digit). take size ds ++ l) (take-replicate (size - length ds) 64 f (omega arith)) ∙ rw e refl)
