-- Parts of vectors and joined vectors, by their planes.
use Rattle.std.proofs.Common.{◌≡◌, ℕ, zero, suc, ◌+◌, ◌-◌, ◌*◌, ◌/◌, ◌%◌, ◌^◌, ◌<◌, ◌≤◌, ℤ, pos, negsuc, ◌+ℤ◌, neg_ℤ, min, List, [], ◌∷◌, ◌++◌, length, get_or, bit_and, bit_or, refl, sym, ap, ◌∙◌, ⊎_elim, arith}
use Rattle.std.specs.Int.{bit_at}
use Rattle.std.specs.Int.RustNames.{bit_xor}
use Rattle.std.proofs.Math.Nat.{mul-le-mul_right, mul-div_cancel_left}
use Rattle.std.proofs.lemmas.Bool.{cases_lt}
use Rattle.std.proofs.lemmas.List.{length-append, get_or_append_left, get_or-append_right, get_or_past}
use Rattle.std.proofs.lemmas.Nat.{xor_lt, and_le_r, pow-add, pow_pos, pow_below, shl_whole, or_shifted, mul-add-lt}
use Rattle.std.proofs.lemmas.Nat.Bits.{bit_at_and, bit_at_xor, bit_at_ones, bit_at_ones_above, bit_at_above, bit_at-lt, bit_at_cat_low, bit_at_cat_high}
use Rattle.vs_logic4.specs.declared.digit.Digit.{Digit}
use Rattle.vs_logic4.specs.declared.digit.Digit.TheVariants.{X}
use Rattle.vs_logic4.specs.Planes.{digit_of_bits, digits_of_planes, ArePlanes}
use Rattle.vs_logic4.specs.PlaneLaws.{length-digits_of_planes, get_or-digits_of_planes, planes_are}
use Rattle.vs_logic4.specs.Extensions.{masked_below}
use Rattle.vs_logic4.specs.Lengths.{length-selected, length-with_part}
use Rattle.vs_logic4.specs.Moves.{lowered}
use Rattle.vs_logic4.specs.Parts.{digit_at, selected, replaced_from, with_part, concatenation, replication}
use Rattle.vs_logic4.proofs.Bits.{agree2_at, agree4_at, ones_below}
use Rattle.vs_logic4.proofs.Moves.{bit_or_zero, bit_at-lowered}
use Rattle.vs_logic4.proofs.Basics.{plus_suc, plus_zero}

-- a digit of a part
pub get_or-selected : (low : ℤ) (n : ℕ) (ds : List Digit) (i : ℕ) → i < n → get_or (selected low n ds) i X ≡ digit_at (low +ℤ pos i) ds X
get_or-selected low zero ds i h = absurd (omega arith)
get_or-selected low (suc n) ds zero h = ap (λ z. digit_at z ds X) (sym (plus_zero low))
get_or-selected low (suc n) ds (suc i) h =
    get_or-selected (low +ℤ pos 1) n ds i (omega arith) ∙ ap (λ z. digit_at z ds X) (plus_suc low i)

-- a digit of a vector with a part put in
pub get_or-replaced_from : (z : ℤ) (part ds : List Digit) (i : ℕ) → i < length ds → get_or (replaced_from z part ds) i X ≡ digit_at (z +ℤ pos i) part (get_or ds i X)
get_or-replaced_from z part [] i h = absurd (omega arith)
get_or-replaced_from z part (d ∷ ds) zero h = ap (λ y. digit_at y part d) (sym (plus_zero z))
get_or-replaced_from z part (d ∷ ds) (suc i) h =
    get_or-replaced_from (z +ℤ pos 1) part ds i (omega arith) ∙ ap (λ y. digit_at y part (get_or ds i X)) (plus_suc z i)

bit_or_zero-lt : (z : ℤ) (p : ℕ) → bit_or_zero z p < 2
bit_or_zero-lt (pos j) p = bit_at-lt p j
bit_or_zero-lt (negsuc j) p = omega arith

-- ---- a part
-- a plane turned over, moved and turned back: 1 comes in
abbrev pub window : ℤ → ℕ → ℕ → ℕ → ℕ
window low w n p = bit_xor (bit_and (lowered low (bit_xor p (2 ^ w - 1))) (2 ^ n - 1)) (2 ^ n - 1)

window_below : (low : ℤ) (w n p : ℕ) → window low w n p < 2 ^ n
window_below low w n p =
    xor_lt n (bit_and (lowered low (bit_xor p (2 ^ w - 1))) (2 ^ n - 1)) (2 ^ n - 1) (masked_below (lowered low (bit_xor p (2 ^ w - 1))) n) (ones_below n)

bit_at-window : (low : ℤ) (w n p i : ℕ) → n ≤ 64 → i < n → bit_at (window low w n p) i ≡ (bit_or_zero (low +ℤ pos i) (bit_xor p (2 ^ w - 1)) + 1) % 2
bit_at-window low w n p i most h =
    let turned = bit_xor p (2 ^ w - 1) in
    let moved = bit_at-lowered low turned i (omega arith) in
    bit_at_xor (bit_and (lowered low turned) (2 ^ n - 1)) (2 ^ n - 1) i
    ∙ rw (bit_at_and (lowered low turned) (2 ^ n - 1) i, bit_at_ones n i h, moved) (omega (arith, bit_or_zero-lt (low +ℤ pos i) turned))

in_window : (z : ℤ) (w v u : ℕ) → v < 2 ^ w → u < 2 ^ w → digit_of_bits ((bit_or_zero z (bit_xor v (2 ^ w - 1)) + 1) % 2) ((bit_or_zero z (bit_xor u (2 ^ w - 1)) + 1) % 2) ≡ digit_at z (digits_of_planes w v u) X
in_window (negsuc j) w v u h k = refl
in_window (pos j) w v u h k = ⊎_elim
    (λ (l : j < w).
    rw (get_or-digits_of_planes w v u j X l, bit_at_xor v (2 ^ w - 1) j, bit_at_xor u (2 ^ w - 1) j, bit_at_ones w j l)
    (agree2_at (λ a b. digit_of_bits (((a + 1) % 2 + 1) % 2) (((b + 1) % 2 + 1) % 2)) digit_of_bits refl (bit_at v j) (bit_at u j) (bit_at-lt v j) (bit_at-lt u j)))
    (λ (l : w ≤ j).
    let long : length (digits_of_planes w v u) ≤ j = rw length-digits_of_planes l in
    rw (
      get_or_past (digits_of_planes w v u) j X long,
      bit_at_above (bit_xor v (2 ^ w - 1)) w j (xor_lt w v (2 ^ w - 1) h (ones_below w)) l,
      bit_at_above (bit_xor u (2 ^ w - 1)) w j (xor_lt w u (2 ^ w - 1) k (ones_below w)) l,
    ) refl)
    (cases_lt j w)

-- ---- a part put in
-- a plane with the moved bits of a part where its moved width has ones
abbrev pub written : ℤ → ℕ → ℕ → ℕ → ℕ → ℕ
written z w w' p q = bit_xor p (bit_and (bit_xor p (lowered z q)) (bit_and (lowered z (2 ^ w' - 1)) (2 ^ w - 1)))

written_below : (z : ℤ) (w w' p q : ℕ) → p < 2 ^ w → written z w w' p q < 2 ^ w
written_below z w w' p q h =
    let places = bit_and (lowered z (2 ^ w' - 1)) (2 ^ w - 1) in
    let few : bit_and (lowered z (2 ^ w' - 1)) (2 ^ w - 1) < 2 ^ w = masked_below (lowered z (2 ^ w' - 1)) w in
    xor_lt w p (bit_and (bit_xor p (lowered z q)) places) h (omega (arith, few, and_le_r (bit_xor p (lowered z q)) places))

bit_at-written : (z : ℤ) (w w' p q i : ℕ) → w ≤ 64 → i < w → bit_at (written z w w' p q) i ≡ (bit_at p i + min ((bit_at p i + bit_or_zero (z +ℤ pos i) q) % 2) (bit_or_zero (z +ℤ pos i) (2 ^ w' - 1))) % 2
bit_at-written z w w' p q i most h =
    let places = bit_and (lowered z (2 ^ w' - 1)) (2 ^ w - 1) in
    let within : i < 64 = omega arith in
    let place : bit_at (bit_and (lowered z (2 ^ w' - 1)) (2 ^ w - 1)) i ≡ bit_or_zero (z +ℤ pos i) (2 ^ w' - 1) =
    bit_at_and (lowered z (2 ^ w' - 1)) (2 ^ w - 1) i
    ∙ rw (bit_at_ones w i h, bit_at-lowered z (2 ^ w' - 1) i within) (omega (arith, bit_or_zero-lt (z +ℤ pos i) (2 ^ w' - 1))) in
    bit_at_xor p (bit_and (bit_xor p (lowered z q)) places) i
    ∙ rw (bit_at_and (bit_xor p (lowered z q)) places i, bit_at_xor p (lowered z q) i, place, bit_at-lowered z q i within) refl

kept : (a b c d : ℕ) → a < 2 → b < 2 → c < 2 → d < 2 → digit_of_bits ((a + min ((a + c) % 2) 0) % 2) ((b + min ((b + d) % 2) 0) % 2) ≡ digit_of_bits a b
kept a b c d = agree4_at (λ a b c d. digit_of_bits ((a + min ((a + c) % 2) 0) % 2) ((b + min ((b + d) % 2) 0) % 2)) (λ a b c d. digit_of_bits a b) refl a b c d

taken : (a b c d : ℕ) → a < 2 → b < 2 → c < 2 → d < 2 → digit_of_bits ((a + min ((a + c) % 2) 1) % 2) ((b + min ((b + d) % 2) 1) % 2) ≡ digit_of_bits c d
taken a b c d = agree4_at (λ a b c d. digit_of_bits ((a + min ((a + c) % 2) 1) % 2) ((b + min ((b + d) % 2) 1) % 2)) (λ a b c d. digit_of_bits c d) refl a b c d

in_part : (z : ℤ) (w' v' u' a b : ℕ) → a < 2 → b < 2 → digit_of_bits ((a + min ((a + bit_or_zero z v') % 2) (bit_or_zero z (2 ^ w' - 1))) % 2) ((b + min ((b + bit_or_zero z u') % 2) (bit_or_zero z (2 ^ w' - 1))) % 2) ≡ digit_at z (digits_of_planes w' v' u') (digit_of_bits a b)
in_part (negsuc j) w' v' u' a b h k = kept a b 0 0 h k (omega arith) (omega arith)
in_part (pos j) w' v' u' a b h k = ⊎_elim
    (λ (l : j < w').
    rw (get_or-digits_of_planes w' v' u' j (digit_of_bits a b) l, bit_at_ones w' j l)
    (taken a b (bit_at v' j) (bit_at u' j) h k (bit_at-lt v' j) (bit_at-lt u' j)))
    (λ (l : w' ≤ j).
    let long : length (digits_of_planes w' v' u') ≤ j = rw length-digits_of_planes l in
    rw (get_or_past (digits_of_planes w' v' u') j (digit_of_bits a b) long, bit_at_ones_above w' j l)
    (kept a b (bit_at v' j) (bit_at u' j) h k (bit_at-lt v' j) (bit_at-lt u' j)))
    (cases_lt j w')

-- ---- joined planes
pub joined : (w w' v v' u u' : ℕ) → v' < 2 ^ w' → u' < 2 ^ w' → digits_of_planes (w + w') (v * 2 ^ w' + v') (u * 2 ^ w' + u') ≡ digits_of_planes w' v' u' ++ digits_of_planes w v u
joined w w' v v' u u' h k =
    let low = digits_of_planes w' v' u' in
    let high = digits_of_planes w v u in
    let long : length (digits_of_planes w' v' u') ≡ w' = length-digits_of_planes w' v' u' in
    planes_are (w + w') (v * 2 ^ w' + v') (u * 2 ^ w' + u') (low ++ high)
    (omega (arith, length-append low high, length-digits_of_planes w' v' u', length-digits_of_planes w v u))
    (λ i l. ⊎_elim
    (λ (m : i < w').
    let within : i < length (digits_of_planes w' v' u') = rw long m in
    rw (bit_at_cat_low v w' v' i m, bit_at_cat_low u w' u' i m, get_or_append_left low high X i within)
    (sym (get_or-digits_of_planes w' v' u' i X m)))
    (λ (m : w' ≤ i).
    rw (bit_at_cat_high v w' v' i h m, bit_at_cat_high u w' u' i k m, get_or-append_right low high w' i X long m)
    (sym (get_or-digits_of_planes w v u (i - w') X (omega arith))))
    (cases_lt i w'))

joined_plane : (w w' p q : ℕ) → w + w' ≤ 64 → p < 2 ^ w → q < 2 ^ w' → bit_or (p * 2 ^ w' % 2 ^ 64) q ≡ p * 2 ^ w' + q
joined_plane w w' p q most h k = rw (shl_whole p w w' 64 h most) (or_shifted p w' q k)

joined_below : (w w' p q : ℕ) → p < 2 ^ w → q < 2 ^ w' → p * 2 ^ w' + q < 2 ^ (w + w')
joined_below w w' p q h k = rw (pow-add 2 w w') (omega (arith, mul-add-lt p (2 ^ w') q (2 ^ w) h k))

-- ---- repeated planes
-- what a plane is multiplied by, so that it stands n times: the sum of the first n powers of k + 1
abbrev pub copies : ℕ → ℕ → ℕ
copies k zero = 0
copies k (suc n) = 1 + (k + 1) * copies k n

copies_step : (k g q : ℕ) → k * g + 1 ≡ q → k * (1 + (k + 1) * g) + 1 ≡ q * (k + 1)
copies_step k g q h = omega (arith, ap (λ x. x * (k + 1)) h)

pub power_of : (w : ℕ) → 2 ^ w - 1 + 1 ≡ 2 ^ w
power_of w = omega (arith, pow_pos w)

copies_is : (w n : ℕ) → (2 ^ w - 1) * copies (2 ^ w - 1) n + 1 ≡ 2 ^ (w * n)
copies_is w zero = let none : w * 0 ≡ 0 = omega arith in rw none (omega arith)
copies_is w (suc n) =
    let more : w * suc n ≡ w * n + w = omega arith in
    copies_step (2 ^ w - 1) (copies (2 ^ w - 1) n) (2 ^ (w * n)) (copies_is w n)
    ∙ rw (more, pow-add 2 (w * n) w, power_of w) refl

-- it is the quotient of the ones of the whole width and of one copy
copies_quotient : (w n : ℕ) → 0 < w → (2 ^ (w * n) - 1) / (2 ^ w - 1) ≡ copies (2 ^ w - 1) n
copies_quotient w n some =
    let whole : 2 ^ (w * n) - 1 ≡ (2 ^ w - 1) * copies (2 ^ w - 1) n = omega (arith, copies_is w n) in
    let divisor : 0 < 2 ^ w - 1 = omega (arith, pow_below 0 w some) in
    rw whole (mul-div_cancel_left (copies (2 ^ w - 1) n) divisor)

copies_below : (w n p : ℕ) → p < 2 ^ w → p * copies (2 ^ w - 1) n < 2 ^ (w * n)
copies_below w n p h =
    let few : p ≤ 2 ^ w - 1 = omega arith in
    omega (arith, copies_is w n, mul-le-mul_right (copies (2 ^ w - 1) n) few)

copies_joined : (k g p m : ℕ) → k + 1 ≡ m → p * (1 + (k + 1) * g) ≡ p * g * m + p
copies_joined k g p m h = rw (← h) (omega arith)

replicated : (w v u n : ℕ) → v < 2 ^ w → u < 2 ^ w → digits_of_planes (w * n) (v * copies (2 ^ w - 1) n) (u * copies (2 ^ w - 1) n) ≡ replication n (digits_of_planes w v u)
replicated w v u zero h k = let none : w * 0 ≡ 0 = omega arith in rw none refl
replicated w v u (suc n) h k =
    let more : w * suc n ≡ w * n + w = omega arith in
    let g = copies (2 ^ w - 1) n in
    rw (more, copies_joined (2 ^ w - 1) g v (2 ^ w) (power_of w), copies_joined (2 ^ w - 1) g u (2 ^ w) (power_of w))
    (joined (w * n) w (v * g) v (u * g) u h k ∙ ap (λ ds. digits_of_planes w v u ++ ds) (replicated w v u n h k))

module _ {w v u : ℕ} {ds : List Digit} (p : ArePlanes w v u) (view : digits_of_planes w v u ≡ ds) where
  pub selected_is : (low : ℤ) (n : ℕ) → 0 < n → n ≤ 64 → ArePlanes n (window low w n v) (window low w n u) × (digits_of_planes n (window low w n v) (window low w n u) ≡ selected low n ds)
  selected_is low n some most = (
    record { some = some; most = most; value_below = window_below low w n v; unknown_below = window_below low w n u },
    rw (← view) (planes_are n (window low w n v) (window low w n u) (selected low n (digits_of_planes w v u)) (length-selected low n (digits_of_planes w v u))
        (λ i h. rw (bit_at-window low w n v i most h, bit_at-window low w n u i most h, get_or-selected low n (digits_of_planes w v u) i h)
        (in_window (low +ℤ pos i) w v u p.value_below p.unknown_below))),
  )

  pub replicated_width : (n : ℕ) → length ds * n ≤ 64 → w * n ≤ 64
  replicated_width n h = rw (← view, length-digits_of_planes w v u) at h

  pub replication_is : (n : ℕ) → 0 < n → length ds * n ≤ 64 → ArePlanes (w * n) (v * ((2 ^ (w * n) - 1) / (2 ^ w - 1))) (u * ((2 ^ (w * n) - 1) / (2 ^ w - 1))) × (digits_of_planes (w * n) (v * ((2 ^ (w * n) - 1) / (2 ^ w - 1))) (u * ((2 ^ (w * n) - 1) / (2 ^ w - 1))) ≡ replication n ds)
  replication_is n some h =
      let least : 1 * n ≤ w * n = mul-le-mul_right n p.some in
      rw (copies_quotient w n p.some) (
        record {
          some = omega (arith, least);
          most = replicated_width n h;
          value_below = copies_below w n v p.value_below;
          unknown_below = copies_below w n u p.unknown_below;
        },
        rw (← view) (replicated w v u n p.value_below p.unknown_below),
      )

module _ {w v u w' v' u' : ℕ} {ds es : List Digit} (p : ArePlanes w v u) (q : ArePlanes w' v' u') (view : digits_of_planes w v u ≡ ds) (view' : digits_of_planes w' v' u' ≡ es) where
  pub with_part_is : (low : ℤ) → ArePlanes w (written (neg_ℤ low) w w' v v') (written (neg_ℤ low) w w' u u') × (digits_of_planes w (written (neg_ℤ low) w w' v v') (written (neg_ℤ low) w w' u u') ≡ with_part low es ds)
  with_part_is low = (
    record { some = p.some; most = p.most; value_below = written_below (neg_ℤ low) w w' v v' p.value_below; unknown_below = written_below (neg_ℤ low) w w' u u' p.unknown_below },
    rw (← view, ← view') (planes_are w (written (neg_ℤ low) w w' v v') (written (neg_ℤ low) w w' u u') (replaced_from (neg_ℤ low) (digits_of_planes w' v' u') (digits_of_planes w v u))
        (length-with_part low (digits_of_planes w' v' u') (digits_of_planes w v u) ∙ length-digits_of_planes w v u)
        (λ i h.
        let within : i < length (digits_of_planes w v u) = rw length-digits_of_planes h in
        rw (
          bit_at-written (neg_ℤ low) w w' v v' i p.most h,
          bit_at-written (neg_ℤ low) w w' u u' i p.most h,
          get_or-replaced_from (neg_ℤ low) (digits_of_planes w' v' u') (digits_of_planes w v u) i within,
          get_or-digits_of_planes w v u i X h,
        )
        (in_part (neg_ℤ low +ℤ pos i) w' v' u' (bit_at v i) (bit_at u i) (bit_at-lt v i) (bit_at-lt u i)))),
  )

  pub concatenation_is : length ds + length es ≤ 64 → ArePlanes (w + w') (bit_or (v * 2 ^ w' % 2 ^ 64) v') (bit_or (u * 2 ^ w' % 2 ^ 64) u') × (digits_of_planes (w + w') (bit_or (v * 2 ^ w' % 2 ^ 64) v') (bit_or (u * 2 ^ w' % 2 ^ 64) u') ≡ concatenation ds es)
  concatenation_is h =
      let most : w + w' ≤ 64 = omega (arith, sym (ap length view) ∙ length-digits_of_planes w v u, sym (ap length view') ∙ length-digits_of_planes w' v' u') in
      let value = joined_plane w w' v v' most p.value_below q.value_below in
      let unknown = joined_plane w w' u u' most p.unknown_below q.unknown_below in
      rw (value, unknown) (
        record {
          some = omega (arith, p.some);
          most = most;
          value_below = joined_below w w' v v' p.value_below q.value_below;
          unknown_below = joined_below w w' u u' p.unknown_below q.unknown_below;
        },
        rw (← view, ← view') (joined w w' v v' u u' q.value_below q.unknown_below),
      )
