-- The bits of a plane that was moved.
use Rattle.std.proofs.Common.{◌≡◌, ℕ, suc, ◌+◌, ◌-◌, ◌*◌, ◌/◌, ◌%◌, ◌^◌, ◌<◌, ◌≤◌, ℤ, pos, negsuc, ◌+ℤ◌, ◌&&◌, eqb, bit_and, Bool, true, false, cond, refl, sym, ap, ◌∙◌, ⊎_elim, arith}
use Rattle.std.specs.Int.{bit_at}
use Rattle.std.proofs.lemmas.Bool.{cases_lt, lt-ltb, le-ltb, and_parts, eqb-true, eqb-false}
use Rattle.std.proofs.lemmas.Nat.{pow_pos, xor_lt, xor_comm, shr_le, pow-add}
use Rattle.std.proofs.lemmas.Nat.Bits.{bit_at_cat_low, bit_at_cat_high, bit_at-zero, bit_at_and, bit_at_xor, bit_at_ones, bit_at-lt, bit_at_above}
use Rattle.std.specs.Int.RustNames.{bit_xor}
use Rattle.std.proofs.Math.Nat.{pow-le-pow_right, div-eq_of_lt}
use Rattle.vs_logic4.specs.Moves.{lowered, IsMovedLeft, IsMovedRight}
use Rattle.vs_logic4.specs.Extensions.{masked_below}
use Rattle.vs_logic4.proofs.Bits.{ones_below}
use Rattle.vs_logic4.proofs.Basics.{bit_at-shr, bit_at-wrapped}

-- a bit of a plane, 0 out of range
abbrev pub bit_or_zero : ℤ → ℕ → ℕ
bit_or_zero (pos j) p = bit_at p j
bit_or_zero (negsuc _) p = 0

pub bit_at-shl_below : (p n i : ℕ) → i < 64 → i < n → bit_at (p * 2 ^ n % 2 ^ 64) i ≡ 0
bit_at-shl_below p n i h k =
    bit_at-wrapped (p * 2 ^ n) i h ∙ ap (λ q. bit_at q i) (let e : p * 2 ^ n ≡ p * 2 ^ n + 0 = omega arith in e) ∙ bit_at_cat_low p n 0 i k ∙ bit_at-zero i

pub bit_at-shl_above : (p n i : ℕ) → i < 64 → n ≤ i → bit_at (p * 2 ^ n % 2 ^ 64) i ≡ bit_at p (i - n)
bit_at-shl_above p n i h k =
    bit_at-wrapped (p * 2 ^ n) i h ∙ ap (λ q. bit_at q i) (let e : p * 2 ^ n ≡ p * 2 ^ n + 0 = omega arith in e) ∙ bit_at_cat_high p n 0 i (pow_pos n) k

-- a bit of a moved plane is the bit that was as many places above
pub bit_at-lowered : (z : ℤ) (p i : ℕ) → i < 64 → bit_at (lowered z p) i ≡ bit_or_zero (z +ℤ pos i) p
bit_at-lowered (pos n) p i h = bit_at-shr p n i
bit_at-lowered (negsuc n) p i h = ⊎_elim
    (λ (k : i < suc n). rw (lt-ltb i (suc n) k) (bit_at-shl_below p (suc n) i h k))
    (λ (k : suc n ≤ i). rw (le-ltb i (suc n) k) (bit_at-shl_above p (suc n) i h k))
    (cases_lt i (suc n))

-- a move by 64 places or more leaves nothing
pub all_moved_left : (p n : ℕ) → 64 ≤ n → 0 ≡ p * 2 ^ n % 2 ^ 64
all_moved_left p n h =
    let power : 2 ^ n ≡ 2 ^ (n - 64) * 2 ^ 64 = ap (λ k. 2 ^ k) (let e : n ≡ n - 64 + 64 = omega arith in e) ∙ pow-add 2 (n - 64) 64 in
    let whole : p * 2 ^ n ≡ p * 2 ^ (n - 64) * 2 ^ 64 = ap (λ k. p * k) power ∙ omega arith in
    rw whole (omega arith)

pub all_moved_right : (p n : ℕ) → 64 ≤ n → p < 2 ^ 64 → 0 ≡ p / 2 ^ n
all_moved_right p n h k =
    let most : 2 ^ 64 ≤ 2 ^ n = pow-le-pow_right {n = 2} (omega arith) h in
    let few : p < 2 ^ n = omega arith in
    sym (div-eq_of_lt few)

-- what the code makes of a plane moved left
pub moved_left_within : (w n p : ℕ) → w ≤ 64 → IsMovedLeft w n p (bit_and (p * 2 ^ n % 2 ^ 64) (2 ^ w - 1))
moved_left_within w n p most =
    let bits : (i : ℕ) → i < w → bit_at (bit_and (p * 2 ^ n % 2 ^ 64) (2 ^ w - 1)) i ≡ bit_at (p * 2 ^ n % 2 ^ 64) i =
    λ i h. bit_at_and (p * 2 ^ n % 2 ^ 64) (2 ^ w - 1) i ∙ rw (bit_at_ones w i h) (omega (arith, bit_at-lt (p * 2 ^ n % 2 ^ 64) i)) in
    record {
      below = masked_below (p * 2 ^ n % 2 ^ 64) w;
      low = λ i h k. bits i h ∙ bit_at-shl_below p n i (omega arith) k;
      high = λ i h k. bits i h ∙ bit_at-shl_above p n i (omega arith) k;
    }

-- what it makes of one moved right, where the top bit doesn't count
pub moved_right_plain : (signed : Bool) (w n p : ℕ) → p < 2 ^ w → (signed && eqb (bit_at p (w - 1)) 1) ≡ false → IsMovedRight signed w n p (bit_xor (bit_xor p 0 / 2 ^ n) 0)
moved_right_plain signed w n p h e =
    let inner : bit_xor p 0 ≡ p = xor_comm p 0 in
    let outer : bit_xor (p / 2 ^ n) 0 ≡ p / 2 ^ n = xor_comm (p / 2 ^ n) 0 in
    rw (inner, outer) (record {
      below = omega (arith, shr_le p n);
      low = λ i k m. bit_at-shr p n i;
      high = λ i k m. bit_at-shr p n i ∙ bit_at_above p w (n + i) h m ∙ nothing signed (bit_at p (w - 1)) (bit_at-lt p (w - 1)) e;
    }) where
      nothing : (s : Bool) (b : ℕ) → b < 2 → (s && eqb b 1) ≡ false → 0 ≡ cond s b 0
      nothing false b few t = refl
      nothing true b few t =
          let differs : b ≡ 1 → ⊥ = eqb-false b 1 t in
          omega (arith, differs)

-- and where it is set and comes in
pub moved_right_filled : (signed : Bool) (w n p : ℕ) → p < 2 ^ w → (signed && eqb (bit_at p (w - 1)) 1) ≡ true → IsMovedRight signed w n p (bit_xor (bit_xor p (2 ^ w - 1) / 2 ^ n) (2 ^ w - 1))
moved_right_filled signed w n p h e =
    let parts = and_parts signed (eqb (bit_at p (w - 1)) 1) e in
    let is_signed : signed ≡ true = parts.0 in
    let top : bit_at p (w - 1) ≡ 1 = eqb-true (bit_at p (w - 1)) 1 parts.1 in
    let turned : bit_xor p (2 ^ w - 1) < 2 ^ w = xor_lt w p (2 ^ w - 1) h (ones_below w) in
    let bits : (i : ℕ) → i < w → bit_at (bit_xor (bit_xor p (2 ^ w - 1) / 2 ^ n) (2 ^ w - 1)) i ≡ (bit_at (bit_xor p (2 ^ w - 1)) (n + i) + 1) % 2 =
    λ i k. bit_at_xor (bit_xor p (2 ^ w - 1) / 2 ^ n) (2 ^ w - 1) i ∙ rw (bit_at_ones w i k, bit_at-shr (bit_xor p (2 ^ w - 1)) n i) refl in
    record {
      below = xor_lt w (bit_xor p (2 ^ w - 1) / 2 ^ n) (2 ^ w - 1) (omega (arith, shr_le (bit_xor p (2 ^ w - 1)) n)) (ones_below w);
      low = λ i k m. bits i k ∙ rw (bit_at_xor p (2 ^ w - 1) (n + i), bit_at_ones w (n + i) m) (omega (arith, bit_at-lt p (n + i)));
      high = λ i k m. bits i k ∙ rw (bit_at_above (bit_xor p (2 ^ w - 1)) w (n + i) turned m, is_signed, top) refl;
    }
