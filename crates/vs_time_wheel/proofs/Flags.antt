-- The flags of the slots, one at a time and going round.
use Rattle.std.proofs.Common.{◌≡◌, ℕ, ◌+◌, ◌-◌, ◌*◌, ◌/◌, ◌%◌, ◌^◌, ◌<◌, ◌≤◌, ◌≢◌, cond, List, length, get_or, slice_set, bit_and, bit_or, nat_eq, w64, sym, ap, ◌∙◌, inl, inr, pow-add, arith}
use Rattle.std.specs.Int.{bit_at, trailing_zeros}
use Rattle.std.proofs.Math.Nat.{div-div-eq-div-mul, div-le_self}
use Rattle.std.proofs.lemmas.Bool.{cases_eq, cases_lt, eq-eqb, ne_eqb, cond-true, cond-false}
use Rattle.std.proofs.lemmas.List.{get_or-set_same, get_or-set_other}
use Rattle.std.proofs.lemmas.Nat.Bits.{bit_at_set_same, bit_at_set_other, bit_at_clear_same, bit_at_clear_other, bit_at-zero, bit_at-trailing_zeros, bit_at_above}
use Rattle.vs_time_wheel.specs.Busy.{flag_at}

-- ---- one flag is written
-- a word that has bit v at the place of a slot, and its other bits as before
record Writes (v slot old new : ℕ) : Type 0 where
  here : bit_at new (slot % 64) ≡ v
  others : (i : ℕ) → i < 64 → i ≢ slot % 64 → bit_at new i ≡ bit_at old i

write : (flags : List ℕ) (v slot word : ℕ) → length flags ≡ 4 → slot < 256 → Writes v slot (get_or flags (slot / 64) 0) word → (i : ℕ) → i < 256 →
    flag_at (slice_set flags (slot / 64) word) i ≡ cond (nat_eq i slot) v (flag_at flags i)
write flags v slot word four within w i low = elim (cases_eq (i / 64) (slot / 64)) [
  | inl same ↦
      let read : get_or (slice_set flags (slot / 64) word) (i / 64) 0 ≡ word = ap (λ k. get_or (slice_set flags (slot / 64) word) k 0) same ∙ get_or-set_same flags (slot / 64) word 0 (omega arith) in
      elim (cases_eq i slot) [
        | inl e ↦ ap (λ x. bit_at x (i % 64)) read ∙ ap (λ k. bit_at word (k % 64)) e ∙ w.here ∙ sym (cond-true (nat_eq i slot) v (flag_at flags i) (eq-eqb i slot e))
        | inr apart ↦ ap (λ x. bit_at x (i % 64)) read ∙ w.others (i % 64) (omega arith) (λ h. apart (omega arith)) ∙ ap (λ k. bit_at (get_or flags k 0) (i % 64)) (sym same)
            ∙ sym (cond-false (nat_eq i slot) v (flag_at flags i) (ne_eqb i slot apart))
      ]
  | inr apart ↦ ap (λ x. bit_at x (i % 64)) (get_or-set_other flags (slot / 64) (i / 64) word 0 apart) ∙ sym (cond-false (nat_eq i slot) v (flag_at flags i) (ne_eqb i slot (λ e. apart (ap (λ k. k / 64) e))))
]

pub flag_at-set : (flags : List ℕ) (slot : ℕ) → length flags ≡ 4 → slot < 256 → (i : ℕ) → i < 256 →
    flag_at (slice_set flags (slot / 64) (bit_or (get_or flags (slot / 64) 0) (1 * 2 ^ (slot % 64) % 18446744073709551616))) i ≡ cond (nat_eq i slot) 1 (flag_at flags i)
flag_at-set flags slot four within = let within_word : slot % 64 < 64 = omega arith in
    write flags 1 slot _ four within (record {
      here = bit_at_set_same w64 (get_or flags (slot / 64) 0) (slot % 64) within_word;
      others = λ i low apart. bit_at_set_other w64 (get_or flags (slot / 64) 0) (slot % 64) within_word i apart;
    })

pub flag_at-clear : (flags : List ℕ) (slot : ℕ) → length flags ≡ 4 → slot < 256 → (i : ℕ) → i < 256 →
    flag_at (slice_set flags (slot / 64) (bit_and (get_or flags (slot / 64) 0) (18446744073709551615 - 1 * 2 ^ (slot % 64) % 18446744073709551616))) i ≡ cond (nat_eq i slot) 0 (flag_at flags i)
flag_at-clear flags slot four within = let within_word : slot % 64 < 64 = omega arith in
    write flags 0 slot _ four within (record {
      here = bit_at_clear_same w64 (get_or flags (slot / 64) 0) (slot % 64) within_word;
      others = λ i low apart. bit_at_clear_other w64 (get_or flags (slot / 64) 0) (slot % 64) within_word i low apart;
    })

-- ---- the lowest bit from a place on
bit_at-shr : (n k i : ℕ) → bit_at (n / 2 ^ k) i ≡ bit_at n (k + i)
bit_at-shr n k i = ap (λ x. x % 2) (div-div-eq-div-mul n (2 ^ k) (2 ^ i)) ∙ ap (λ x. n / x % 2) (sym (pow-add 2 k i))

shifted : (n low i : ℕ) → low ≤ i → bit_at n i ≡ bit_at (n / 2 ^ low) (i - low)
shifted n low i above = let e : low + (i - low) ≡ i = omega arith in sym (bit_at-shr n low (i - low) ∙ ap (bit_at n) e)

pub none_from : (word low : ℕ) → word / 2 ^ low ≡ 0 → (i : ℕ) → low ≤ i → bit_at word i ≡ 0
none_from word low none i above = shifted word low i above ∙ ap (λ x. bit_at x (i - low)) none ∙ bit_at-zero (i - low)

-- what the number of trailing zeros says of a word from the bit `low` on
pub record IsLowestFrom (word low found : ℕ) : Type 0 where
  pub above : low ≤ found
  pub within : found < 64
  pub here : bit_at word found ≡ 1
  pub none_before : (i : ℕ) → low ≤ i → i < found → bit_at word i ≡ 0

pub lowest_from_is : (word low : ℕ) → word < 2 ^ 64 → low < 64 → 0 < word / 2 ^ low → IsLowestFrom word low (low + trailing_zeros w64 (word / 2 ^ low))
lowest_from_is word low fits within some =
    let z = trailing_zeros w64 (word / 2 ^ low) in
    let least = bit_at-trailing_zeros w64 (word / 2 ^ low) some (let h : word / 2 ^ low ≤ word = div-le_self word (2 ^ low) in omega arith) in
    let one : bit_at word (low + z) ≡ 1 = sym (bit_at-shr word low z) ∙ least.1 in
    record {
      above = omega arith;
      within = elim (cases_lt (low + z) 64) [ inl h ↦ h | inr h ↦ absurd (let zero : bit_at word (low + z) ≡ 0 = bit_at_above word 64 (low + z) fits h in omega arith) ];
      here = one;
      none_before = λ i above before. shifted word low i above ∙ least.2 (i - low) (omega arith);
    }

-- ---- going round
-- no flag of the first n slots from `from` on is set
pub record NoneFor (flags : List ℕ) (from n : ℕ) : Type 0 where
  pub none : (k : ℕ) → k < n → flag_at flags ((from + k) % 256) ≡ 0
