-- Bits of words as masks.
use Rattle.std.proofs.Common.{◌≡◌, ◌≢◌, ℕ, zero, suc, ◌+◌, ◌-◌, ◌*◌, ◌/◌, ◌%◌, ◌^◌, ◌<◌, ◌≤◌, ◌==◌, ◌&&◌, not, min, if◌then◌else◌, Bool, true, false, Option, Some, None, List, length, get_or, bit_and, inl, inr, refl, sym, ◌∙◌, ap, ap₂, arith}
use Rattle.std.specs.Int.{bit_at}
use Rattle.std.proofs.Math.Nat.{mod-eq_of_lt, pow-le-pow_right, zero-div, div-lt_iff_lt-mul, mul-mod_left}
use Rattle.std.proofs.lemmas.Bool.{eqb-true, eq-eqb, cases_Bool, false≢true, false_from_ne_true}
use Rattle.std.proofs.lemmas.Nat.{and_comm, and_le_l, pow_pos, pow-add, shl-shr}
use Rattle.std.proofs.lemmas.Nat.Bits.{and_pow, and_high, and_high_mask, bit_at-lt}
use Rattle.vs_design.specs.vs_logic4.specs.declared.digit.Digit.{Digit}
use Rattle.vs_design.specs.vs_logic4.specs.declared.digit.Digit.TheVariants.{Zero}
use Rattle.vs_design.specs.vs_logic4.specs.declared.edge.Edge.{Edge}
use Rattle.vs_design.specs.vs_logic4.specs.declared.edge.Edge.TheVariants.{Any, Posedge, Negedge}
use Rattle.vs_design.specs.vs_logic4.specs.Edges.{is_edge}
use Rattle.vs_design.specs.vs_logic4.specs.Planes.{value_plane, unknown_plane}
use Rattle.vs_design.specs.vs_logic4.specs.PlaneLaws.{value_plane-lt, unknown_plane-lt}
use Rattle.vs_design.specs.declared.range.Bits.{Bits}
use Rattle.vs_design.specs.declared.range.BitRange.{BitRange}
use Rattle.vs_design.specs.declared.statement.EventTerm.{EventTerm}
use Rattle.vs_eval.specs.Differences.{difference, has_some}
use Rattle.vs_eval.specs.Masks.{AreEdges, edge_mask, lowest_bit, mask_in, range_bits, range_mask, term_mask}
use Rattle.vs_eval.specs.declared.masks.WordMask.{WordMask}
use Rattle.vs_eval.specs.Waking.{edge_digit, edge_word, first_digit, is_edge_of, range_wakes}
use Rattle.vs_eval.specs.passes.Masks.{IsLowestMask}
use Rattle.vs_eval.proofs.Edges.{edge_lowest, edge_taken, no_edge_in_none, no_edge_past}

-- ---- numbers

-- a multiple of a power is 0 where the number is
zero_times : (n k : ℕ) → (n * 2 ^ k == 0) ≡ (n == 0)
zero_times n k = let nothing : 0 * 2 ^ k ≡ 0 = omega arith in elim (cases_Bool (n == 0)) [
  | inl h ↦ eq-eqb (n * 2 ^ k) 0 (ap (λ (m : ℕ). m * 2 ^ k) (eqb-true n 0 h) ∙ nothing) ∙ sym h
  | inr h ↦ false_from_ne_true (n * 2 ^ k == 0)
      (λ t. let none : n ≡ 0 = sym (shl-shr n k) ∙ ap (λ (m : ℕ). m / 2 ^ k) (eqb-true (n * 2 ^ k) 0 t) ∙ zero-div (2 ^ k) in false≢true (sym h ∙ eq-eqb n 0 none)) ∙ sym h
]

-- a power below 2 ^ 64, as code has it
pub power : (k : ℕ) → k ≤ 63 → 1 * 2 ^ k % 2 ^ 64 ≡ 2 ^ k
power k h = omega (arith, pow-le-pow_right {n = 2} (omega arith) {i = k} {j = 63} h)

-- a higher power is no smaller
pub power_grows : (low width : ℕ) → low + width ≤ 63 → 1 * 2 ^ low % 2 ^ 64 ≤ 1 * 2 ^ (low + width) % 2 ^ 64
power_grows low width h =
    omega (arith, power low (omega arith), power (low + width) h, pow-le-pow_right {n = 2} (omega arith) {i = low} {j = low + width} (omega arith))

set_bit : (b : ℕ) → b < 2 → not (b == 0) ≡ (b == 1)
set_bit zero h = refl
set_bit (suc zero) h = refl
set_bit (suc (suc b)) h = absurd (omega arith)

-- a power has a bit of a number where the number has that bit
one_bit : (number place : ℕ) → not (bit_and (2 ^ place) number == 0) ≡ (bit_at number place == 1)
one_bit number place =
    ap (λ (n : ℕ). not (n == 0)) (and_comm (2 ^ place) number ∙ and_pow number place) ∙ ap not (zero_times (bit_at number place) place)
    ∙ set_bit (bit_at number place) (bit_at-lt number place)

pub no_bit : (number : ℕ) → not (bit_and 0 number == 0) ≡ false
no_bit number = let none : bit_and 0 number ≡ 0 = omega (arith, and_le_l 0 number) in ap (λ (n : ℕ). not (n == 0)) none

-- a plane of at most 64 digits is below 2 ^ 64
pub value_below : (ds : List Digit) (n : ℕ) → n ≡ value_plane ds → length ds ≤ 64 → n < 2 ^ 64
value_below ds n h k = omega (arith, h, value_plane-lt ds, pow-le-pow_right {n = 2} (omega arith) {i = length ds} {j = 64} k)

pub unknown_below : (ds : List Digit) (n : ℕ) → n ≡ unknown_plane ds → length ds ≤ 64 → n < 2 ^ 64
unknown_below ds n h k = omega (arith, h, unknown_plane-lt ds, pow-le-pow_right {n = 2} (omega arith) {i = length ds} {j = 64} k)

-- ---- the bits of a range

-- all bits of a number from a place on
pub has_above : (number low width : ℕ) → number < 2 ^ 64 → low ≤ 63 → 63 - low < width →
    not (bit_and (2 ^ 64 - 1 - (1 * 2 ^ low % 2 ^ 64 - 1)) number == 0) ≡ not (number / 2 ^ low % 2 ^ width == 0)
has_above number low width h k long =
    let mask : 2 ^ 64 - 1 - (1 * 2 ^ low % 2 ^ 64 - 1) ≡ 2 ^ 64 - 2 ^ low = omega (arith, power low k, pow_pos low) in
    let kept : bit_and (2 ^ 64 - 1 - (1 * 2 ^ low % 2 ^ 64 - 1)) number ≡ number / 2 ^ low * 2 ^ low =
    ap (λ (m : ℕ). bit_and m number) mask ∙ and_comm (2 ^ 64 - 2 ^ low) number ∙ and_high_mask 64 low (omega arith) number h
    in
    let room : 2 ^ 64 ≤ 2 ^ (width + low) = pow-le-pow_right {n = 2} (omega arith) {i = 64} {j = width + low} (omega arith) in
    let below : number < 2 ^ width * 2 ^ low = omega (arith, room, pow-add 2 width low) in
    let all : number / 2 ^ low % 2 ^ width ≡ number / 2 ^ low = mod-eq_of_lt ((div-lt_iff_lt-mul {k = 2 ^ low} {x = number} {y = 2 ^ width} (pow_pos low)).1 below) in
    ap (λ (n : ℕ). not (n == 0)) kept ∙ ap not (zero_times (number / 2 ^ low) low) ∙ sym (ap (λ (n : ℕ). not (n == 0)) all)

-- so many of them
pub has_between : (number low width : ℕ) → low + width ≤ 63 →
    not (bit_and (1 * 2 ^ (low + width) % 2 ^ 64 - 1 * 2 ^ low % 2 ^ 64) number == 0) ≡ not (number / 2 ^ low % 2 ^ width == 0)
has_between number low width h =
    let turned : low + width ≡ width + low = omega arith in
    let mask : 1 * 2 ^ (low + width) % 2 ^ 64 - 1 * 2 ^ low % 2 ^ 64 ≡ 2 ^ (width + low) - 2 ^ low =
    ap₂ (λ (a b : ℕ). a - b) (power (low + width) h ∙ ap (λ (n : ℕ). 2 ^ n) turned) (power low (omega arith))
    in
    let kept = ap (λ (m : ℕ). bit_and m number) mask ∙ and_comm (2 ^ (width + low) - 2 ^ low) number ∙ and_high number width low in
    ap (λ (n : ℕ). not (n == 0)) kept ∙ ap not (zero_times (number / 2 ^ low % 2 ^ width) low)

-- ---- the lowest bit of a range

pub lowest_of_all : IsLowestMask None 1
lowest_of_all = λ edge number before after same short edges. one_bit number 0 ∙ edges 0 (omega arith) ∙ edge_lowest edge before after same

pub lowest_of_none : (b : Bits) → b.width ≡ 0 → IsLowestMask (Some b) 0
lowest_of_none b none = λ edge number before after same short edges. no_bit number ∙ no_edge_in_none edge b.low b.width before after none

pub lowest_past : (b : Bits) → 63 < b.low → IsLowestMask (Some b) 0
lowest_past b past = λ edge number before after same short edges. no_bit number ∙ no_edge_past edge b.low b.width before after (omega arith)

pub lowest_of_some : (b : Bits) → 0 < b.width → b.low ≤ 63 → IsLowestMask (Some b) (1 * 2 ^ b.low % 2 ^ 64)
lowest_of_some b some h = λ edge number before after same short edges.
    ap (λ (m : ℕ). not (bit_and m number == 0)) (power b.low h) ∙ one_bit number b.low ∙ edges b.low (omega arith) ∙ edge_taken edge b.low b.width before after same some

-- ---- terms

pub any_edges : (edge : Edge) (before after : List Digit) (number : ℕ) → edge ≡ Any → AreEdges edge before after number → number ≡ difference before after
any_edges Any before after number h edges = edges
any_edges Posedge before after number h edges = cc
any_edges Negedge before after number h edges = cc

own : (n : ℕ) (b : Bool) → b ≡ ((n == n) && b)
own n b = sym (ap (λ (c : Bool). c && b) (eq-eqb n n refl))

pub edge_term : (edge : Edge) (r : BitRange) (mask word number : ℕ) (before after : List Digit) → edge ≢ Any → IsLowestMask r.bits mask →
    length before ≡ length after → length before ≤ 64 → AreEdges edge before after number →
    ((edge_word r.word == word) && not (bit_and mask number == 0)) ≡ range_wakes edge r.signal word (Some before) (Some after) r
edge_term Any r mask word number before after other lowest same short edges = absurd (other refl)
edge_term Posedge r mask word number before after other lowest same short edges =
    ap (λ (b : Bool). (edge_word r.word == word) && b) (lowest Posedge number before after same short edges) ∙ own r.signal _
edge_term Negedge r mask word number before after other lowest same short edges =
    ap (λ (b : Bool). (edge_word r.word == word) && b) (lowest Negedge number before after same short edges) ∙ own r.signal _

-- ---- masks as they are defined

smaller : (a b : ℕ) → a ≤ b → min a b ≡ a
smaller a b h = omega arith

pub bits_past : (b : Bits) → 63 < b.low → 0 ≡ range_bits (Some b)
bits_past b h =
    let room : 2 ^ 64 ≤ 2 ^ b.low = pow-le-pow_right {n = 2} (omega arith) {i = 64} {j = b.low} (omega arith) in
    let none : 0 ≡ 2 ^ 64 - 2 ^ b.low = omega (arith, room) in
    none ∙ sym (ap (λ (n : ℕ). 2 ^ n - 2 ^ b.low) (smaller 64 (b.low + b.width) (omega arith)))

pub bits_above : (b : Bits) → b.low ≤ 63 → 63 - b.low < b.width → 2 ^ 64 - 1 - (1 * 2 ^ b.low % 2 ^ 64 - 1) ≡ range_bits (Some b)
bits_above b h k =
    let mask : 2 ^ 64 - 1 - (1 * 2 ^ b.low % 2 ^ 64 - 1) ≡ 2 ^ 64 - 2 ^ b.low = omega (arith, power b.low h, pow_pos b.low) in
    mask ∙ sym (ap (λ (n : ℕ). 2 ^ n - 2 ^ b.low) (smaller 64 (b.low + b.width) (omega arith)))

pub bits_between : (b : Bits) → b.low + b.width ≤ 63 → 1 * 2 ^ (b.low + b.width) % 2 ^ 64 - 1 * 2 ^ b.low % 2 ^ 64 ≡ range_bits (Some b)
bits_between b h =
    let all : b.low + b.width ≡ min 64 (b.low + b.width) = omega arith in
    ap₂ (λ (a c : ℕ). a - c) (power (b.low + b.width) h ∙ ap (λ (n : ℕ). 2 ^ n) all) (power b.low (omega arith))

lowest_unless : (b : Bits) → Bool → ℕ
lowest_unless b none = if none then 0 else 2 ^ b.low % 2 ^ 64

pub lowest_none : (b : Bits) → b.width ≡ 0 → 0 ≡ lowest_bit (Some b)
unfolding lowest_unless
lowest_none b h = sym (ap (lowest_unless b) (eq-eqb b.width 0 h))

some_width : (b : Bits) → 0 < b.width → (b.width == 0) ≡ false
some_width b h = false_from_ne_true (b.width == 0) (λ t. let none : b.width ≡ 0 = eqb-true b.width 0 t in absurd (omega (arith, none)))

pub lowest_above : (b : Bits) → 0 < b.width → 63 < b.low → 0 ≡ lowest_bit (Some b)
unfolding lowest_unless
lowest_above b some h =
    let apart : b.low - 64 + 64 ≡ b.low = omega arith in
    let multiple : 2 ^ b.low ≡ 2 ^ (b.low - 64) * 2 ^ 64 = ap (λ (n : ℕ). 2 ^ n) (sym apart) ∙ pow-add 2 (b.low - 64) 64 in
    sym (ap (lowest_unless b) (some_width b some) ∙ ap (λ (n : ℕ). n % 2 ^ 64) multiple ∙ mul-mod_left (2 ^ (b.low - 64)) (2 ^ 64))

pub lowest_shifted : (b : Bits) → 0 < b.width → 1 * 2 ^ b.low % 2 ^ 64 ≡ lowest_bit (Some b)
unfolding lowest_unless
lowest_shifted b some =
    let one : 1 * 2 ^ b.low ≡ 2 ^ b.low = omega arith in
    ap (λ (n : ℕ). n % 2 ^ 64) one ∙ sym (ap (lowest_unless b) (some_width b some))

any_mask : (edge : Edge) (r : BitRange) → edge ≡ Any → range_mask r ≡ edge_mask edge r
any_mask edge r h = sym (ap (λ (e : Edge). edge_mask e r) h)

pub term_mask_any : (t : EventTerm) (m : WordMask) → t.edge ≡ Any → m ≡ range_mask t.range → m ≡ term_mask t
term_mask_any t m h e = e ∙ any_mask t.edge t.range h

edge_mask_other : (edge : Edge) (r : BitRange) → edge ≢ Any → mask_in (Some (edge_word r.word)) (lowest_bit r.bits) ≡ edge_mask edge r
edge_mask_other Any r h = absurd (h refl)
edge_mask_other Posedge r h = refl
edge_mask_other Negedge r h = refl

pub term_mask_edge : (t : EventTerm) (m : WordMask) (word bits : ℕ) → t.edge ≢ Any → word ≡ edge_word t.range.word → bits ≡ lowest_bit t.range.bits →
    m ≡ mask_in (Some word) bits → m ≡ term_mask t
term_mask_edge t m word bits h w b e = e ∙ ap₂ (λ (w b : ℕ). mask_in (Some w) b) w b ∙ edge_mask_other t.edge t.range h
