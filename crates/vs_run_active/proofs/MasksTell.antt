-- The masks of ranges and terms tell which changes they see.
use Rattle.std.proofs.Common.{◌≡◌, ◌≢◌, ℕ, ◌+◌, ◌-◌, ◌^◌, ◌<◌, ◌≤◌, ◌==◌, ◌&&◌, ◌||◌, not, if◌then◌else◌, Bool, true, false, Option, Some, None, bit_and, inl, inr, refl, sym, ◌∙◌, ap, subst, arith}
use Rattle.std.proofs.Math.Nat.{mod-eq_of_lt}
use Rattle.std.proofs.lemmas.Bool.{cases_lt, eqb-true, eq-eqb, cases_Bool, false_from_ne_true}
use Rattle.std.proofs.lemmas.Nat.{and_mask, and_comm}
use Rattle.std.proofs.Math.Bool.{and_comm as and_comm_bool}
use Rattle.vs_design.specs.vs_logic4.specs.declared.edge.Edge.{Edge}
use Rattle.vs_design.specs.vs_logic4.specs.declared.edge.Edge.TheVariants.{Any, Posedge, Negedge}
use Rattle.vs_design.specs.declared.range.Bits.{Bits}
use Rattle.vs_design.specs.declared.range.BitRange.{BitRange}
use Rattle.vs_design.specs.declared.statement.EventTerm.{EventTerm}
use Rattle.vs_design.specs.Uses.{has_word}
use Rattle.vs_run_active.specs.vs_eval.specs.Masks.{IsMaskOf, IsTermMask, every_word, has_bits, edge_mask, lowest_bit, mask_in, range_bits, range_mask, term_mask}
use Rattle.vs_run_active.specs.vs_eval.specs.Waking.{edge_word}
use Rattle.vs_run_active.specs.vs_eval.specs.passes.Masks.{IsBitMask, IsLowestMask}
use Rattle.vs_run_active.specs.vs_eval.proofs.DifferencesLemmas.{past_bits}
use Rattle.vs_run_active.specs.vs_eval.proofs.MasksLemmas.{any_edges, bits_above, bits_between, bits_past, edge_term, has_above, has_between, lowest_above, lowest_none, lowest_of_all, lowest_of_none, lowest_of_some, lowest_past, lowest_shifted, no_bit}
use Rattle.vs_run_active.specs.vs_eval.proofs.WakingLemmas.{level_wakes}

range_bits_past : (b : Bits) → 63 < b.low → IsBitMask (Some b) (range_bits (Some b))
range_bits_past b h = subst (IsBitMask (Some b)) (bits_past b h) (λ number below. no_bit number ∙ sym (past_bits number b.low b.width below h))

range_bits_above : (b : Bits) → b.low ≤ 63 → 63 - b.low < b.width → IsBitMask (Some b) (range_bits (Some b))
range_bits_above b h k = subst (IsBitMask (Some b)) (bits_above b h k) (λ number below. has_above number b.low b.width below h k)

range_bits_between : (b : Bits) → b.low + b.width ≤ 63 → IsBitMask (Some b) (range_bits (Some b))
range_bits_between b h = subst (IsBitMask (Some b)) (bits_between b h) (λ number below. has_between number b.low b.width h)

pub range_bits-has : (bits : Option Bits) → IsBitMask bits (range_bits bits)
range_bits-has None = λ number below.
    ap (λ (n : ℕ). not (n == 0)) (and_comm (2 ^ 64 - 1) number ∙ and_mask number 64 ∙ mod-eq_of_lt below)
range_bits-has (Some b) = elim (cases_lt 63 b.low) [
  | inl h ↦ range_bits_past b h
  | inr h ↦ elim (cases_lt (63 - b.low) b.width) [
    | inl k ↦ range_bits_above b h k
    | inr k ↦ range_bits_between b (omega arith)
  ]
]

pub lowest_bit-has : (bits : Option Bits) → IsLowestMask bits (lowest_bit bits)
lowest_bit-has None = lowest_of_all
lowest_bit-has (Some b) = elim (cases_lt 0 b.width) [
  | inl some ↦ elim (cases_lt 63 b.low) [
    | inl h ↦ subst (IsLowestMask (Some b)) (lowest_above b some h) (lowest_past b h)
    | inr h ↦ subst (IsLowestMask (Some b)) (lowest_shifted b some) (lowest_of_some b some h)
  ]
  | inr none ↦ let zero_width : b.width ≡ 0 = omega arith in subst (IsLowestMask (Some b)) (lowest_none b zero_width) (lowest_of_none b zero_width)
]

and_true : (b : Bool) → (b && true) ≡ b
and_true true = refl
and_true false = refl

other_posedge : Posedge ≢ Any
other_posedge = λ h. cc

other_negedge : Negedge ≢ Any
other_negedge = λ h. cc

mask_in-has : (only : Option ℕ) (bits word number : ℕ) → word < every_word → has_bits (mask_in only bits) word number ≡ (has_word only word && not (bit_and bits number == 0))
mask_in-has None bits word number h = ap (λ (b : Bool). not (bit_and bits number == 0) && (b || (every_word == word))) (eq-eqb every_word every_word refl) ∙ and_true (not (bit_and bits number == 0))
mask_in-has (Some w) bits word number h = elim (cases_Bool (w == every_word)) [
  | inl all ↦ ap (λ (b : Bool). has_bits (if b then record { bits = 0; word = 0 } else record { bits = bits; word = w }) word number) all
      ∙ ap (λ (b : Bool). b && ((0 == every_word) || (0 == word))) (no_bit number)
      ∙ sym (ap (λ (b : Bool). b && not (bit_and bits number == 0)) (false_from_ne_true (w == word) (λ t. let e : w ≡ word = eqb-true w word t in let f : w ≡ every_word = eqb-true w every_word all in absurd (omega (arith, e, f)))))
  | inr one ↦ ap (λ (b : Bool). has_bits (if b then record { bits = 0; word = 0 } else record { bits = bits; word = w }) word number) one
      ∙ ap (λ (b : Bool). not (bit_and bits number == 0) && (b || (w == word))) one ∙ and_comm_bool (not (bit_and bits number == 0)) (w == word)
]

-- the mask of a range has its bits
pub range_mask-has : (r : BitRange) → IsMaskOf r (range_mask r)
range_mask-has r = λ word number within below. mask_in-has r.word (range_bits r.bits) word number within ∙ ap (λ (b : Bool). has_word r.word word && b) (range_bits-has r.bits number below)

mask_wakes : (edge : Edge) (t : EventTerm) → edge ≡ t.edge → IsTermMask t (edge_mask edge t.range)
mask_wakes Any t h = λ word number before after within below same short edges.
    level_wakes t.range.signal word before after t number (has_bits (range_mask t.range) word number) same refl (sym h) (any_edges t.edge before after number (sym h) edges)
    (range_mask-has t.range word number within below)
mask_wakes Posedge t h = λ word number before after within below same short edges.
    mask_in-has (Some (edge_word t.range.word)) (lowest_bit t.range.bits) word number within
    ∙ edge_term t.edge t.range (lowest_bit t.range.bits) word number before after (λ e. other_posedge (h ∙ e)) (lowest_bit-has t.range.bits) same short edges
mask_wakes Negedge t h = λ word number before after within below same short edges.
    mask_in-has (Some (edge_word t.range.word)) (lowest_bit t.range.bits) word number within
    ∙ edge_term t.edge t.range (lowest_bit t.range.bits) word number before after (λ e. other_negedge (h ∙ e)) (lowest_bit-has t.range.bits) same short edges

-- the mask of a term tells which changes wake it
pub term_mask-wakes : (t : EventTerm) → IsTermMask t (term_mask t)
term_mask-wakes t = mask_wakes t.edge t refl
