-- Places that no store changes.
use Rattle.std.proofs.Common.{◌≡◌, ℕ, suc, ◌<◌, ◌≤◌, ℤ, pos, negsuc, neg_ℤ, ◌≤ℤ◌, nat_lt, if◌then◌else◌, Bool, true, false, List, [], ◌∷◌, ◌++◌, Option, Some, None, option_map, refl, ap, ap₂, sym, subst, ◌∙◌, arith}
use Rattle.std.proofs.lemmas.Bool.{ltb-true}
use Rattle.std.proofs.lemmas.Int.{ints}
use Rattle.std.specs.declared.boxed.Box.{Box}
use Rattle.std.specs.declared.alloc.Global.{Global}
use Rattle.vs_design.specs.vs_logic4.specs.declared.digit.Digit.{Digit}
use Rattle.vs_design.specs.vs_logic4.specs.Vectors.{resized}
use Rattle.vs_design.specs.declared.expression.Axis.{Axis}
use Rattle.vs_design.specs.declared.expression.Slice.{Slice}
use Rattle.vs_design.specs.declared.expression.Selection.{Selection}
use Rattle.vs_design.specs.declared.range.BitRange.{BitRange}
use Rattle.vs_design.specs.Selects.{index_number, lowest, in_reach, reached, place_of, word_place}
use Rattle.vs_design.specs.Stores.{Store, word_of}
use Rattle.vs_design.specs.Uses.{all_words, slice_range}
use Rattle.vs_design.specs.WellFormed.{indexed_size}
use Rattle.vs_eval.specs.Values.{bits_value, selection_value}
use mir.Syntax.{w32}
use mir.Val.{SFits}
use Rattle.vs_widths.specs.declared.shape.Shape.{Shape}
use Rattle.vs_widths.specs.declared.forms.Sizable.{Sizable}
use Rattle.vs_widths.specs.declared.forms.Sizable.TheVariants as v
use Rattle.vs_widths.specs.declared.forms.Sizable.TheOpen as f
use Rattle.vs_widths.specs.Senses.{sense}
use Rattle.vs_widths.proofs.FittingLemmas.{layer}
use Rattle.vs_widths.specs.declared.places.ChosenBits.{ChosenBits}
use Rattle.vs_widths.specs.Findings.{Has, at_found}
use Rattle.vs_widths.specs.Layers.{FixedBits, slice_bits, bits, other, brought, selected_layer}
use Rattle.vs_widths.specs.Meants.{Meant}
use Rattle.vs_widths.specs.Selects.{Named, size_found, range_by, named_range, named_bits, named_reads, named_value, operand_meant}
use Rattle.vs_widths.specs.select_passes.Measures.{meaning, IsMeasured, IsOwnPart}
use Rattle.vs_widths.specs.select_passes.Places.{IsPlaced, IsAlone, IsFixed, IsChosen}

-- ---- how far a place may be out of range

branch_least : (b : Bool) (length width n : ℕ) → neg_ℤ (pos width) ≤ℤ (if b then pos n else pos length)
branch_least true length width n = omega (arith, ints)
branch_least false length width n = omega (arith, ints)

below_least : (b : Bool) (length width n : ℕ) → nat_lt (suc n) width ≡ b → neg_ℤ (pos width) ≤ℤ (if b then negsuc n else pos length)
below_least true length width n h =
    let k : suc n < width = ltb-true (suc n) width h in
    omega (arith, ints)
below_least false length width n h = omega (arith, ints)

reach_least : (length width : ℕ) (n : ℤ) → neg_ℤ (pos width) ≤ℤ in_reach length width n
reach_least length width (pos n) = branch_least (nat_lt n length) length width n
reach_least length width (negsuc n) = below_least (nat_lt (suc n) width) length width n refl

branch_most : (b : Bool) (length n : ℕ) → nat_lt n length ≡ b → (if b then pos n else pos length) ≤ℤ pos length
branch_most true length n h =
    let k : n < length = ltb-true n length h in
    omega (arith, ints)
branch_most false length n h = omega (arith, ints)

below_most : (b : Bool) (length n : ℕ) → (if b then negsuc n else pos length) ≤ℤ pos length
below_most true length n = omega (arith, ints)
below_most false length n = omega (arith, ints)

reach_most : (length width : ℕ) (n : ℤ) → in_reach length width n ≤ℤ pos length
reach_most length width (pos n) = branch_most (nat_lt n length) length n refl
reach_most length width (negsuc n) = below_most (nat_lt (suc n) width) length n

reached_least : (a : Axis) (width : ℕ) (n : Option ℤ) → neg_ℤ (pos width) ≤ℤ reached a width n
reached_least a width None = omega (arith, ints)
reached_least a width (Some n) = reach_least a.length width (lowest a n)

reached_most : (a : Axis) (width : ℕ) (n : Option ℤ) → reached a width n ≤ℤ pos a.length
reached_most a width None = omega (arith, ints)
reached_most a width (Some n) = reach_most a.length width (lowest a n)

place_least : (a : Axis) (width : ℕ) (digits : List Digit) → neg_ℤ (pos width) ≤ℤ place_of a width digits
place_least a width digits = reached_least a width (index_number a.signed digits)

place_most : (a : Axis) (width : ℕ) (digits : List Digit) → place_of a width digits ≤ℤ pos a.length
place_most a width digits = reached_most a width (index_number a.signed digits)

pub cast_fits : (z : ℤ) (a : Axis) (s : Shape) (digits : List Digit) → z ≡ place_of a s.width digits → SFits w32 z
cast_fits z a s digits h =
    let least : neg_ℤ (pos s.width) ≤ℤ z = rw h (place_least a s.width digits) in
    let most : z ≤ℤ pos a.length = rw h (place_most a s.width digits) in
    let narrow : s.width ≤ 64 = s.sized.1 in
    let short : a.length ≤ 65536 = a.sized in
    omega (arith, ints)

-- ---- places

pub fixed_as : (p : ChosenBits) (s : Slice) (u w : List Digit) → IsAlone p.word u → IsAlone p.extent.index w → s.signal ≡ p.signal → s.width ≡ p.extent.shape.width →
    s.word ≡ word_place p.words u → s.low ≡ place_of p.extent.axis p.extent.shape.width w → IsFixed p s
fixed_as p s u w h k e d i j = record {
  word_ranges = h.ranges;
  ranges = k.ranges;
  signal = e;
  width = d;
  word = λ store time. ap (word_place p.words) (h.value store time) ∙ sym i;
  low = λ store time. ap (place_of p.extent.axis p.extent.shape.width) (k.value store time) ∙ sym j;
}

-- ---- bits before they are brought to a context

range_none : (rs : List BitRange) (n : Named) (s : Slice) → rs ≡ [] → s.signal ≡ n.signal → s.word ≡ n.word [] 0 → s.low ≡ n.low [] 0 → s.width ≡ size_found n.finding → slice_range s ≡ range_by rs n
range_none _ n s h e i j d = rw (h, e, i, j, d) refl

range_some : (rs : List BitRange) (n : Named) → (rs ≡ [] → ⊥) → all_words n.signal ≡ range_by rs n
range_some [] n h = absurd (h refl)
range_some (r ∷ rs) n h = refl

pub both_empty : (xs ys : List BitRange) → (xs ≡ [] → ys ≡ [] → ⊥) → xs ++ ys ≡ [] → ⊥
both_empty [] ys h k = h refl k
both_empty (x ∷ xs) ys h k = cc

sized : (n : Named) (w : ℕ) (s : Bool) → n.finding ≡ Has w s → size_found n.finding ≡ w
sized n w s h = ap size_found h

valued : (n : Named) (w : ℕ) (s : Bool) (store : Store) (time : ℕ) → n.finding ≡ Has w s → named_value n store time ≡ bits_value (n.low store time) w (word_of store n.signal (n.word store time))
valued n w s store time h = ap (λ z. at_found z (λ width signed. bits_value (n.low store time) width (word_of store n.signal (n.word store time)))) h

-- what is outermost in what has constant indices, and in what has others
layer_none : (rs : List BitRange) (n : Named) (s : Slice) → rs ≡ [] → s.signal ≡ n.signal → s.word ≡ n.word [] 0 → s.low ≡ n.low [] 0 → s.width ≡ size_found n.finding →
    (width : ℕ) → brought width (bits (slice_bits s)) ≡ selected_layer rs (named_bits n) width
layer_none _ n s h e i j d width = rw (h, e, i, j, d) refl

layer_some : (rs : List BitRange) (q : FixedBits) (width : ℕ) → (rs ≡ [] → ⊥) → other ≡ selected_layer rs q width
layer_some [] q width h = absurd (h refl)
layer_some (r ∷ rs) q width h = refl

-- the range of what has constant indices
pub fixed_range : (p : ChosenBits) (s : Slice) → IsFixed p s → (n : Named) → IsPlaced n p → slice_range s ≡ named_range n
fixed_range p s q n h =
    let none : n.reads ≡ [] = h.ranges ∙ ap₂ (λ a b. a ++ b) q.word_ranges q.ranges in
    range_none n.reads n s none (q.signal ∙ sym h.signal) (sym (h.word [] 0 ∙ q.word [] 0)) (sym (h.low [] 0 ∙ q.low [] 0))
    (q.width ∙ sym (sized n p.extent.shape.width p.extent.shape.signed h.found))

pub fixed_reads : (p : ChosenBits) (s : Slice) → IsFixed p s → (n : Named) → IsPlaced n p → n.reads ≡ []
fixed_reads p s q n h = h.ranges ∙ ap₂ (λ a b. a ++ b) q.word_ranges q.ranges

-- the range of what has others
pub chosen_range : (p : ChosenBits) → ((sense p.word.form).reads ≡ [] → (sense p.extent.index.form).reads ≡ [] → ⊥) → (n : Named) → IsPlaced n p → all_words p.signal ≡ named_range n
chosen_range p q n h =
    ap all_words (sym h.signal) ∙ range_some n.reads n (λ k. both_empty (sense p.word.form).reads (sense p.extent.index.form).reads q (sym h.ranges ∙ k))

pub fixed_chosen : (p : ChosenBits) (s : Slice) → IsFixed p s → (n : Named) → IsPlaced n p → IsChosen n (v.Slice s)
fixed_chosen p s q n h =
    let same = layer (f.Slice s) (v.Slice s) (v.rolls-Slice s) in
    let w = p.extent.shape.width in
    record {
      size = λ width. ap (λ z. z.size width) same ∙ ap Some (q.width ∙ sym (sized n w p.extent.shape.signed h.found));
      ranges = ap (λ z. z.reads) same ∙ ap₂ (λ a b. a ∷ b) (fixed_range p s q n h) (sym (fixed_reads p s q n h));
      value = λ store time width signed.
          ap (λ z. z.at store time width signed) same
          ∙ ap₂ (λ a b. bits_value a b (word_of store s.signal s.word)) (sym (h.low store time ∙ q.low store time)) q.width
          ∙ ap₂ (λ a b. bits_value (n.low store time) w (word_of store a b)) (q.signal ∙ sym h.signal) (sym (h.word store time ∙ q.word store time))
          ∙ sym (valued n w p.extent.shape.signed store time h.found);
      layer = λ width size. ap (λ z. brought width (z.layer size)) same
          ∙ layer_none n.reads n s (fixed_reads p s q n h) (q.signal ∙ sym h.signal) (sym (h.word [] 0 ∙ q.word [] 0)) (sym (h.low [] 0 ∙ q.low [] 0))
          (q.width ∙ sym (sized n w p.extent.shape.signed h.found)) width;
    }

pub select_chosen : (p : ChosenBits) (s : Box Selection Global) (b d : Box Sizable Global) → IsOwnPart p.word b.value → IsOwnPart p.extent.index d.value → s.value.signal ≡ p.signal → s.value.words ≡ p.words → s.value.bits ≡ p.extent.axis → s.value.width ≡ p.extent.shape.width →
    ((sense p.word.form).reads ≡ [] → (sense p.extent.index.form).reads ≡ [] → ⊥) → (n : Named) → IsPlaced n p → IsChosen n (v.Select s b d)
select_chosen p s b d k l e i j w q n h =
    let same = layer (f.Select s b d) (v.Select s b d) (v.rolls-Select s b d) in
    record {
      size = λ width.
          ap (λ z. z.size width) same
          ∙ ap₂ (indexed_size s.value.width) (k.size width ∙ h.word_flexible p.word.shape.width) (l.size width ∙ h.flexible p.extent.index.shape.width)
          ∙ ap Some (w ∙ sym (sized n p.extent.shape.width p.extent.shape.signed h.found));
      ranges = ap (λ z. z.reads) same
          ∙ ap₂ (λ a c. all_words s.value.signal ∷ a ++ c) k.ranges l.ranges
          ∙ ap₂ (λ a c. a ∷ c) (ap all_words e ∙ chosen_range p q n h) (sym h.ranges);
      value = λ store time width signed.
          ap (λ z. z.at store time width signed) same
          ∙ ap₂ (selection_value s.value store) (k.value store time width signed) (l.value store time width signed)
          ∙ rw (e, i, j, w) (
          ap₂ (λ a c. bits_value a p.extent.shape.width (word_of store p.signal c)) (sym (h.low store time)) (sym (h.word store time))
          ∙ ap (λ a. bits_value (n.low store time) p.extent.shape.width (word_of store a (n.word store time))) (sym h.signal)
          ∙ sym (valued n p.extent.shape.width p.extent.shape.signed store time h.found)
          );
      layer = λ width size. ap (λ z. brought width (z.layer size)) same
          ∙ layer_some n.reads (named_bits n) width (λ r. both_empty (sense p.word.form).reads (sense p.extent.index.form).reads q (sym h.ranges ∙ r));
    }

-- ---- operands

-- two meanings that agree at each point
pub meant_same : (a b : Meant) → a.finding ≡ b.finding → a.reads ≡ b.reads → ((store : Store) (time width : ℕ) (signed : Bool) → a.at store time width signed ≡ b.at store time width signed) → ((width : ℕ) → a.layer width ≡ b.layer width) → a ≡ b
meant_same a b p q h l = λ i. record { finding = p i; reads = q i; at = λ store time width signed. h store time width signed i; layer = λ width. l width i }

pub operand_as : (p : ChosenBits) (y : Sizable) (b : Box Sizable Global) → b.value ≡ y → ((n : Named) → IsPlaced n p → IsChosen n y) → (n : Named) → IsPlaced n p →
    IsMeasured (operand_meant n) (record { shape = p.extent.shape; form = v.Closed p.extent.shape b })
operand_as p y b e k n h =
    let shape = p.extent.shape in
    let c : IsChosen n b.value = subst (IsChosen n) (sym e) (k n h) in
    let same = layer (f.Closed shape b) (v.Closed shape b) (v.rolls-Closed shape b) in
    record {
      means = meant_same (operand_meant n) (meaning (record { shape = shape; form = v.Closed shape b })) h.found
          (ap (λ z. named_reads z n) h.found ∙ sym (ap (λ z. z.reads) same ∙ c.ranges))
          (λ store time width signed. sym (ap (λ z. z.at store time width signed) same ∙ ap (resized signed width) (c.value store time shape.width shape.signed)))
          (λ width. sym (ap (λ z. z.layer width) same ∙ c.layer width shape.width));
      flexible = λ width. ap (λ z. z.size width) same ∙ ap (option_map (λ n. width)) (c.size shape.width);
    }
