-- Bits of constants.
use Rattle.std.proofs.Common.{◌≡◌, ℕ, ℤ, Bool, List, [], ◌∷◌, Some, option_map, length, refl, ap, sym, subst, ◌∙◌}
use Rattle.std.specs.declared.boxed.Box.{Box}
use Rattle.std.specs.declared.alloc.Global.{Global}
use Rattle.vs_design.specs.vs_logic4.specs.declared.digit.Digit.{Digit}
use Rattle.vs_design.specs.vs_logic4.specs.Lengths.{length-selected}
use Rattle.vs_design.specs.vs_logic4.specs.Parts.{selected}
use Rattle.vs_design.specs.vs_logic4.specs.Vectors.{resized}
use Rattle.vs_design.specs.vs_logic4.proofs.Properties.{resized-own_width}
use Rattle.vs_design.specs.declared.expression.Excerpt.{Excerpt}
use Rattle.vs_design.specs.Selects.{place_of}
use Rattle.vs_design.specs.Stores.{Store}
use Rattle.vs_eval.specs.Values.{bits_value, excerpt_value}
use Rattle.vs_widths.specs.declared.shape.Shape.{Shape}
use Rattle.vs_widths.specs.declared.forms.Sizable.{Sizable}
use Rattle.vs_widths.specs.declared.forms.Sizable.TheVariants as v
use Rattle.vs_widths.specs.declared.forms.Sizable.TheOpen as f
use Rattle.vs_widths.proofs.FittingLemmas.{layer}
use Rattle.vs_widths.specs.declared.constants.Const.{Const}
use Rattle.vs_widths.specs.declared.places.Extent.{Extent}
use Rattle.vs_widths.specs.Findings.{at_found}
use Rattle.vs_widths.specs.Layers.{brought}
use Rattle.vs_widths.specs.Selects.{Select, Span, span_of, select_span, constant_span, span_value, excerpt_meant}
use Rattle.vs_widths.specs.select_passes.Measures.{meaning, IsMeasured, IsOwnPart}
use Rattle.vs_widths.specs.select_passes.Places.{IsExtent, IsAlone, IsExcerpt}
use Rattle.vs_widths.proofs.FixingLemmas.{meant_same}

-- what selects choose of a constant is what they choose of a word of its size and range
pub constant_span_is : (c : Const) (s : Shape) (ss : List Select) → s.width ≡ length c.value → s.signed ≡ c.signed → constant_span c ss ≡ span_of (Some c.bits) s ss
constant_span_is c s [] h k = rw (h, k) refl
constant_span_is c s (x ∷ []) h k = ap (λ n. select_span c.bits n x) (sym h)
constant_span_is c s (x ∷ y ∷ xs) h k = refl

-- the value of chosen bits
span_valued : (digits : List Digit) (s : Span) (e : Extent) (store : Store) (time : ℕ) (z : ℤ) → IsExtent s e → s.low store time ≡ z → span_value digits s store time ≡ selected z e.shape.width digits
span_valued digits s e store time z h k =
    ap (λ y. at_found y (λ width signed. bits_value (s.low store time) width (Some digits))) h.found ∙ ap (λ y. selected y e.shape.width digits) k

resized_same : (signed : Bool) (n : ℕ) (ds : List Digit) → length ds ≡ n → resized signed n ds ≡ ds
resized_same signed n ds h = ap (λ m. resized signed m ds) (sym h) ∙ resized-own_width signed ds

-- bits that a constant index chooses
pub cut_fixed : (digits value low : List Digit) (e : Extent) (z : ℤ) → IsAlone e.index low → z ≡ place_of e.axis e.shape.width low → value ≡ selected z e.shape.width digits →
    (s : Span) → IsExtent s e → IsExcerpt digits s e.shape (v.Number value)
cut_fixed digits value low e z h k l s p =
    let same = layer (f.Number value) (v.Number value) (v.rolls-Number value) in
    let w = e.shape.width in
    let long : length value ≡ w = ap length l ∙ length-selected z w digits in
    record {
      size = ap (λ y. y.size w) same;
      ranges = ap (λ y. y.reads) same ∙ sym (p.ranges ∙ h.ranges);
      value = λ store time.
          ap (λ y. y.at store time w e.shape.signed) same ∙ resized_same e.shape.signed w value long ∙ l
          ∙ sym (span_valued digits s e store time z p (p.low store time ∙ ap (place_of e.axis w) (h.value store time) ∙ sym k));
      layer = λ width size. ap (λ z. brought width (z.layer size)) same;
    }

-- bits that any other index chooses
pub cut_chosen : (digits : List Digit) (e : Extent) (x : Box Excerpt Global) (b : Box Sizable Global) → IsOwnPart e.index b.value → x.value.digits ≡ digits → x.value.bits ≡ e.axis → x.value.width ≡ e.shape.width →
    (s : Span) → IsExtent s e → IsExcerpt digits s e.shape (v.Excerpt x b)
cut_chosen digits e x b q h k l s p =
    let same = layer (f.Excerpt x b) (v.Excerpt x b) (v.rolls-Excerpt x b) in
    let w = e.shape.width in
    record {
      size = ap (λ y. y.size w) same ∙ ap (option_map (λ n. x.value.width)) (q.size w ∙ p.flexible e.index.shape.width) ∙ ap Some l;
      ranges = ap (λ y. y.reads) same ∙ q.ranges ∙ sym p.ranges;
      value = λ store time.
          ap (λ y. y.at store time w e.shape.signed) same ∙ ap (excerpt_value x.value) (q.value store time w e.shape.signed)
          ∙ rw (h, k, l) (sym (span_valued digits s e store time _ p (p.low store time)));
      layer = λ width size. ap (λ z. brought width (z.layer size)) same;
    }

pub excerpt_as : (digits : List Digit) (e : Extent) (y : Sizable) (b : Box Sizable Global) → b.value ≡ y → ((s : Span) → IsExtent s e → IsExcerpt digits s e.shape y) → (s : Span) → IsExtent s e →
    IsMeasured (excerpt_meant digits s) (record { shape = e.shape; form = v.Closed e.shape b })
excerpt_as digits e y b i k s h =
    let shape = e.shape in
    let c : IsExcerpt digits s shape b.value = subst (IsExcerpt digits s shape) (sym i) (k s h) in
    let same = layer (f.Closed shape b) (v.Closed shape b) (v.rolls-Closed shape b) in
    record {
      means = meant_same (excerpt_meant digits s) (meaning (record { shape = shape; form = v.Closed shape b })) h.found
          (sym (ap (λ z. z.reads) same ∙ c.ranges))
          (λ store time width signed. sym (ap (λ z. z.at store time width signed) same ∙ ap (resized signed width) (c.value store time)))
          (λ width. sym (ap (λ z. z.layer width) same ∙ c.layer width shape.width));
      flexible = λ width. ap (λ z. z.size width) same ∙ ap (option_map (λ n. width)) c.size;
    }
