-- Continuous assignments that copy one bit by their text are links.
use Rattle.std.proofs.Common.{◌≡◌, ℕ, ℤ, pos, zero, suc, ◌+◌, Bool, true, false, Some, option_map, List, [], ◌∷◌, map, replicate, slice_get, refl, sym, ◌∙◌, ap, eqb-true, eq-eqb, inl, inr, arith, ◌&&◌}
use Rattle.std.specs.List.{list_any}
use Rattle.std.proofs.lemmas.Bool.{or_cases, false≢true}
use Rattle.vs_design.specs.vs_logic4.specs.declared.digit.Digit.{Digit}
use Rattle.vs_design.specs.vs_logic4.specs.declared.digit.Digit.TheVariants.{X}
use Rattle.vs_design.specs.vs_logic4.specs.Parts.{selected}
use Rattle.vs_design.specs.vs_logic4.specs.Vectors.{resized}
use Rattle.vs_design.specs.declared.design.Assign.{Assign}
use Rattle.vs_design.specs.declared.expression.Slice.{Slice}
use Rattle.vs_design.specs.declared.expression.Typed.{Typed, Typed-F}
use Rattle.vs_design.specs.declared.expression.Typed.TheOpen as t
use Rattle.vs_design.specs.declared.expression.Typed.TheViews.{out-Typed}
use Rattle.vs_design.specs.declared.expression.Typed.TheFolds.{fold_out-Typed, map-Typed}
use Rattle.vs_design.specs.declared.range.BitRange.{BitRange}
use Rattle.vs_design.specs.declared.signal.Signal.{Signal}
use Rattle.vs_design.specs.declared.signal.SignalKind.{SignalKind}
use Rattle.vs_design.specs.declared.signal.SignalKind.TheVariants.{Wire, Reg, Integer}
use Rattle.vs_design.specs.declared.statement.Aim.{Aim}
use Rattle.vs_design.specs.declared.statement.Aim.TheVariants.{Fixed}
use Rattle.vs_design.specs.declared.statement.Target.{Target}
use Rattle.vs_design.specs.declared.write.Part.{Part}
use Rattle.vs_design.specs.Kinds.{is_variable}
use Rattle.vs_design.specs.Parts.{Parts}
use Rattle.vs_design.specs.Stores.{Store, changed_at, overlaid, put, word_of, word_in, drives_bit, start_digit, start_digits, start_word, start_words}
use Rattle.vs_design.specs.Uses.{aim_range, bits_from, covers, is_of, reads, reads_step, slice_range, whole, writes, writes_signal}
use Rattle.vs_process.specs.vs_eval.specs.Targets.{part_at, parts_from}
use Rattle.vs_process.specs.vs_eval.specs.Values.{value_of, value_step, operand_value, bits_value, target_value}
use Rattle.std.proofs.lemmas.Map.Keys.{any_passes_from_place as at_any}
use Rattle.vs_design.proofs.Stores.{slice_get-changed_at as changed_same}
use Rattle.vs_process.specs.Copying.{IsBitPlace, IsBitLayer, CopiesByName, HasOneBit, IsBitVariable}
use Rattle.vs_process.specs.Edges.{one_bit, IsBit, IsLink}

-- ---- what is written

written_bit : (store : Store) (n : ℕ) (y z : Digit) → slice_get store n ≡ Some (one_bit y) → slice_get (put store (record { signal = n; word = 0; low = pos 0; digits = z ∷ [] } ∷ [])) n ≡ Some (one_bit z)
written_bit store n y z h = changed_same (changed_at (overlaid (pos 0) (z ∷ [])) 0) n store ∙ ap (option_map (changed_at (overlaid (pos 0) (z ∷ [])) 0)) h

-- the write of digits of which the lowest is z
part_of : (s : Slice) (n : ℕ) (digits : List Digit) (z : Digit) (store : Store) (time : ℕ) → IsBitPlace n s → digits ≡ z ∷ [] →
    part_at (Fixed s) (selected (pos 0) s.width digits) store time ≡ record { signal = n; word = 0; low = pos 0; digits = z ∷ [] }
part_of s n digits z store time p is =
    ap (λ ds. record { signal = s.signal; word = s.word; low = s.low; digits = ds }) (ap (λ w. selected (pos 0) w digits) p.width ∙ ap (selected (pos 0) 1) is)
    ∙ ap (λ v. record { signal = v; word = s.word; low = s.low; digits = z ∷ [] }) p.signal
    ∙ ap (λ w. record { signal = n; word = w; low = s.low; digits = z ∷ [] }) p.word
    ∙ ap (λ l. record { signal = n; word = 0; low = l; digits = z ∷ [] }) p.low

-- ---- what is read

word_is : (store : Store) (m word : ℕ) (z : Digit) → word ≡ 0 → slice_get store m ≡ Some (one_bit z) → word_of store m word ≡ Some (z ∷ [])
word_is store m word z e h = ap (word_of store m) e ∙ ap (λ o. word_in o 0) h

layer_value : (store : Store) (time m : ℕ) (z : Digit) (x : Typed-F Typed) → IsBitLayer m x → slice_get store m ≡ Some (one_bit z) →
    value_step store time (map-Typed Typed (List Digit) (λ e. value_of e store time) x) ≡ z ∷ []
layer_value store time m z (t.Signal o) is h =
    ap (operand_value o.signed o.width) (ap (λ v. word_of store v 0) is.0 ∙ word_is store m 0 z refl h) ∙ ap (λ w. resized o.signed w (z ∷ [])) is.1
layer_value store time m z (t.Slice s) is h =
    ap (bits_value s.low s.width) (ap (λ v. word_of store v s.word) is.signal ∙ word_is store m s.word z is.word h)
    ∙ ap (λ l. selected l s.width (z ∷ [])) is.low ∙ ap (λ w. selected (pos 0) w (z ∷ [])) is.width
layer_value store time m z (t.Number digits) is h = absurd is
layer_value store time m z (t.Select s word low) is h = absurd is
layer_value store time m z (t.Excerpt s low) is h = absurd is
layer_value store time m z (t.Unary op x) is h = absurd is
layer_value store time m z (t.Chain x links) is h = absurd is
layer_value store time m z (t.Choice pairs last) is h = absurd is
layer_value store time m z (t.Concat x xs) is h = absurd is
layer_value store time m z (t.Repeat n x) is h = absurd is
layer_value store time m z (t.Resized size x) is h = absurd is

source_value : (store : Store) (time m : ℕ) (z : Digit) (e : Typed) → IsBitLayer m (out-Typed e) → slice_get store m ≡ Some (one_bit z) → value_of e store time ≡ z ∷ []
source_value store time m z e is h = fold_out-Typed (List Digit) (value_step store time) e ∙ layer_value store time m z (out-Typed e) is h

-- the range that it reads
pub record ReadsOne (m : ℕ) (rs : List BitRange) : Type 0 where
  pub range : BitRange
  pub is : rs ≡ range ∷ []
  pub of : range.signal ≡ m

layer_reads : (m : ℕ) (x : Typed-F Typed) → IsBitLayer m x → ReadsOne m (reads_step (map-Typed Typed (List BitRange) reads x))
layer_reads m (t.Signal o) is = record { range = whole o.signal; is = refl; of = is.0 }
layer_reads m (t.Slice s) is = record { range = slice_range s; is = refl; of = is.signal }
layer_reads m (t.Number digits) is = absurd is
layer_reads m (t.Select s word low) is = absurd is
layer_reads m (t.Excerpt s low) is = absurd is
layer_reads m (t.Unary op x) is = absurd is
layer_reads m (t.Chain x links) is = absurd is
layer_reads m (t.Choice pairs last) is = absurd is
layer_reads m (t.Concat x xs) is = absurd is
layer_reads m (t.Repeat n x) is = absurd is
layer_reads m (t.Resized size x) is = absurd is

source_reads : (m : ℕ) (e : Typed) → IsBitLayer m (out-Typed e) → ReadsOne m (reads e)
source_reads m e is =
    let r = layer_reads m (out-Typed e) is in
    record { range = r.range; is = fold_out-Typed (List BitRange) reads_step e ∙ r.is; of = r.of }

-- ---- the link

-- what a target of one place writes
target_writes : (t : Target) (s : Slice) → t.parts.items ≡ Fixed s ∷ [] → writes t ≡ slice_range s ∷ []
target_writes t s one = ap (map aim_range) one

one_named : (t : Target) (s : Slice) (n v : ℕ) → t.parts.items ≡ Fixed s ∷ [] → s.signal ≡ n → writes_signal t v ≡ true → v ≡ n
one_named t s n v one is h = elim (or_cases (is_of v (slice_range s)) false (ap (list_any (is_of v)) (sym (target_writes t s one)) ∙ h)) [
  | inl hit ↦ sym (eqb-true s.signal v hit) ∙ is
  | inr none ↦ absurd (false≢true none)
]

pub copy_is_link : (d : Parts) (m n : ℕ) → CopiesByName d m n → IsLink d m n
copy_is_link d m n c =
    let r = source_reads m c.assign.source c.is_signal in
    record {
      number = c.number;
      assign = c.assign;
      is = c.is;
      range = r.range;
      reads = r.is;
      of_source = r.of;
      writes = ap (list_any (is_of n)) (target_writes c.assign.target c.place c.one_place) ∙ at_any (is_of n) (slice_range c.place ∷ []) 0 (slice_range c.place) refl (eq-eqb c.place.signal n c.is_net.signal);
      only = λ v. one_named c.assign.target c.place n v c.one_place c.is_net.signal;
      alone = c.alone;
      inverts = false;
      copies = λ store time y z source net.
          let value : target_value c.assign.target c.assign.source store time ≡ z ∷ [] =
          ap (λ w. resized false w (value_of c.assign.source store time)) c.size ∙ ap (resized false 1) (source_value store time m z c.assign.source c.is_signal source) in
          ap (λ (w : List Part). slice_get (put store w) n)
          (ap (λ (l : List Aim). parts_from 0 l (target_value c.assign.target c.assign.source store time) store time) c.one_place
          ∙ ap (λ (p : Part). p ∷ []) (part_of c.place n (target_value c.assign.target c.assign.source store time) z store time c.is_net value))
          ∙ written_bit store n y z net;
    }

-- ---- the start

-- the range of bits of a word from a place on
abbrev slice_at : ℕ → ℕ → ℤ → ℕ → BitRange
slice_at signal word low width = record { signal = signal; word = Some word; bits = Some (bits_from low width) }

zero_more : (n : ℕ) → n ≡ n + 0
zero_more n = omega arith

from_zero : (n : ℕ) → 0 + n ≡ n
from_zero n = omega arith

pub start_at : (assigns : List Assign) (first : ℕ) (ss : List Signal) (v : ℕ) (s : Signal) → slice_get ss v ≡ Some s → slice_get (start_words assigns first ss) v ≡ Some (replicate s.count (start_word assigns (first + v) s))
start_at assigns first [] v s is = cc
start_at assigns first (x ∷ ss) zero s is =
    let e : x ≡ s = cc in
    ap (λ (s : Signal). Some (replicate s.count (start_word assigns first s))) e ∙ ap (λ n. Some (replicate s.count (start_word assigns n s))) (zero_more first)
start_at assigns first (x ∷ ss) (suc v) s is =
    let e : suc first + v ≡ first + suc v = omega arith in
    start_at assigns (suc first) ss v s is ∙ ap (λ n. Some (replicate s.count (start_word assigns n s))) e

one_start : (d : Parts) (v : ℕ) (b : HasOneBit d v) → start_digit (drives_bit d.assigns v 0) b.signal.kind ≡ X → IsBit d v
one_start d v b x =
    start_at d.assigns 0 d.signals v b.signal b.is
    ∙ ap (λ n. Some (replicate b.signal.count (start_word d.assigns n b.signal))) (from_zero v)
    ∙ ap (λ n. Some (replicate n (start_word d.assigns v b.signal))) b.count
    ∙ ap (λ w. Some (start_digits (drives_bit d.assigns v) b.signal.kind 0 w ∷ [])) b.width
    ∙ ap (λ z. Some (one_bit z)) x

-- a variable of one bit
pub variable_is_bit : (d : Parts) (v : ℕ) → IsBitVariable d v → IsBit d v
variable_is_bit d v h = one_start d v h.bit (by_kind (drives_bit d.assigns v 0) h.bit.signal.kind h.variable)
  where
    by_kind : (t : Bool) (k : SignalKind) → is_variable k ≡ true → start_digit t k ≡ X
    by_kind t Reg g = refl
    by_kind t Integer g = refl
    by_kind t Wire g = absurd (false≢true g)

-- a net of one bit that is copied to
pub net_is_bit : (d : Parts) (m n : ℕ) → HasOneBit d n → CopiesByName d m n → IsBit d n
net_is_bit d m n b c = one_start d n b (ap (λ t. start_digit t b.signal.kind) driven ∙ by_kind b.signal.kind)
  where
    by_kind : (k : SignalKind) → start_digit true k ≡ X
    by_kind Reg = refl
    by_kind Integer = refl
    by_kind Wire = refl

    covered : list_any (covers n 0 0) (writes c.assign.target) ≡ true
    covered = ap (list_any (covers n 0 0)) (target_writes c.assign.target c.place c.one_place) ∙ at_any (covers n 0 0) (slice_range c.place ∷ []) 0 (slice_range c.place) refl here
      where
        here : covers n 0 0 (slice_range c.place) ≡ true
        here = ap (λ v. covers n 0 0 (slice_at v c.place.word c.place.low c.place.width)) c.is_net.signal
            ∙ ap (λ w. covers n 0 0 (slice_at n w c.place.low c.place.width)) c.is_net.word
            ∙ ap (λ l. covers n 0 0 (slice_at n 0 l c.place.width)) c.is_net.low
            ∙ ap (λ w. covers n 0 0 (slice_at n 0 (pos 0) w)) c.is_net.width
            ∙ ap (λ b. b && true && true) (eq-eqb n n refl)

    driven : drives_bit d.assigns n 0 ≡ true
    driven = at_any (λ (a : Assign). list_any (covers n 0 0) (writes a.target)) d.assigns c.number c.assign c.is covered
