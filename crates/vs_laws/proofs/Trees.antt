-- Expressions and targets that say the same are the whole of a signal, `~` or `!` of it, and writes of constants alike.
use Rattle.std.proofs.Common.{◌≡◌, ℕ, pos, ◌+◌, neg_ℤ, ◌+ℤ◌, ◌==◌, if◌then◌else◌, ◌||◌, Bool, true, false, Some, None, List, [], ◌∷◌, slice_get, refl, ap, ap₂, sym, subst, ◌∙◌, true≢false}
use Rattle.std.specs.List.{AllZip, list_any}
use Rattle.std.specs.declared.boxed.Box.{Box}
use Rattle.std.specs.declared.alloc.Global.{Global}
use Rattle.vs_design.specs.vs_logic4.specs.declared.digit.Digit.{Digit}
use Rattle.vs_design.specs.vs_logic4.specs.declared.operators.Unary.{Unary}
use Rattle.vs_design.specs.vs_logic4.specs.declared.operators.Unary.TheVariants as u
use Rattle.vs_design.specs.vs_logic4.specs.Parts.{selected}
use Rattle.vs_design.specs.declared.expression.Slice.{Slice}
use Rattle.vs_design.specs.declared.expression.Typed.{Typed, Typed-F, fold-roll-Typed, map-Typed}
use Rattle.vs_design.specs.declared.expression.Typed.TheOpen as t
use Rattle.vs_design.specs.declared.expression.Typed.TheViews.{out-Typed, roll-out-Typed}
use Rattle.vs_design.specs.declared.signal.Signal.{Signal}
use Rattle.vs_design.specs.declared.statement.Aim.{Aim}
use Rattle.vs_design.specs.declared.statement.Aim.TheVariants.{Fixed, Chosen}
use Rattle.vs_design.specs.declared.statement.Target.{Target}
use Rattle.vs_design.specs.Parts.{Parts}
use Rattle.vs_design.specs.Uses.{aim_range, covers, is_of, reads}
use Rattle.vs_design.specs.WellFormed.{aim_width}
use Rattle.vs_process.specs.vs_eval.specs.Values.{target_value}
use Rattle.vs_elaborate.specs.vs_widths.specs.Layers.{FixedBits, slice_bits, Layer, name, select, inverse, negation, negated, bits, brought, operator_layer, layer_step, layer_of}
use Rattle.vs_elaborate.specs.Same.{SameAim, SameTarget, SameSides}
use Rattle.vs_rules.specs.Blocks.{is_sure}
use Rattle.vs_rules.specs.Constants.{IsWholeSlice, IsWholeTarget, IsWholeSelect, IsWholeLayer, IsWhole, IsInverseLayer, IsInverse, IsNegationLayer, InvertsLayer, Inverts, IsTurn, digit_there, place_gives, any_aims, places_give, is_nothing, given}
use Rattle.vs_rules.specs.Paths.{Bit}
use Rattle.vs_laws.proofs.Steps.{value_same}

-- ---- whole signals, by what is outermost

-- these bits are the whole of a signal that is no array
record AreWhole (d : Parts) (v : ℕ) (b : FixedBits) : Type 0 where
  signal : Signal
  is : slice_get d.signals v ≡ Some signal
  no_array : signal.words ≡ None
  count : signal.count ≡ 1
  of : b.signal ≡ v
  word : b.word ≡ 0
  low : b.low ≡ pos 0
  width : b.width ≡ signal.width

record IsNamed (d : Parts) (v n w : ℕ) : Type 0 where
  signal : Signal
  is : slice_get d.signals v ≡ Some signal
  no_array : signal.words ≡ None
  count : signal.count ≡ 1
  of : n ≡ v
  width : w ≡ signal.width

abbrev WholeBy : Parts → ℕ → Layer → Type 0
WholeBy d v (name n w) = IsNamed d v n w
WholeBy d v (select b w) = AreWhole d v b × (b.width ≡ w)
WholeBy d v (bits b) = AreWhole d v b
WholeBy d v _ = ⊥

abbrev layered : Typed-F Typed → Layer
layered x = layer_step (map-Typed Typed Layer layer_of x)

layer_is : (e : Typed) → layer_of e ≡ layered (out-Typed e)
layer_is e = ap layer_of (sym (roll-out-Typed e)) ∙ fold-roll-Typed Layer layer_step (out-Typed e)

-- a layer that is bits alone
record IsSlice (z : Typed-F Typed) (b : FixedBits) : Type 0 where
  slice : Slice
  is : z ≡ t.Slice slice
  bits_are : slice_bits slice ≡ b

no_bits : (op : Unary) (l : Layer) (b : FixedBits) → operator_layer op l ≡ bits b → ⊥
no_bits u.Not l b h = cc
no_bits u.LogicalNot l b h = cc
no_bits _ l b h = cc

brought_no_bits : (w : ℕ) (l : Layer) (b : FixedBits) → brought w l ≡ bits b → ⊥
brought_no_bits w (bits c) b h = cc
brought_no_bits w (negation l) b h = cc
brought_no_bits w _ b h = cc

abbrev bits_in : FixedBits → Layer → FixedBits
bits_in c (bits b) = b
bits_in c _ = c

slice_of : (z : Typed-F Typed) (b : FixedBits) → layered z ≡ bits b → IsSlice z b
slice_of (t.Slice s) b h = record { slice = s; is = refl; bits_are = ap (bits_in b) h }
slice_of (t.Unary op x) b h = absurd (no_bits op (layer_of x.value) b h)
slice_of (t.Resized size x) b h = absurd (brought_no_bits size.width (layer_of x.value) b h)
slice_of _ b h = cc

-- a select of all bits, of a size
to_select : (d : Parts) (v w : ℕ) (z : Typed-F Typed) → IsWholeSelect d v w z → (s : Slice) × (z ≡ t.Slice s) × IsWholeSlice d v s × (s.width ≡ w)
to_select d v w (t.Slice s) h = (s, refl, h.0, h.1)
to_select d v w _ h = absurd h

bits_whole : (d : Parts) (v : ℕ) (s : Slice) → IsWholeSlice d v s → AreWhole d v (slice_bits s)
bits_whole d v s h = record { signal = h.signal; is = h.is; no_array = h.no_array; count = h.count; of = h.of; word = h.word; low = h.low; width = h.width }

to_whole : (d : Parts) (v : ℕ) (x : Typed-F Typed) → IsWholeLayer d v x → WholeBy d v (layered x)
to_whole d v (t.Signal o) h = record { signal = h.signal; is = h.is; no_array = h.no_array; count = h.count; of = h.of; width = h.width }
to_whole d v (t.Slice s) h = bits_whole d v s h
to_whole d v (t.Resized size x) h =
    let p = to_select d v size.width (out-Typed x.value) h in
    let l : layer_of x.value ≡ bits (slice_bits p.0) = layer_is x.value ∙ ap layered p.1 in
    subst (λ z. WholeBy d v (brought size.width z)) (sym l) (bits_whole d v p.0 p.2, p.3)
to_whole d v _ h = absurd h

whole_slice : (d : Parts) (v : ℕ) (s : Slice) (b : FixedBits) → slice_bits s ≡ b → AreWhole d v b → IsWholeSlice d v s
whole_slice d v s b e h = record {
  signal = h.signal;
  is = h.is;
  no_array = h.no_array;
  count = h.count;
  of = ap (λ z. z.signal) e ∙ h.of;
  word = ap (λ z. z.word) e ∙ h.word;
  low = ap (λ z. z.low) e ∙ h.low;
  width = ap (λ z. z.width) e ∙ h.width;
}

-- what is brought to a size and whole is bits
record IsBrought (d : Parts) (v w : ℕ) (l : Layer) : Type 0 where
  of : FixedBits
  is : l ≡ bits of
  whole : AreWhole d v of
  width : of.width ≡ w

brought_is : (d : Parts) (v w : ℕ) (l : Layer) → WholeBy d v (brought w l) → IsBrought d v w l
brought_is d v w (bits b) h = record { of = b; is = refl; whole = h.0; width = h.1 }
brought_is d v w (negation l) h = absurd h
brought_is d v w _ h = absurd h

no_operator : (d : Parts) (v : ℕ) (op : Unary) (l : Layer) → WholeBy d v (operator_layer op l) → ⊥
no_operator d v u.Not l h = h
no_operator d v u.LogicalNot l h = h
no_operator d v _ l h = h

from_whole : (d : Parts) (v : ℕ) (x : Typed-F Typed) → WholeBy d v (layered x) → IsWholeLayer d v x
from_whole d v (t.Signal o) h = record { signal = h.signal; is = h.is; no_array = h.no_array; count = h.count; of = h.of; width = h.width }
from_whole d v (t.Slice s) h = whole_slice d v s (slice_bits s) refl h
from_whole d v (t.Resized size x) h =
    let p = brought_is d v size.width (layer_of x.value) h in
    let q = slice_of (out-Typed x.value) p.of (sym (layer_is x.value) ∙ p.is) in
    subst (IsWholeSelect d v size.width) (sym q.is) (whole_slice d v q.slice p.of q.bits_are p.whole, ap (λ z. z.width) q.bits_are ∙ p.width)
from_whole d v (t.Unary op x) h = absurd (no_operator d v op (layer_of x.value) h)
from_whole d v _ h = absurd h

-- two designs have the same signals, so far as whole signals ask
abbrev pub SameSizes : Parts → Parts → Type 0
SameSizes d d' = (v : ℕ) (s : Signal) → slice_get d.signals v ≡ Some s →
    (s' : Signal) × (slice_get d'.signals v ≡ Some s') × (s.words ≡ s'.words) × (s.count ≡ s'.count) × (s.width ≡ s'.width)

-- an expression is the whole of a signal by what is outermost in it
whole_by : (d : Parts) (v : ℕ) (e : Typed) (l : Layer) → layer_of e ≡ l → WholeBy d v l → IsWhole d v e
whole_by d v e l k h = from_whole d v (out-Typed e) (subst (WholeBy d v) (sym k ∙ layer_is e) h)

by_whole : (d : Parts) (v : ℕ) (e : Typed) → IsWhole d v e → WholeBy d v (layer_of e)
by_whole d v e h = subst (WholeBy d v) (sym (layer_is e)) (to_whole d v (out-Typed e) h)

-- ---- `~` and `!` of a whole signal, by what is outermost

abbrev InverseBy : Parts → ℕ → Layer → Type 0
InverseBy d v (inverse l) = WholeBy d v l
InverseBy d v _ = ⊥

abbrev InvertsBy : Parts → ℕ → Layer → Type 0
InvertsBy d v (inverse l) = WholeBy d v l
InvertsBy d v (negated l w) = (w ≡ 1) × WholeBy d v l
InvertsBy d v _ = ⊥

-- what is outermost in `!` of an operand
record IsNegation (d : Parts) (v : ℕ) (l : Layer) : Type 0 where
  of : Layer
  is : l ≡ negation of
  whole : WholeBy d v of

abbrev inner_of : Layer → Layer → Layer
inner_of c (negation l) = l
inner_of c _ = c

to_inverse : (d : Parts) (v : ℕ) (x : Typed-F Typed) → IsInverseLayer d v x → InverseBy d v (layered x)
to_inverse d v (t.Unary u.Not x) h = by_whole d v x.value h
to_inverse d v _ h = absurd h

to_negation : (d : Parts) (v : ℕ) (x : Typed-F Typed) → IsNegationLayer d v x → IsNegation d v (layered x)
to_negation d v (t.Unary u.LogicalNot x) h = record { of = layer_of x.value; is = refl; whole = by_whole d v x.value h }
to_negation d v _ h = absurd h

to_inverts : (d : Parts) (v : ℕ) (x : Typed-F Typed) → InvertsLayer d v x → InvertsBy d v (layered x)
to_inverts d v (t.Unary u.Not x) h = by_whole d v x.value h
to_inverts d v (t.Resized size x) h =
    let p = to_negation d v (out-Typed x.value) h.1 in
    subst (λ z. InvertsBy d v (brought size.width z)) (sym (layer_is x.value ∙ p.is)) (h.0, p.whole)
to_inverts d v _ h = absurd h

operator_inverse : (d : Parts) (v : ℕ) (op : Unary) (x : Box Typed Global) → InverseBy d v (operator_layer op (layer_of x.value)) → IsInverseLayer d v (t.Unary op x)
operator_inverse d v u.Not x h = whole_by d v x.value (layer_of x.value) refl h
operator_inverse d v u.LogicalNot x h = absurd h
operator_inverse d v _ x h = absurd h

brought_no_inverse : (d : Parts) (v w : ℕ) (l : Layer) → InverseBy d v (brought w l) → ⊥
brought_no_inverse d v w (bits b) h = h
brought_no_inverse d v w (negation l) h = h
brought_no_inverse d v w _ h = h

from_inverse : (d : Parts) (v : ℕ) (x : Typed-F Typed) → InverseBy d v (layered x) → IsInverseLayer d v x
from_inverse d v (t.Unary op x) h = operator_inverse d v op x h
from_inverse d v (t.Resized size x) h = absurd (brought_no_inverse d v size.width (layer_of x.value) h)
from_inverse d v _ h = absurd h

operator_negation : (d : Parts) (v : ℕ) (op : Unary) (x : Box Typed Global) (l : Layer) → operator_layer op (layer_of x.value) ≡ negation l → WholeBy d v l → IsNegationLayer d v (t.Unary op x)
operator_negation d v u.LogicalNot x l e h = whole_by d v x.value l (ap (inner_of l) e) h
operator_negation d v u.Not x l e h = cc
operator_negation d v _ x l e h = cc

brought_no_negation : (w : ℕ) (l m : Layer) → brought w l ≡ negation m → ⊥
brought_no_negation w (bits b) m h = cc
brought_no_negation w (negation l) m h = cc
brought_no_negation w _ m h = cc

from_negation : (d : Parts) (v : ℕ) (x : Typed-F Typed) (l : Layer) → layered x ≡ negation l → WholeBy d v l → IsNegationLayer d v x
from_negation d v (t.Unary op x) l e h = operator_negation d v op x l e h
from_negation d v (t.Resized size x) l e h = absurd (brought_no_negation size.width (layer_of x.value) l e)
from_negation d v _ l e h = cc

operator_inverts : (d : Parts) (v : ℕ) (op : Unary) (x : Box Typed Global) → InvertsBy d v (operator_layer op (layer_of x.value)) → InvertsLayer d v (t.Unary op x)
operator_inverts d v u.Not x h = whole_by d v x.value (layer_of x.value) refl h
operator_inverts d v u.LogicalNot x h = absurd h
operator_inverts d v _ x h = absurd h

-- what is brought to a size and inverts is `!`
record IsBroughtNegation (d : Parts) (v w : ℕ) (l : Layer) : Type 0 where
  of : Layer
  is : l ≡ negation of
  width : w ≡ 1
  whole : WholeBy d v of

brought_inverts : (d : Parts) (v w : ℕ) (l : Layer) → InvertsBy d v (brought w l) → IsBroughtNegation d v w l
brought_inverts d v w (negation l) h = record { of = l; is = refl; width = h.0; whole = h.1 }
brought_inverts d v w (bits b) h = absurd h
brought_inverts d v w _ h = absurd h

from_inverts : (d : Parts) (v : ℕ) (x : Typed-F Typed) → InvertsBy d v (layered x) → InvertsLayer d v x
from_inverts d v (t.Unary op x) h = operator_inverts d v op x h
from_inverts d v (t.Resized size x) h =
    let p = brought_inverts d v size.width (layer_of x.value) h in
    (p.width, from_negation d v (out-Typed x.value) p.of (sym (layer_is x.value) ∙ p.is) p.whole)
from_inverts d v _ h = absurd h

-- ---- of designs with the same signals

module _ (d d' : Parts) (same : SameSizes d d') where
  bits_as : (v : ℕ) (b : FixedBits) → AreWhole d v b → AreWhole d' v b
  bits_as v b h =
      let p = same v h.signal h.is in
      record { signal = p.0; is = p.1; no_array = sym p.2 ∙ h.no_array; count = sym p.3 ∙ h.count; of = h.of; word = h.word; low = h.low; width = h.width ∙ p.4 }

  whole_there : (v : ℕ) (l : Layer) → WholeBy d v l → WholeBy d' v l
  whole_there v (name n w) h =
      let p = same v h.signal h.is in
      record { signal = p.0; is = p.1; no_array = sym p.2 ∙ h.no_array; count = sym p.3 ∙ h.count; of = h.of; width = h.width ∙ p.4 }
  whole_there v (select b w) h = (bits_as v b h.0, h.1)
  whole_there v (bits b) h = bits_as v b h
  whole_there v _ h = absurd h

  inverse_there : (v : ℕ) (l : Layer) → InverseBy d v l → InverseBy d' v l
  inverse_there v (inverse l) h = whole_there v l h
  inverse_there v _ h = absurd h

  inverts_there : (v : ℕ) (l : Layer) → InvertsBy d v l → InvertsBy d' v l
  inverts_there v (inverse l) h = whole_there v l h
  inverts_there v (negated l w) h = (h.0, whole_there v l h.1)
  inverts_there v _ h = absurd h

  -- an expression that says the same is the whole of a signal too
  pub whole_as : (v : ℕ) (e e' : Typed) → layer_of e ≡ layer_of e' → IsWhole d v e → IsWhole d' v e'
  whole_as v e e' l h = whole_by d' v e' (layer_of e) (sym l) (whole_there v (layer_of e) (by_whole d v e h))

  -- it is `~` of the signal too
  inverse_as : (v : ℕ) (e e' : Typed) → layer_of e ≡ layer_of e' → IsInverse d v e → IsInverse d' v e'
  inverse_as v e e' l h =
      from_inverse d' v (out-Typed e')
      (subst (InverseBy d' v) (sym (layer_is e) ∙ l ∙ layer_is e') (inverse_there v (layered (out-Typed e)) (to_inverse d v (out-Typed e) h)))

  -- and `~` or `!` of it
  pub inverts_as : (v : ℕ) (e e' : Typed) → layer_of e ≡ layer_of e' → Inverts d v e → Inverts d' v e'
  inverts_as v e e' l h =
      from_inverts d' v (out-Typed e')
      (subst (InvertsBy d' v) (sym (layer_is e) ∙ l ∙ layer_is e') (inverts_there v (layered (out-Typed e)) (to_inverts d v (out-Typed e) h)))

  -- and it turns a clock too
  pub turn_as : (wide : Bool) (v : ℕ) (e e' : Typed) → layer_of e ≡ layer_of e' → IsTurn d wide v e → IsTurn d' wide v e'
  turn_as false v e e' l h = inverse_as v e e' l h
  turn_as true v e e' l h = inverts_as v e e' l h

-- ---- places of targets

-- a place with constant indices says the same as one with such
record IsFixedAs (s : Slice) (a : Aim) : Type 0 where
  slice : Slice
  is : a ≡ Fixed slice
  signal : s.signal ≡ slice.signal
  word : s.word ≡ slice.word
  low : s.low ≡ slice.low
  width : s.width ≡ slice.width

fixed_as : (s : Slice) (a : Aim) → SameAim (Fixed s) a → IsFixedAs s a
fixed_as s (Fixed r) h = record {
  slice = r;
  is = refl;
  signal = ap (λ p. p.signal) (h.part [] [] 0);
  word = ap (λ p. p.word) (h.part [] [] 0);
  low = ap (λ p. p.low) (h.part [] [] 0);
  width = h.width;
}
fixed_as s (Chosen r word low) h = absurd (true≢false h.fixed)

-- places that say the same, as many
one_place : (s : Slice) (xs : List Aim) → AllZip SameAim (Fixed s ∷ []) xs → (a : Aim) × (xs ≡ a ∷ []) × SameAim (Fixed s) a
one_place s [] h = absurd h
one_place s (a ∷ []) h = (a, refl, h.0)
one_place s (a ∷ b ∷ xs) h = absurd h.1

-- a target that says the same is the whole of a signal too
pub whole_target_as : (d d' : Parts) → SameSizes d d' → (v : ℕ) (t t' : Target) → SameTarget t t' → IsWholeTarget d v t → IsWholeTarget d' v t'
whole_target_as d d' same v t t' h w =
    let one = one_place w.slice t'.parts.items (subst (λ (xs : List Aim). AllZip SameAim xs t'.parts.items) w.only h.places) in
    let f = fixed_as w.slice one.0 one.2 in
    let p = same v w.whole.signal w.whole.is in
    record {
      slice = f.slice;
      only = one.1 ∙ ap (λ (a : Aim). a ∷ []) f.is;
      whole = record {
        signal = p.0;
        is = p.1;
        no_array = sym p.2 ∙ w.whole.no_array;
        count = sym p.3 ∙ w.whole.count;
        of = sym f.signal ∙ w.whole.of;
        word = sym f.word ∙ w.whole.word;
        low = sym f.low ∙ w.whole.low;
        width = sym f.width ∙ w.whole.width ∙ p.4;
      };
    }

-- ---- writes of constants

-- the digit that a place gives
gives_as : (a a' : Aim) (ds : List Digit) (b : Bit) → SameAim a a' → place_gives a ds b ≡ place_gives a' ds b
gives_as (Fixed s) (Fixed s') ds b h =
    ap₂ (λ w l. if w == b.word then digit_there (neg_ℤ l +ℤ pos b.place) ds else None) (ap (λ z. z.word) (h.part [] [] 0)) (ap (λ z. z.low) (h.part [] [] 0))
gives_as (Fixed s) (Chosen r word low) ds b h = absurd (true≢false h.fixed)
gives_as (Chosen r word low) (Fixed s) ds b h = absurd (true≢false (sym h.fixed))
gives_as (Chosen r word low) (Chosen r' word' low') ds b h = refl

aims_as : (v : ℕ) (xs xs' : List Aim) → AllZip SameAim xs xs' → any_aims v xs ≡ any_aims v xs'
aims_as v [] [] h = refl
aims_as v [] (a' ∷ xs') h = absurd h
aims_as v (a ∷ xs) [] h = absurd h
aims_as v (a ∷ xs) (a' ∷ xs') h = ap₂ (λ x y. x || y) (ap (is_of v) h.0.range) (aims_as v xs xs' h.1)

places_as : (from : ℕ) (xs xs' : List Aim) (ds : List Digit) (b : Bit) → AllZip SameAim xs xs' → places_give from xs ds b ≡ places_give from xs' ds b
places_as from [] [] ds b h = refl
places_as from [] (a' ∷ xs') ds b h = absurd h
places_as from (a ∷ xs) [] ds b h = absurd h
places_as from (a ∷ xs) (a' ∷ xs') ds b h =
    let given_here : place_gives a (selected (pos from) (aim_width a) ds) b ≡ place_gives a' (selected (pos from) (aim_width a') ds) b
    = gives_as a a' (selected (pos from) (aim_width a) ds) b h.0 ∙ ap (λ w. place_gives a' (selected (pos from) w ds) b) h.0.width in
    let here : (if any_aims b.signal xs then None else place_gives a (selected (pos from) (aim_width a) ds) b)
    ≡ (if any_aims b.signal xs' then None else place_gives a' (selected (pos from) (aim_width a') ds) b)
    = ap₂ (λ c z. if c then None else z) (aims_as b.signal xs xs' h.1) given_here in
    let rest : places_give (from + aim_width a) xs ds b ≡ places_give (from + aim_width a') xs' ds b
    = places_as (from + aim_width a) xs xs' ds b h.1 ∙ ap (λ w. places_give (from + w) xs' ds b) h.0.width in
    ap (λ c. if c then (if any_aims b.signal xs then None else place_gives a (selected (pos from) (aim_width a) ds) b) else places_give (from + aim_width a) xs ds b) (ap (is_of b.signal) h.0.range)
    ∙ ap₂ (λ x y. if is_of b.signal (aim_range a') then x else y) here rest

-- the digit that an assignment of a constant gives a bit
pub given_as : (t t' : Target) (x x' : Typed) (b : Bit) → SameSides t t' x x' → given t x b ≡ given t' x' b
given_as t t' x x' b h =
    ap (λ rs. if is_nothing rs then places_give 0 t.parts.items (target_value t x [] 0) b else None) h.source.ranges
    ∙ ap (λ o. if is_nothing (reads x') then o else None)
    (places_as 0 t.parts.items t'.parts.items (target_value t x [] 0) b h.target.places ∙ ap (λ ds. places_give 0 t'.parts.items ds b) (value_same t t' x x' [] 0 h))

-- whether a place is sure to have the bit
sure_as : (b : Bit) (a a' : Aim) → SameAim a a' → is_sure b a ≡ is_sure b a'
sure_as b (Fixed s) (Fixed s') h = ap (covers b.signal b.word b.place) h.range
sure_as b (Fixed s) (Chosen r word low) h = absurd (true≢false h.fixed)
sure_as b (Chosen r word low) (Fixed s) h = absurd (true≢false (sym h.fixed))
sure_as b (Chosen r word low) (Chosen r' word' low') h = refl

pub any_sure : (b : Bit) (xs xs' : List Aim) → AllZip SameAim xs xs' → list_any (is_sure b) xs ≡ list_any (is_sure b) xs'
any_sure b [] [] h = refl
any_sure b [] (a' ∷ xs') h = absurd h
any_sure b (a ∷ xs) [] h = absurd h
any_sure b (a ∷ xs) (a' ∷ xs') h = ap₂ (λ x y. x || y) (sure_as b a a' h.0) (any_sure b xs xs' h.1)
