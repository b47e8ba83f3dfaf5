-- The signal that an expression or a target is, whole.
use Rattle.std.proofs.Common.{◌≡◌, ℕ, ◌↔◌, ◌==◌, ◌&&◌, Bool, true, false, if◌then◌else◌, ℤ, pos, negsuc, Option, Some, None, List, [], ◌∷◌, slice_get, refl, sym, ◌∙◌, ap}
use Rattle.std.proofs.lemmas.Bool.{and_parts, and_from, eqb-true}
use Rattle.std.proofs.lemmas.Option.{same_Some}
use Rattle.vs_design.specs.vs_logic4.specs.declared.operators.Unary.TheVariants as u
use Rattle.vs_design.specs.vs_logic4.proofs.Basics.{same_self}
use Rattle.vs_design.specs.declared.signal.Bounds.{Bounds}
use Rattle.vs_design.specs.declared.signal.Signal.{Signal}
use Rattle.vs_design.specs.declared.expression.Operand.{Operand}
use Rattle.vs_design.specs.declared.expression.Slice.{Slice}
use Rattle.vs_design.specs.declared.expression.Typed.{Typed, Typed-F}
use Rattle.vs_design.specs.declared.expression.Typed.TheOpen as t
use Rattle.vs_design.specs.declared.expression.Typed.TheViews.{out-Typed}
use Rattle.vs_design.specs.declared.statement.Aim.{Aim}
use Rattle.vs_design.specs.declared.statement.Aim.TheVariants.{Fixed, Chosen}
use Rattle.vs_design.specs.declared.statement.Target.{Target}
use Rattle.vs_design.specs.Parts.{Parts}
use Rattle.vs_rules.specs.Constants.{IsWholeSlice, IsWholeName, IsWholeSelect, IsWholeLayer, IsInverseLayer, IsNegationLayer, InvertsLayer, IsTurn, IsWholeTarget}
use Rattle.vs_slots_constants.specs.Wholes.{is_absent, is_plain, is_zero, whole_slice, whole_name, whole_select, whole_layer, inverse_layer, negation_layer, inverts_layer, turn_layer, whole_parts}

-- ---- choices

pub chosen : (b : Bool) (x v : ℕ) → (if b then Some x else None) ≡ Some v → (b ≡ true) × (x ≡ v)
chosen true x v h = (refl, same_Some x v h)
chosen false x v h = cc

pub chose : (b : Bool) (x v : ℕ) → b ≡ true → x ≡ v → (if b then Some x else None) ≡ Some v
chose b x v e f = ap (λ (c : Bool). if c then Some x else None) e ∙ ap Some f

taken : (b : Bool) (o : Option ℕ) (v : ℕ) → (if b then o else None) ≡ Some v → (b ≡ true) × (o ≡ Some v)
taken true o v h = (refl, h)
taken false o v h = cc

-- ---- signals that are no arrays

absent_none : (o : Option Bounds) → is_absent o ≡ true → o ≡ None
absent_none None h = refl
absent_none (Some b) h = cc

zero_is : (z : ℤ) → is_zero z ≡ true → z ≡ pos 0
zero_is (pos n) h = ap pos (eqb-true n 0 h)
zero_is (negsuc n) h = cc

-- there is a signal, and it is no array, of this width
pub record IsPlain (o : Option Signal) (width : ℕ) : Type 0 where
  pub signal : Signal
  pub is : o ≡ Some signal
  pub no_array : signal.words ≡ None
  pub count : signal.count ≡ 1
  pub width_is : signal.width ≡ width

pub plain_of : (o : Option Signal) (width : ℕ) → is_plain o width ≡ true → IsPlain o width
plain_of None width h = cc
plain_of (Some s) width h =
    let both = and_parts (is_absent s.words && (s.count == 1)) (s.width == width) h in
    let first = and_parts (is_absent s.words) (s.count == 1) both.0 in
    record { signal = s; is = refl; no_array = absent_none s.words first.0; count = eqb-true s.count 1 first.1; width_is = eqb-true s.width width both.1 }

pub plain_by : (o : Option Signal) (width : ℕ) → IsPlain o width → is_plain o width ≡ true
plain_by o width p =
    ap (λ (x : Option Signal). is_plain x width) p.is
    ∙ and_from (is_absent p.signal.words && (p.signal.count == 1)) (p.signal.width == width)
    (and_from (is_absent p.signal.words) (p.signal.count == 1) (ap is_absent p.no_array) (same_self p.signal.count 1 p.count))
    (same_self p.signal.width width p.width_is)

-- ---- whole signals

abbrev slice_test : Parts → Slice → Bool
slice_test d s = (s.word == 0) && is_zero s.low && is_plain (slice_get d.signals s.signal) s.width

pub slice_is : (d : Parts) (s : Slice) (v : ℕ) → (IsWholeSlice d v s ↔ whole_slice d s ≡ Some v)
slice_is d s v = (there, back) where
  there : IsWholeSlice d v s → whole_slice d s ≡ Some v
  there h =
      let plain = plain_by (slice_get d.signals s.signal) s.width
      (record { signal = h.signal; is = ap (slice_get d.signals) h.of ∙ h.is; no_array = h.no_array; count = h.count; width_is = sym h.width }) in
      chose (slice_test d s) s.signal v
      (and_from ((s.word == 0) && is_zero s.low) (is_plain (slice_get d.signals s.signal) s.width)
      (and_from (s.word == 0) (is_zero s.low) (same_self s.word 0 h.word) (ap is_zero h.low)) plain) h.of

  back : whole_slice d s ≡ Some v → IsWholeSlice d v s
  back h =
      let c = chosen (slice_test d s) s.signal v h in
      let both = and_parts ((s.word == 0) && is_zero s.low) (is_plain (slice_get d.signals s.signal) s.width) c.0 in
      let first = and_parts (s.word == 0) (is_zero s.low) both.0 in
      let plain = plain_of (slice_get d.signals s.signal) s.width both.1 in
      record {
        signal = plain.signal;
        is = ap (slice_get d.signals) (sym c.1) ∙ plain.is;
        no_array = plain.no_array;
        count = plain.count;
        of = c.1;
        word = eqb-true s.word 0 first.0;
        low = zero_is s.low first.1;
        width = sym plain.width_is;
      }

name_is : (d : Parts) (o : Operand) (v : ℕ) → (IsWholeName d v o ↔ whole_name d o ≡ Some v)
name_is d o v = (there, back) where
  there : IsWholeName d v o → whole_name d o ≡ Some v
  there h =
      chose (is_plain (slice_get d.signals o.signal) o.width) o.signal v
      (plain_by (slice_get d.signals o.signal) o.width
      (record { signal = h.signal; is = ap (slice_get d.signals) h.of ∙ h.is; no_array = h.no_array; count = h.count; width_is = sym h.width })) h.of

  back : whole_name d o ≡ Some v → IsWholeName d v o
  back h =
      let c = chosen (is_plain (slice_get d.signals o.signal) o.width) o.signal v h in
      let plain = plain_of (slice_get d.signals o.signal) o.width c.0 in
      record {
        signal = plain.signal;
        is = ap (slice_get d.signals) (sym c.1) ∙ plain.is;
        no_array = plain.no_array;
        count = plain.count;
        of = c.1;
        width = sym plain.width_is;
      }

select_is : (d : Parts) (v width : ℕ) (x : Typed-F Typed) → (IsWholeSelect d v width x ↔ whole_select d width x ≡ Some v)
select_is d v width (t.Slice s) = (there, back) where
  there : IsWholeSlice d v s × (s.width ≡ width) → whole_select d width (t.Slice s) ≡ Some v
  there h = ap (λ (b : Bool). if b then whole_slice d s else None) (same_self s.width width h.1) ∙ (slice_is d s v).0 h.0

  back : whole_select d width (t.Slice s) ≡ Some v → IsWholeSlice d v s × (s.width ≡ width)
  back h = let c = taken (s.width == width) (whole_slice d s) v h in ((slice_is d s v).1 c.1, eqb-true s.width width c.0)
select_is d v width _ = (λ h. absurd h, λ h. cc)

pub layer_is : (d : Parts) (v : ℕ) (x : Typed-F Typed) → (IsWholeLayer d v x ↔ whole_layer d x ≡ Some v)
layer_is d v (t.Signal o) = name_is d o v
layer_is d v (t.Slice s) = slice_is d s v
layer_is d v (t.Resized size x) = select_is d v size.width _
layer_is d v _ = (λ h. absurd h, λ h. cc)

pub inverse_is : (d : Parts) (v : ℕ) (x : Typed-F Typed) → (IsInverseLayer d v x ↔ inverse_layer d x ≡ Some v)
inverse_is d v (t.Unary u.Not x) = layer_is d v (out-Typed x.value)
inverse_is d v _ = (λ h. absurd h, λ h. cc)

negation_is : (d : Parts) (v : ℕ) (x : Typed-F Typed) → (IsNegationLayer d v x ↔ negation_layer d x ≡ Some v)
negation_is d v (t.Unary u.LogicalNot x) = layer_is d v (out-Typed x.value)
negation_is d v _ = (λ h. absurd h, λ h. cc)

pub inverts_is : (d : Parts) (v : ℕ) (x : Typed-F Typed) → (InvertsLayer d v x ↔ inverts_layer d x ≡ Some v)
inverts_is d v (t.Unary u.Not x) = layer_is d v (out-Typed x.value)
inverts_is d v (t.Resized size x) = (there, back) where
  there : (size.width ≡ 1) × IsNegationLayer d v (out-Typed x.value) → inverts_layer d (t.Resized size x) ≡ Some v
  there h =
      ap (λ (b : Bool). if b then negation_layer d (out-Typed x.value) else None) (same_self size.width 1 h.0)
      ∙ (negation_is d v (out-Typed x.value)).0 h.1

  back : inverts_layer d (t.Resized size x) ≡ Some v → (size.width ≡ 1) × IsNegationLayer d v (out-Typed x.value)
  back h =
      let c = taken (size.width == 1) (negation_layer d (out-Typed x.value)) v h in
      (eqb-true size.width 1 c.0, (negation_is d v (out-Typed x.value)).1 c.1)
inverts_is d v _ = (λ h. absurd h, λ h. cc)

pub turn_is : (d : Parts) (wide : Bool) (v : ℕ) (e : Typed) → (IsTurn d wide v e ↔ turn_layer d wide (out-Typed e) ≡ Some v)
turn_is d false v e = inverse_is d v (out-Typed e)
turn_is d true v e = inverts_is d v (out-Typed e)

parts_back : (d : Parts) (v : ℕ) (aims : List Aim) → whole_parts d aims ≡ Some v → (s : Slice) × (aims ≡ Fixed s ∷ []) × IsWholeSlice d v s
parts_back d v [] h = cc
parts_back d v (Fixed s ∷ []) h = (s, refl, (slice_is d s v).1 h)
parts_back d v (Chosen s word low ∷ []) h = cc
parts_back d v (a ∷ b ∷ rest) h = cc

pub target_is : (d : Parts) (v : ℕ) (target : Target) → (IsWholeTarget d v target ↔ whole_parts d target.parts.items ≡ Some v)
target_is d v target = (
  λ h. ap (whole_parts d) h.only ∙ (slice_is d h.slice v).0 h.whole,
  λ h. let b = parts_back d v target.parts.items h in record { slice = b.0; only = b.1; whole = b.2 },
)
