-- The signal that an expression or a target is, whole.
use Rattle.std.specs.Prelude.{ℕ, ◌==◌, ◌&&◌, Bool, true, false, ℤ, pos, negsuc, Option, Some, None, List, [], ◌∷◌, slice_get, if◌then◌else◌}
use Rattle.vs_design.specs.vs_logic4.specs.declared.operators.Unary.{Unary}
use Rattle.vs_design.specs.vs_logic4.specs.declared.operators.Unary.TheVariants as u
use Rattle.vs_design.specs.declared.signal.Bounds.{Bounds}
use Rattle.vs_design.specs.declared.signal.Signal.{Signal}
use Rattle.vs_design.specs.declared.expression.Operand.{Operand}
use Rattle.vs_design.specs.declared.expression.Slice.{Slice}
use Rattle.vs_design.specs.declared.expression.Typed.{Typed, Typed-F}
use Rattle.vs_design.specs.declared.expression.Typed.TheViews.{out-Typed}
use Rattle.vs_design.specs.declared.expression.Typed.TheOpen as t
use Rattle.vs_design.specs.declared.statement.Aim.{Aim}
use Rattle.vs_design.specs.declared.statement.Aim.TheVariants.{Fixed, Chosen}
use Rattle.vs_design.specs.Parts.{Parts}

abbrev pub is_absent : Option Bounds → Bool
is_absent None = true
is_absent (Some b) = false

-- whether there is a signal, and it is no array, of this width
abbrev pub is_plain : Option Signal → ℕ → Bool
is_plain None width = false
is_plain (Some s) width = is_absent s.words && (s.count == 1) && (s.width == width)

abbrev pub is_zero : ℤ → Bool
is_zero (pos n) = n == 0
is_zero (negsuc n) = false

-- the signal that constant bits are the whole of
abbrev pub whole_slice : Parts → Slice → Option ℕ
whole_slice d s = if (s.word == 0) && is_zero s.low && is_plain (slice_get d.signals s.signal) s.width then Some s.signal else None

-- the signal that a name stands for, at its own size
abbrev pub whole_name : Parts → Operand → Option ℕ
whole_name d o = if is_plain (slice_get d.signals o.signal) o.width then Some o.signal else None

-- the signal that a select of a size is the whole of
abbrev pub whole_select : Parts → ℕ → Typed-F Typed → Option ℕ
whole_select d width (t.Slice s) = if s.width == width then whole_slice d s else None
whole_select d width _ = None

-- the signal that an expression is, whole
abbrev pub whole_layer : Parts → Typed-F Typed → Option ℕ
whole_layer d (t.Signal o) = whole_name d o
whole_layer d (t.Slice s) = whole_slice d s
whole_layer d (t.Resized size x) = whole_select d size.width (out-Typed x.value)
whole_layer d _ = None

abbrev pub inverse_under : Parts → Unary → Typed → Option ℕ
inverse_under d u.Not e = whole_layer d (out-Typed e)
inverse_under d _ e = None

-- the signal `u` of which an expression is `~u`, of its whole
abbrev pub inverse_layer : Parts → Typed-F Typed → Option ℕ
inverse_layer d (t.Unary op x) = inverse_under d op x.value
inverse_layer d _ = None

abbrev pub negated_under : Parts → Unary → Typed → Option ℕ
negated_under d u.LogicalNot e = whole_layer d (out-Typed e)
negated_under d _ e = None

-- the signal `u` of which an expression is `!u`, of its whole
abbrev pub negation_layer : Parts → Typed-F Typed → Option ℕ
negation_layer d (t.Unary op x) = negated_under d op x.value
negation_layer d _ = None

-- the signal `u` of which an expression is `~u` or, as one bit, `!u`
abbrev pub inverts_layer : Parts → Typed-F Typed → Option ℕ
inverts_layer d (t.Unary op x) = inverse_under d op x.value
inverts_layer d (t.Resized size x) = if size.width == 1 then negation_layer d (out-Typed x.value) else None
inverts_layer d _ = None

-- the signal that an assignment of the expression to it turns
abbrev pub turn_layer : Parts → Bool → Typed-F Typed → Option ℕ
turn_layer d wide e = if wide then inverts_layer d e else inverse_layer d e

abbrev pub whole_aim : Parts → Aim → Option ℕ
whole_aim d (Fixed s) = whole_slice d s
whole_aim d (Chosen s word low) = None

-- the signal that places of a target are, whole
abbrev pub whole_parts : Parts → List Aim → Option ℕ
whole_parts d (a ∷ []) = whole_aim d a
whole_parts d _ = None
