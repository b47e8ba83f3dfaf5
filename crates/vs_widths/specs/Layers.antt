-- What is outermost in an expression: a name alone, bits that constant indices choose, `~`, `!`, or anything else. Rules of certificates tell these
-- apart.
use Rattle.std.specs.Prelude.{ℕ, ℤ, List, [], ◌∷◌}
use Rattle.vs_design.specs.vs_logic4.specs.declared.operators.Unary.{Unary}
use Rattle.vs_design.specs.vs_logic4.specs.declared.operators.Unary.TheVariants as u
use Rattle.vs_design.specs.declared.expression.Slice.{Slice}
use Rattle.vs_design.specs.declared.expression.Typed.{Typed, Typed-F, fold-Typed}
use Rattle.vs_design.specs.declared.expression.Typed.TheOpen as t
use Rattle.vs_design.specs.declared.range.BitRange.{BitRange}

-- so many bits of a word of a signal, from a place on, in range or not
pub record FixedBits : Type 0 where
  pub signal : ℕ
  pub word : ℕ
  pub low : ℤ
  pub width : ℕ

-- the bits that constant indices choose
abbrev pub slice_bits : Slice → FixedBits
slice_bits s = record { signal = s.signal; word = s.word; low = s.low; width = s.width }

pub data Layer : Type 0 where
  -- the name of a signal alone, at a size
  name : ℕ → ℕ → Layer
  -- a name with selects by constant indices: the bits that they choose, brought to a size
  select : FixedBits → ℕ → Layer
  -- `~` of an operand in which this is outermost
  inverse : Layer → Layer
  -- `!` of an operand in which this is outermost, and the same brought to a size
  negation : Layer → Layer
  negated : Layer → ℕ → Layer
  -- such bits at their own size, before they are brought to a context
  bits : FixedBits → Layer
  other : Layer

-- what is brought to a size
abbrev pub brought : ℕ → Layer → Layer
brought width (bits b) = select b width
brought width (negation x) = negated x width
brought width _ = other

-- an operator and its operand
abbrev pub operator_layer : Unary → Layer → Layer
operator_layer u.Not x = inverse x
operator_layer u.LogicalNot x = negation x
operator_layer _ x = other

-- bits whose indices read this: those that constant indices choose, brought to a size
abbrev pub selected_layer : List BitRange → FixedBits → ℕ → Layer
selected_layer [] b width = select b width
selected_layer (r ∷ rs) b width = other

-- one layer of an expression of a design, with what is outermost in each inner one in its place
abbrev pub layer_step : Typed-F Layer → Layer
layer_step (t.Signal o) = name o.signal o.width
layer_step (t.Slice s) = bits (slice_bits s)
layer_step (t.Unary op x) = operator_layer op x.value
layer_step (t.Resized size x) = brought size.width x.value
layer_step _ = other

-- what is outermost in an expression of a design
abbrev pub layer_of : Typed → Layer
layer_of = fold-Typed Layer layer_step
