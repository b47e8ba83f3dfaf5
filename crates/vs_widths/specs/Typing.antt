-- Expressions of a design that are what those of a source are.
use Rattle.std.specs.Prelude.{◌≡◌, ℕ, Bool, true, false, List, Some, length}
use Rattle.std.specs.List.{list_all}
use Rattle.vs_design.specs.vs_logic4.specs.declared.digit.Digit.{Digit}
use Rattle.vs_design.specs.declared.expression.Typed.{Typed}
use Rattle.vs_design.specs.declared.range.BitRange.{BitRange}
use Rattle.vs_design.specs.Stores.{Store}
use Rattle.vs_design.specs.Uses.{reads}
use Rattle.vs_design.specs.WellFormed.{size_of}
use Rattle.vs_widths.specs.vs_eval.specs.Values.{value_of}
use Rattle.vs_syntax.specs.declared.tree.Expr.{Expr}
use Rattle.vs_widths.specs.declared.bindings.Meaning.{Meaning}
use Rattle.vs_widths.specs.declared.bindings.Binding.TheVariants.{Signal}
use Rattle.vs_widths.specs.declared.faults.WidthReason.{WidthReason}
use Rattle.vs_widths.specs.declared.constants.Const.{Const}
use Rattle.vs_widths.specs.Environment.{Environment}
use Rattle.vs_widths.specs.Findings.{Has, has_width_fault}
use Rattle.vs_widths.specs.Layers.{layer_of}
use Rattle.vs_widths.specs.Meants.{Meant, own}
use Rattle.vs_widths.specs.Constants.{constant_finding, plain_range}
use Rattle.vs_widths.specs.Expressions.{meant}

-- The expression of a design that means this at a size and a sign: no fault stands, and it has this size and this value in each store, reads
-- this (clauses 5.4 and 5.5), and this is outermost in it: it is a name alone, or `~` or `!` of one, exactly where the expression of the source is.
pub record IsTypedAs (m : Meant) (width : ℕ) (signed : Bool) (y : Typed) : Type 0 where
  pub sound : (r : WidthReason) → has_width_fault r m.finding ≡ false
  pub size : size_of y ≡ Some width
  pub value : (store : Store) (time : ℕ) → value_of y store time ≡ m.at store time width signed
  pub ranges : reads y ≡ m.reads
  pub layer : layer_of y ≡ m.layer width

-- the expression of a design that one of a source is at a size and a sign
abbrev pub IsTyped : Environment → Expr → ℕ → Bool → Typed → Type 0
IsTyped env e = IsTypedAs (meant env e)

-- The value that an expression of a source has by itself in each store: it names no signal, and has the size and sign of the value (clause
-- 5.4.1).
pub record IsConstant (env : Environment) (e : Expr) (c : Const) : Type 0 where
  pub found : constant_finding (meant env e) ≡ Has (length c.value) c.signed
  pub value : (store : Store) → own (meant env e) store 0 ≡ c.value
  pub bits : c.bits ≡ plain_range (length c.value)

-- The value that an expression of a source has in each store at a size and a sign, where it names no signal (clauses 5.4.1 and 5.5.2).
pub record IsConstantAt (env : Environment) (e : Expr) (width : ℕ) (signed : Bool) (v : List Digit) : Type 0 where
  pub sound : (r : WidthReason) → has_width_fault r (constant_finding (meant env e)) ≡ false
  pub value : (store : Store) → (meant env e).at store 0 width signed ≡ v
  pub length_is : length v ≡ width

-- a test that holds of the number of each signal to which a name is bound
abbrev pub HoldsOfSignals : Environment → (ℕ → Bool) → Type 0
HoldsOfSignals env test = (name : List ℕ) (m : Meaning) (k : ℕ) → env name ≡ Some (Signal m k) → test k ≡ true

-- an expression reads signals to which names are bound, and no others
abbrev pub ReadsNamed : Type 0
ReadsNamed = (env : Environment) (test : ℕ → Bool) → HoldsOfSignals env test → (e : Expr) →
    list_all (λ (r : BitRange). test r.signal) (meant env e).reads ≡ true
