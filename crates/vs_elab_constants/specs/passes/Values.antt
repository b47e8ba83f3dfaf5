-- What the functions on the values of parameters answer.
use Rattle.std.specs.Prelude.{◌≡◌, ℕ, Bool, true, false, max, take, List, [], ◌++◌, Option}
use Rattle.vs_syntax.specs.declared.tree.Connections.{Connections}
use Rattle.vs_syntax.specs.declared.tree.Module.{Module}
use Rattle.vs_scopes.specs.Pieces.{Piece}
use Rattle.vs_scopes.specs.vs_widths.specs.declared.constants.Const.{Const}
use Rattle.vs_scopes.specs.vs_widths.specs.declared.faults.WidthReason.{WidthReason}
use Rattle.vs_scopes.specs.vs_widths.specs.Environment.{Environment}
use Rattle.vs_scopes.specs.vs_widths.specs.Findings.{has_width_fault}
use Rattle.vs_scopes.specs.vs_widths.specs.Meants.{Meant}
use Rattle.vs_scopes.specs.vs_widths.specs.Selects.{size_found}
use Rattle.vs_scopes.specs.vs_widths.specs.Constants.{constant_finding, constant_in}
use Rattle.vs_widths.specs.Names.{meaning_of, by_bytes}
use Rattle.vs_scopes.specs.Parameters.{parameters_among, Given, the_size, Takes, takes_fault, constant_by, sign_found, is_override_mismatch, given_to, constant_given, own_fault, outer_fault, own_faults, outer_faults, constants_of, known_in_module}
use Rattle.vs_scopes.specs.Declarations.{Bindings, valueless_of, early_names}
use Rattle.vs_scopes.specs.Scopes.{nowhere, outward, early, block_given, with_constants}
use Rattle.vs_scopes.specs.declared.faults.ParameterRefusal.{ParameterRefusal}
use Rattle.vs_scopes.specs.declared.faults.ParameterRefusal.TheVariants as p
use Rattle.vs_elab_constants.specs.declared.evaluating.ParameterValues.{ParameterValues}
use Rattle.vs_elab_constants.specs.declared.evaluating.Taking.{Taking}
use Rattle.vs_elab_constants.specs.declared.evaluating.Taking.TheVariants.{TheSize, Shaped}

-- the constant that an expression gives a parameter, by what the parameter takes of it
abbrev pub constant_as : Taking → Meant → Const
constant_as (TheSize signed) m = constant_by (the_size signed) m
constant_as (Shaped s) m =
    constant_in s.bounds s.shape.signed (take s.shape.width (m.at [] 0 (max s.shape.width (size_found m.finding)) (sign_found m.finding)))

-- what a parameter takes, which has no fault
pub record IsTaking (t : Takes) (x : Taking) : Type 0 where
  pub sound : (w : WidthReason) → takes_fault w t ≡ false
  pub same : (m : Meant) → constant_as x m ≡ constant_by t m

-- a constant without faults
pub record IsGivenBy (x : Taking) (m : Meant) (c : Const) : Type 0 where
  pub sound : (w : WidthReason) → has_width_fault w (constant_finding m) ≡ false
  pub value : c ≡ constant_as x m

-- a refusal that stands: overrides that don't fit, a fault in the scope around, one in the module; or want of memory
abbrev pub RefusesValues : Bool → (WidthReason → Bool) → (WidthReason → Bool) → ParameterRefusal → Type 0
RefusesValues mismatch outer own p.Memory = Unit {0}
RefusesValues mismatch outer own p.Mismatch = mismatch ≡ true
RefusesValues mismatch outer own (p.Outer w) = outer w ≡ true
RefusesValues mismatch outer own (p.Own w) = own w ≡ true

-- the constant that a parameter is, which has no fault
pub record IsGiven (around env : Environment) (g : Given) (c : Const) : Type 0 where
  pub outer : (w : WidthReason) → outer_fault w around g ≡ false
  pub own : (w : WidthReason) → own_fault w env g ≡ false
  pub value : c ≡ constant_given around env g

-- the constants that parameters are one after another behind those before, and what names are bound to behind them, with those outward
pub record AddsConstants (around : Environment) (outward : Bindings) (gs : List Given) (old new : ParameterValues) : Type 0 where
  pub outer : (w : WidthReason) → outer_faults w around gs ≡ false
  pub own : (w : WidthReason) → own_faults w around (meaning_of (old.known ++ outward)) gs ≡ false
  pub constants : by_bytes new.constants.items ≡ by_bytes old.constants.items ++ constants_of around (meaning_of (old.known ++ outward)) gs
  pub known : (n : List ℕ) → meaning_of (new.known ++ outward) n ≡ known_in_module around (meaning_of (old.known ++ outward)) gs n

-- constants that are known behind those before, and what names are bound to behind them
pub record BindsConstants (cs : List (List ℕ × Const)) (old new : ParameterValues) : Type 0 where
  pub constants : by_bytes new.constants.items ≡ by_bytes old.constants.items ++ cs
  pub known : (outward : Bindings) → meaning_of (new.known ++ outward) ≡ with_constants (meaning_of (old.known ++ outward)) cs

-- the values of a module's parameters
pub record AreValues (around : Environment) (c : Option Connections) (m : Module) (v : ParameterValues) : Type 0 where
  pub fits : is_override_mismatch c m ≡ false
  pub outer : (w : WidthReason) → outer_faults w around (given_to c m) ≡ false
  pub own : (w : WidthReason) → own_faults w around (early m) (given_to c m) ≡ false
  pub constants : by_bytes v.constants.items ≡ constants_of around (early m) (given_to c m)
  pub known : (n : List ℕ) → meaning_of v.known n ≡ known_in_module around (early m) (given_to c m) n

-- why the parameters of a module have no values
abbrev pub AreNoValues : Environment → Option Connections → Module → ParameterRefusal → Type 0
AreNoValues around c m e =
    RefusesValues (is_override_mismatch c m) (λ w. outer_faults w around (given_to c m))
    (λ w. own_faults w around (early m) (given_to c m)) e

-- what names are bound to in the constant expressions of a block of these constants and pieces, where names are bound so outward, before the values
-- of its parameters are known
abbrev pub early_inside : Bindings → List (List ℕ × Const) → List Piece → Environment
early_inside outer cs ps = with_constants (outward (early_names valueless_of (parameters_among ps) [] ps) (meaning_of outer)) cs

-- a fault of a value of a parameter of a block
abbrev pub block_faults : Bindings → List (List ℕ × Const) → List Piece → WidthReason → Bool
block_faults outer cs ps w = own_faults w nowhere (early_inside outer cs ps) (block_given ps)

-- the values of the parameters of a block, where names are bound so outward
pub record AreBlockValues (outer : Bindings) (cs : List (List ℕ × Const)) (ps : List Piece) (v : ParameterValues) : Type 0 where
  pub own : (w : WidthReason) → block_faults outer cs ps w ≡ false
  pub constants : by_bytes v.constants.items ≡ cs ++ constants_of nowhere (early_inside outer cs ps) (block_given ps)
  pub known : (n : List ℕ) → meaning_of (v.known ++ outer) n ≡ known_in_module nowhere (early_inside outer cs ps) (block_given ps) n
