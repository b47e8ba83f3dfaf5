-- Expressions with their own sizes and signs.
use Rattle.std.specs.Prelude.{◌≡◌, ℕ, ℤ, Bool, List, [], Some, Result, Ok, Err, option_map, length}
use Rattle.vs_design.specs.vs_logic4.specs.declared.digit.Digit.{Digit}
use Rattle.vs_design.specs.vs_logic4.specs.Vectors.{resized}
use Rattle.vs_design.specs.Stores.{Store}
use Rattle.vs_widths.specs.declared.shape.Shape.{Shape}
use Rattle.vs_widths.specs.declared.forms.Sizable.{Sizable}
use Rattle.vs_widths.specs.declared.forms.Measured.{Measured}
use Rattle.vs_widths.specs.Senses.{Sense, sense}
use Rattle.vs_widths.specs.declared.faults.WidthFault.{WidthFault}
use Rattle.vs_widths.specs.Findings.{Has, Refuses}
use Rattle.vs_widths.specs.Layers.{brought}
use Rattle.vs_widths.specs.Meants.{Meant}
use Rattle.vs_widths.specs.Constants.{where_none, positive, natural_of, whole_of, count_finding, whole_finding}

-- ---- expressions that are measured

-- what a size, a sign and a sense are together
abbrev pub meant_of : Shape → Sense → Meant
meant_of shape s = record { finding = Has shape.width shape.signed; reads = s.reads; at = s.at; layer = s.layer }

-- what a measured expression means
abbrev pub meaning : Measured → Meant
meaning x = meant_of x.shape (sense x.form)

-- a form that has the size of its context
abbrev pub IsFlexible : Sizable → Type 0
IsFlexible x = (width : ℕ) → (sense x).size width ≡ Some width

-- a measured expression is one that means this
pub record IsMeasured (m : Meant) (x : Measured) : Type 0 where
  pub means : m ≡ meaning x
  pub flexible : IsFlexible x.form

-- what measuring answers of an expression that means this
abbrev pub Measures : Meant → Result Measured WidthFault → Type 0
Measures m (Ok x) = IsMeasured m x
Measures m (Err e) = Refuses m.finding e

-- a part at its own size and sign, whatever the context
pub record IsOwnPart (x : Measured) (y : Sizable) : Type 0 where
  pub size : (width : ℕ) → (sense y).size width ≡ (sense x.form).size x.shape.width
  pub ranges : (sense y).reads ≡ (sense x.form).reads
  pub value : (store : Store) (time width : ℕ) (signed : Bool) →
      (sense y).at store time width signed ≡ (sense x.form).at store time x.shape.width x.shape.signed

-- a part at its own size and sign, brought to those of the context
pub record IsClosedPart (x : Measured) (shape : Shape) (y : Measured) : Type 0 where
  pub shape_is : y.shape ≡ shape
  pub size : (width : ℕ) → (sense y.form).size width ≡ option_map (λ n. width) ((sense x.form).size x.shape.width)
  pub ranges : (sense y.form).reads ≡ (sense x.form).reads
  pub value : (store : Store) (time width : ℕ) (signed : Bool) →
      (sense y.form).at store time width signed ≡ resized signed width ((sense x.form).at store time x.shape.width x.shape.signed)
  pub layer : (width : ℕ) → (sense y.form).layer width ≡ brought width ((sense x.form).layer x.shape.width)

-- ---- constants

-- what is known of a value that needs no store
pub record IsKnown (x : Sizable) (shape : Shape) (v : List Digit) : Type 0 where
  pub ranges : (sense x).reads ≡ []
  pub value : (store : Store) → (sense x).at store 0 shape.width shape.signed ≡ v
  pub length_is : length v ≡ shape.width

-- a value that needs no store, or the fault of reading one
abbrev pub Knows : Sizable → Shape → Result (List Digit) WidthFault → Type 0
Knows x shape (Ok v) = IsKnown x shape v
Knows x shape (Err e) = Refuses (where_none (sense x).reads shape.width shape.signed) e

-- a count that is a constant from 1 on
pub record IsCount (m : Meant) (n : ℕ) : Type 0 where
  pub ranges : m.reads ≡ []
  pub found : (width : ℕ) (signed : Bool) → m.finding ≡ Has width signed → count_finding m ≡ Has width signed
  pub times : positive (natural_of m) ≡ Some n

-- a count, or the fault that there is none
abbrev pub Counts : Meant → Result ℕ WidthFault → Type 0
Counts m (Ok n) = IsCount m n
Counts m (Err e) = Refuses (count_finding m) e

-- the whole number of a constant
pub record IsWhole (m : Meant) (n : ℤ) : Type 0 where
  pub ranges : m.reads ≡ []
  pub number : whole_of m ≡ Some n

-- a whole number, or the fault that there is none
abbrev pub Wholes : Meant → Result ℤ WidthFault → Type 0
Wholes m (Ok n) = IsWhole m n
Wholes m (Err e) = Refuses (whole_finding m) e
