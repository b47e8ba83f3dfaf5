-- Names with selects whose indices are measured.
use Rattle.std.specs.Prelude.{◌≡◌, ℕ, Bool, List, [], ◌∷◌, ◌++◌, Option, Some, None, Result, Ok, Err, map}
use Rattle.vs_syntax.specs.declared.tree.PartSelect.{PartSelect}
use Rattle.vs_design.specs.vs_logic4.specs.declared.digit.Digit.{Digit}
use Rattle.vs_design.specs.vs_logic4.specs.declared.digit.Digit.TheVariants.{Zero}
use Rattle.vs_design.specs.declared.expression.Axis.{Axis}
use Rattle.vs_design.specs.declared.expression.Slice.{Slice}
use Rattle.vs_design.specs.declared.signal.Bounds.{Bounds}
use Rattle.vs_design.specs.Selects.{place_of, word_place}
use Rattle.vs_design.specs.Stores.{Store}
use Rattle.vs_widths.specs.declared.shape.Shape.{Shape}
use Rattle.vs_widths.specs.declared.forms.Sizable.{Sizable}
use Rattle.vs_widths.specs.declared.forms.Measured.{Measured}
use Rattle.vs_widths.specs.Senses.{sense}
use Rattle.vs_widths.specs.declared.faults.WidthFault.{WidthFault}
use Rattle.vs_widths.specs.declared.places.Extent.{Extent}
use Rattle.vs_widths.specs.declared.places.ChosenBits.{ChosenBits}
use Rattle.vs_widths.specs.Findings.{Has, Refuses}
use Rattle.vs_widths.specs.Layers.{brought, selected_layer, other}
use Rattle.vs_widths.specs.Meants.{own}
use Rattle.vs_widths.specs.Selects.{Select, Span, Named, ascends, size_found, named_range, named_bits, named_value, span_value}
use Rattle.vs_widths.specs.select_passes.Measures.{meaning, IsFlexible}

-- what a measured select means
abbrev pub select_meaning : Measured × Option (PartSelect × Measured) → Select
select_meaning (x, None) = (meaning x, None)
select_meaning (x, Some (how, y)) = (meaning x, Some (how, meaning y))

-- what measured selects mean
abbrev pub selects_meaning : List (Measured × Option (PartSelect × Measured)) → List Select
selects_meaning xs = map select_meaning xs

-- expressions of a select that have the sizes of their contexts
abbrev pub IsFlexibleSelect : Measured × Option (PartSelect × Measured) → Type 0
IsFlexibleSelect (x, None) = IsFlexible x.form
IsFlexibleSelect (x, Some (how, y)) = IsFlexible x.form × IsFlexible y.form

-- the index 0
pub record IsZero (x : Measured) : Type 0 where
  pub ranges : (sense x.form).reads ≡ []
  pub value : (store : Store) (time : ℕ) → own (meaning x) store time ≡ Zero ∷ []
  pub flexible : IsFlexible x.form

-- an axis of a range of so many elements
pub record IsAxis (b : Bounds) (size below : ℕ) (a : Axis) : Type 0 where
  pub right : a.right ≡ b.right
  pub ascending : a.ascending ≡ ascends b
  pub length_is : a.length ≡ size
  pub below_is : a.below ≡ below

-- bits of a word, with the index that chooses them
pub record IsExtent (s : Span) (x : Extent) : Type 0 where
  pub found : s.finding ≡ Has x.shape.width x.shape.signed
  pub ranges : s.reads ≡ (sense x.index.form).reads
  pub low : (store : Store) (time : ℕ) → s.low store time ≡ place_of x.axis x.shape.width (own (meaning x.index) store time)
  pub flexible : IsFlexible x.index.form

-- bits of a word, or their faults
abbrev pub Extends : Span → Result Extent WidthFault → Type 0
Extends s (Ok x) = IsExtent s x
Extends s (Err e) = Refuses s.finding e

-- bits of a signal, with the indices that choose the word and them
pub record IsPlaced (n : Named) (p : ChosenBits) : Type 0 where
  pub found : n.finding ≡ Has p.extent.shape.width p.extent.shape.signed
  pub signal : n.signal ≡ p.signal
  pub ranges : n.reads ≡ (sense p.word.form).reads ++ (sense p.extent.index.form).reads
  pub word : (store : Store) (time : ℕ) → n.word store time ≡ word_place p.words (own (meaning p.word) store time)
  pub low : (store : Store) (time : ℕ) →
      n.low store time ≡ place_of p.extent.axis p.extent.shape.width (own (meaning p.extent.index) store time)
  pub word_flexible : IsFlexible p.word.form
  pub flexible : IsFlexible p.extent.index.form

-- bits of a signal, or their faults
abbrev pub Places : Named → Result ChosenBits WidthFault → Type 0
Places n (Ok p) = IsPlaced n p
Places n (Err e) = Refuses n.finding e

-- the value of an index in each store
pub record IsAlone (x : Measured) (v : List Digit) : Type 0 where
  pub ranges : (sense x.form).reads ≡ []
  pub value : (store : Store) (time : ℕ) → own (meaning x) store time ≡ v

-- the value of an index in each store, where it reads nothing
abbrev pub HasConstantValue : Measured → Option (List Digit) → Type 0
HasConstantValue x (Some v) = IsAlone x v
HasConstantValue x None = (sense x.form).reads ≡ [] → ⊥

-- bits at places that no store changes
pub record IsFixed (p : ChosenBits) (s : Slice) : Type 0 where
  pub word_ranges : (sense p.word.form).reads ≡ []
  pub ranges : (sense p.extent.index.form).reads ≡ []
  pub signal : s.signal ≡ p.signal
  pub width : s.width ≡ p.extent.shape.width
  pub word : (store : Store) (time : ℕ) → word_place p.words (own (meaning p.word) store time) ≡ s.word
  pub low : (store : Store) (time : ℕ) → place_of p.extent.axis p.extent.shape.width (own (meaning p.extent.index) store time) ≡ s.low

-- bits at places that no store changes, where the indices read nothing
abbrev pub Fixes : ChosenBits → Option Slice → Type 0
Fixes p (Some s) = IsFixed p s
Fixes p None = (sense p.word.form).reads ≡ [] → (sense p.extent.index.form).reads ≡ [] → ⊥

-- what is named, before it is brought to a context
pub record IsChosen (n : Named) (y : Sizable) : Type 0 where
  pub size : (width : ℕ) → (sense y).size width ≡ Some (size_found n.finding)
  pub ranges : (sense y).reads ≡ named_range n ∷ n.reads
  pub value : (store : Store) (time width : ℕ) (signed : Bool) → (sense y).at store time width signed ≡ named_value n store time
  pub layer : (width size : ℕ) → brought width ((sense y).layer size) ≡ selected_layer n.reads (named_bits n) width

-- chosen bits of digits, before they are brought to a context
pub record IsExcerpt (digits : List Digit) (s : Span) (shape : Shape) (y : Sizable) : Type 0 where
  pub size : (sense y).size shape.width ≡ Some shape.width
  pub ranges : (sense y).reads ≡ s.reads
  pub value : (store : Store) (time : ℕ) → (sense y).at store time shape.width shape.signed ≡ span_value digits s store time
  pub layer : (width size : ℕ) → brought width ((sense y).layer size) ≡ other
