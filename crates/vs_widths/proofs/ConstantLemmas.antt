-- Values that no store changes.
use Rattle.std.proofs.Common.{◌≡◌, ℕ, ◌-◌, ◌==◌, Bool, true, false, List, [], ◌∷◌, Option, Some, None, length, refl, ap, sym, ◌∙◌}
use Rattle.std.specs.List.{slice_get, list_any}
use Rattle.std.proofs.lemmas.Option.{get_or_from_slice_get}
use denote.Enum.Bare.{sameb}
use Rattle.vs_design.specs.vs_logic4.specs.contracts.digit.Digit.{the_type}
use Rattle.vs_design.specs.vs_logic4.specs.declared.digit.Digit.TheVariants.{Zero, One, X, Z}
use Rattle.vs_design.specs.vs_logic4.specs.Arithmetic.{known_number}
use Rattle.vs_design.specs.vs_logic4.specs.Vectors.{same_digit, top_digit}
use Rattle.vs_widths.specs.Constants.{natural_number, where_none}
use Rattle.std.proofs.lemmas.Bool.{eqb-true, eqb-false}
use Rattle.std.proofs.Math.Path.{fun_ext}
use Rattle.std.proofs.lemmas.List.{nil_from_length}
use Rattle.vs_design.specs.vs_logic4.specs.declared.digit.Digit.{Digit}
use Rattle.vs_design.specs.declared.expression.Typed.{Typed, Typed-F, fold-Typed}
use Rattle.vs_design.specs.declared.expression.Typed.TheOpen as t
use Rattle.vs_design.specs.Stores.{Store, is_changed}
use Rattle.vs_design.specs.declared.range.BitRange.{BitRange}
use Rattle.vs_design.specs.Uses.{reads}
use Rattle.vs_eval.specs.Values.{value_of, value_step}
use Rattle.vs_eval.specs.Laws.{ReadsHold, SizesHold}
use Rattle.vs_widths.specs.declared.faults.WidthReason.TheVariants.{NotConstant}
use Rattle.vs_widths.specs.declared.shape.Shape.{Shape}
use Rattle.vs_widths.specs.Findings.{has_width_fault}
use Rattle.vs_widths.specs.declared.forms.Sizable.{Sizable}
use Rattle.vs_widths.specs.declared.forms.Measured.{Measured}
use Rattle.vs_widths.specs.Senses.{sense, IsFitted}
use Rattle.vs_widths.specs.select_passes.Measures.{IsKnown}
use Rattle.vs_widths.specs.select_passes.Places.{IsAlone}

-- ---- signs

same_as_one : (d : Digit) → sameb the_type d One ≡ same_digit d One
same_as_one Zero = refl
same_as_one One = refl
same_as_one X = refl
same_as_one Z = refl

-- the digit that is read below the width is the top one
top_is : (ds : List Digit) (n : ℕ) (d : Digit) → n ≡ length ds → slice_get ds (n - 1) ≡ Some d → top_digit ds ≡ d
top_is ds n d h k = get_or_from_slice_get ds (length ds - 1) d X (rw h at k)

pub negative_none : (ds : List Digit) (s : Bool) (n : ℕ) (d : Digit) → s ≡ true → n ≡ length ds → slice_get ds (n - 1) ≡ Some d → sameb the_type d One ≡ true → None ≡ natural_number s ds
negative_none ds s n d g h k e = rw (g, top_is ds n d h k, ← same_as_one d, e) refl

pub natural_known : (ds : List Digit) (s : Bool) (n : ℕ) (d : Digit) (r : Option ℕ) → n ≡ length ds → slice_get ds (n - 1) ≡ Some d → sameb the_type d One ≡ false → r ≡ known_number ds → r ≡ natural_number s ds
natural_known ds false n d r h k e l = l
natural_known ds true n d r h k e l = rw (top_is ds n d h k, ← same_as_one d, e) l

-- ---- values that no store changes

-- a value that no store changes
pub is_known : (x : Sizable) (s : Shape) (y : Typed) (v : List Digit) → (sense x).size s.width ≡ Some s.width → IsFitted (sense x) s.width s.signed y → (length (reads y) == 0) ≡ true → ReadsHold → SizesHold →
    v ≡ value_of y [] 0 → IsKnown x s v
is_known x s y v h p n same sizes e =
    let none : reads y ≡ [] = nil_from_length (reads y) (eqb-true (length (reads y)) 0 n) in
    record {
      ranges = sym p.ranges ∙ none;
      value = λ store. sym (p.value store 0) ∙ same y store [] 0 (ap (list_any (is_changed store [])) none) ∙ sym e;
      length_is = ap length e ∙ sizes y s.width [] 0 (p.size ∙ h);
    }

some_read : (rs : List BitRange) (width : ℕ) (signed : Bool) → (length rs == 0) ≡ false → has_width_fault NotConstant (where_none rs width signed) ≡ true
some_read [] width signed h = cc
some_read (r ∷ rs) width signed h = refl

-- the fault of a value that reads something
pub not_known : (x : Sizable) (s : Shape) (y : Typed) → IsFitted (sense x) s.width s.signed y → (length (reads y) == 0) ≡ false → has_width_fault NotConstant (where_none (sense x).reads s.width s.signed) ≡ true
not_known x s y p n = some_read (sense x).reads s.width s.signed (ap (λ z. length z == 0) (sym p.ranges) ∙ n)

step_time : (store : Store) (time : ℕ) (x : Typed-F (List Digit)) → value_step store time x ≡ value_step store 0 x
step_time store time (t.Number digits) = refl
step_time store time (t.Signal o) = refl
step_time store time (t.Slice s) = refl
step_time store time (t.Select s word low) = refl
step_time store time (t.Excerpt s low) = refl
step_time store time (t.Unary op x) = refl
step_time store time (t.Chain x links) = refl
step_time store time (t.Choice pairs last) = refl
step_time store time (t.Concat x xs) = refl
step_time store time (t.Repeat n x) = refl
step_time store time (t.Resized size x) = refl

-- no expression depends on the time
value_time : (e : Typed) (store : Store) (time : ℕ) → value_of e store time ≡ value_of e store 0
value_time e store time = ap (λ (g : Typed-F (List Digit) → List Digit). fold-Typed (List Digit) g e) (fun_ext (step_time store time))

-- the value of an index that reads nothing
pub stands_alone : (x : Measured) (y : Typed) (v : List Digit) → IsFitted (sense x.form) x.shape.width x.shape.signed y → (length (reads y) == 0) ≡ true → ReadsHold → v ≡ value_of y [] 0 → IsAlone x v
stands_alone x y v p n same e =
    let none : reads y ≡ [] = nil_from_length (reads y) (eqb-true (length (reads y)) 0 n) in
    record {
      ranges = sym p.ranges ∙ none;
      value = λ store time. sym (p.value store time) ∙ value_time y store time ∙ same y store [] 0 (ap (list_any (is_changed store [])) none) ∙ sym e;
    }

pub stands_not_alone : (x : Measured) (y : Typed) → IsFitted (sense x.form) x.shape.width x.shape.signed y → (length (reads y) == 0) ≡ false → (sense x.form).reads ≡ [] → ⊥
stands_not_alone x y p n h = eqb-false (length (reads y)) 0 n (ap length (p.ranges ∙ h))
