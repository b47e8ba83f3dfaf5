-- The body as it is read: nothing that is promised rests on these.
use Rattle.std.specs.Prelude.{◌≡◌, ◌⊎◌, ℕ, ◌≤◌, Bool, true, false, List, [], ◌∷◌, ◌++◌, map, length}
use Rattle.vs_design.specs.vs_logic4.specs.declared.digit.Digit.{Digit}
use Rattle.vs_vcd_lines.specs.declared.dump.ValueChange.{ValueChange}
use Rattle.vs_vcd_lines.specs.Cuts.{lacks, IsCut}
use Rattle.vs_vcd_lines.specs.Lines.{change_line, IsSized}
use Rattle.vs_vcd_lines.specs.Beginnings.{Begins}
use Rattle.vs_vcd_reader.specs.declared.dump.Moment.{Moment}
use Rattle.vs_vcd_reader.specs.declared.fault.VcdFault.{VcdFault}
use Rattle.vs_vcd_reader.specs.declared.fault.VcdFault.TheVariants as f
use Rattle.vs_vcd_reader.specs.Plain.{plain_moment}
use Rattle.vs_vcd_reader.specs.Layout.{values_of, IsChange}
use Rattle.vs_vcd_reader.specs.Faults.{IsOfTime}
use Rattle.vs_vcd_reader.specs.Steps.{Place, Steps, IsLast, change_items, later_items, text_from}
use Rattle.vs_vcd_reader.specs.Steps.{Item as i, Place as p}
use Rattle.vs_vcd_reader.specs.Stops.{IsBodyKind}

-- the first line of a text isn't the wanted one, or the text has no ended one: it begins the wanted one, or doesn't
pub data IsUnexpected (wanted : List ℕ) (count : ℕ) (text : List ℕ) : VcdFault → Type 0 where
  bad : (line rest : List ℕ) (fault : VcdFault) → IsCut 10 text line rest → (line ≡ wanted → ⊥) → IsBodyKind count line fault →
      IsUnexpected wanted count text fault
  unended : (fault : VcdFault) → lacks 10 text ≡ true → (Begins text wanted → ⊥) → IsBodyKind count text fault → IsUnexpected wanted count text fault
  cut : lacks 10 text ≡ true → Begins text wanted → IsUnexpected wanted count text f.Cut

-- a line is no value of the variable of a number
pub record IsNoValue (widths : List ℕ) (number : ℕ) (line : List ℕ) (fault : VcdFault) : Type 0 where
  pub none : (c : ValueChange) → c.number ≡ number → IsSized widths c → line ≡ change_line c → ⊥
  pub kind : IsBodyKind (length widths) line fault

-- the values that a text begins with
pub record AreBegun (widths text : List ℕ) (cs : List ValueChange) (rest : List ℕ) : Type 0 where
  pub steps : Steps (p.Values widths []) (change_items cs) (p.Values widths (values_of cs))
  pub within : length cs ≤ length widths
  pub is : text ≡ text_from (change_items cs) ++ rest

-- the first time that a text begins with
pub record IsFirst (widths text : List ℕ) (cs : List ValueChange) (rest : List ℕ) : Type 0 where
  pub steps : Steps (p.Zero widths) (i.Time 0 ∷ i.Values ∷ (change_items cs ++ i.End ∷ [])) (p.Later widths (values_of cs) 0 (length widths) false)
  pub is : text ≡ text_from (i.Time 0 ∷ i.Values ∷ (change_items cs ++ i.End ∷ [])) ++ rest
  pub all : length cs ≡ length widths

-- a line is no change
pub record IsNoChange (widths : List ℕ) (values : List (List Digit)) (from : ℕ) (line : List ℕ) (fault : VcdFault) : Type 0 where
  pub none : (c : ValueChange) → from ≤ c.number → IsChange widths values c → line ≡ change_line c → ⊥
  pub kind : IsBodyKind (length widths) line fault

-- whether there is no change
abbrev pub is_bare : List ValueChange → Bool
is_bare [] = true
is_bare (c ∷ cs) = false

-- a text is at its end, or begins with `#`
abbrev pub IsAtTime : List ℕ → Type 0
IsAtTime text = (text ≡ []) ⊎ IsOfTime text

-- no change of a variable from a number on can stand before a text
abbrev pub IsFromTime : List ℕ → ℕ → List ℕ → Type 0
IsFromTime ws from part = (from ≡ length ws) ⊎ IsAtTime part

-- changes of a time that a text begins with
pub record AreSome (widths text : List ℕ) (old new : List (List Digit)) (cs : List ValueChange) (from : ℕ) (rest : List ℕ) : Type 0 where
  pub steps : (last : ℕ) → Steps (p.Later widths old last 0 true) (change_items cs) (p.Later widths new last from (is_bare cs))
  pub is : text ≡ text_from (change_items cs) ++ rest

-- all changes of a time
pub record AreTimed (widths text : List ℕ) (old new : List (List Digit)) (cs : List ValueChange) (rest : List ℕ) : Type 0 where
  pub from : ℕ
  pub some : AreSome widths text old new cs from rest
  pub timed : IsAtTime rest

-- later times that a text begins with
pub record AreLast (widths text : List ℕ) (old new : List (List Digit)) (last : ℕ) (bare : Bool) (old_moments new_moments : List Moment) (rest : List ℕ) : Type 0 where
  pub from : ℕ
  pub moments : List Moment
  pub are : new_moments ≡ old_moments ++ moments
  pub steps : Steps (p.Later widths old 0 (length widths) false) (later_items (map plain_moment moments)) (p.Later widths new last from bare)
  pub is : text ≡ text_from (later_items (map plain_moment moments)) ++ rest
  pub timed : (from ≡ length widths) ⊎ IsAtTime rest

-- all later times
pub record AreAllLater (widths text : List ℕ) (old : List (List Digit)) (old_moments new_moments : List Moment) : Type 0 where
  pub moments : List Moment
  pub place : Place
  pub are : new_moments ≡ old_moments ++ moments
  pub steps : Steps (p.Later widths old 0 (length widths) false) (later_items (map plain_moment moments)) place
  pub last : IsLast place
  pub is : text ≡ text_from (later_items (map plain_moment moments))
