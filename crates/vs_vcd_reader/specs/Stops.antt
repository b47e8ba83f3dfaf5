-- Why the reader stops: nothing that is promised rests on these.
use Rattle.std.specs.Prelude.{◌≡◌, ◌⊎◌, ℕ, ◌≤◌, true, List, [], ◌++◌, length}
use Rattle.vs_vcd_lines.specs.Cuts.{lacks, IsCut}
use Rattle.vs_vcd_reader.specs.declared.fault.VcdFault.{VcdFault}
use Rattle.vs_vcd_reader.specs.declared.fault.VcdFault.TheVariants as f
use Rattle.vs_vcd_reader.specs.Faults.{IsOfTime, IsShaped}
use Rattle.vs_vcd_reader.specs.Steps.{Item, Place, Steps, Follows, IsLast, text_from}
use Rattle.vs_vcd_reader.specs.Steps.{Place as p}

-- a line has the shape of a change of a code whose number isn't below a count
pub record IsOfOtherCode (count : ℕ) (line : List ℕ) : Type 0 where
  pub number : ℕ
  pub shaped : IsShaped number line
  pub least : count ≤ number

-- the fault of a line of the body that can't stand there, where there are so many variables
abbrev pub IsBodyKind : ℕ → List ℕ → VcdFault → Type 0
IsBodyKind count line f.Memory = ⊥
IsBodyKind count line f.Header = ⊥
IsBodyKind count line f.Cut = ⊥
IsBodyKind count line f.Time = IsOfTime line
IsBodyKind count line f.Code = IsOfOtherCode count line
IsBodyKind count line f.Line = (IsOfTime line → ⊥) × (IsOfOtherCode count line → ⊥)

-- the fault of a line that can't stand at a place
abbrev pub IsKindAt : Place → List ℕ → VcdFault → Type 0
IsKindAt p.Start line fault = fault ≡ f.Header
IsKindAt p.Top line fault = fault ≡ f.Header
IsKindAt (p.Header ws depth own) line fault = fault ≡ f.Header
IsKindAt (p.Zero ws) line fault = IsBodyKind (length ws) line fault
IsKindAt (p.First ws) line fault = IsBodyKind (length ws) line fault
IsKindAt (p.Values ws vs) line fault = IsBodyKind (length ws) line fault
IsKindAt (p.Later ws vs last from bare) line fault = IsBodyKind (length ws) line fault

-- some line that can stand at a place begins so
pub record IsPart (here : Place) (part : List ℕ) : Type 0 where
  pub rest : List ℕ
  pub follows : Follows here (part ++ rest)

-- nothing, or the beginning of a line that can stand at a place
abbrev pub GoesOn : Place → List ℕ → Type 0
GoesOn here part = (part ≡ []) ⊎ IsPart here part

-- why a text can't stand at a place: its first line, or that it has no ended one
pub data IsStop (here : Place) (text : List ℕ) : VcdFault → Type 0 where
  bad : (line rest : List ℕ) (fault : VcdFault) → IsCut 10 text line rest → (Follows here line → ⊥) → IsKindAt here line fault → IsStop here text fault
  unended : (fault : VcdFault) → lacks 10 text ≡ true → (GoesOn here text → ⊥) → IsKindAt here text fault → IsStop here text fault
  cut : lacks 10 text ≡ true → GoesOn here text → (text ≡ [] → IsLast here → ⊥) → IsStop here text f.Cut

-- what is told of a last line that isn't ended, at a place
abbrev pub IsUnended : Place → List ℕ → VcdFault → Type 0
IsUnended here part f.Memory = Unit {0}
IsUnended here part f.Cut = GoesOn here part
IsUnended here part f.Header = (GoesOn here part → ⊥) × IsKindAt here part f.Header
IsUnended here part f.Line = (GoesOn here part → ⊥) × IsKindAt here part f.Line
IsUnended here part f.Code = (GoesOn here part → ⊥) × IsKindAt here part f.Code
IsUnended here part f.Time = (GoesOn here part → ⊥) × IsKindAt here part f.Time

-- why a text can't stand at a place: after some lines that can
pub record IsStopped (here : Place) (text : List ℕ) (fault : VcdFault) : Type 0 where
  pub items : List Item
  pub next : Place
  pub rest : List ℕ
  pub steps : Steps here items next
  pub is : text ≡ text_from items ++ rest
  pub stop : IsStop next rest fault

-- the same, where want of memory is told of any text
abbrev pub IsReportedAt : Place → List ℕ → VcdFault → Type 0
IsReportedAt here text f.Memory = Unit {0}
IsReportedAt here text f.Header = IsStopped here text f.Header
IsReportedAt here text f.Line = IsStopped here text f.Line
IsReportedAt here text f.Code = IsStopped here text f.Code
IsReportedAt here text f.Time = IsStopped here text f.Time
IsReportedAt here text f.Cut = IsStopped here text f.Cut
