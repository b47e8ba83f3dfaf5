-- Classes of residues, and the signals that hang on variables which are written at them.
use Rattle.std.specs.Prelude.{ℕ, ◌%◌, ◌≡◌, Bool, false, Some, List, slice_get, slice_index_or, IsTrue}
use Rattle.std.specs.declared.vec.Vec.{Vec}
use Rattle.std.specs.declared.alloc.Global.{Global}
use Rattle.vs_design.specs.declared.range.BitRange.{BitRange}
use Rattle.vs_design.specs.Parts.{Parts}
use Rattle.vs_rules.specs.Claims.{Claims}
use Rattle.vs_rules.specs.Drivers.{InCone}
use Rattle.vs_rules.specs.Slots.{HasWriteSlot}

-- the class of a residue
abbrev pub class_of : ℕ → ℕ
class_of r = r % 32

-- a variable has a write slot of a class
pub record IsWrittenIn (d : Parts) (c : Claims) (k u : ℕ) : Type 0 where
  pub residue : ℕ
  pub slot : HasWriteSlot d c u residue
  pub class : class_of residue ≡ k

-- a signal is marked where a variable that is written in the class is in the cone of one of its ranges
abbrev pub AreReachedFrom : Parts → Claims → ℕ → List Bool → Type 0
AreReachedFrom d c k marks = (u : ℕ) (r : BitRange) → IsWrittenIn d c k u → InCone d c u r → IsTrue (slice_index_or marks r.signal false)

-- marks for each class of a table
abbrev pub AreClasses : Parts → Claims → List (Vec Bool Global) → Type 0
AreClasses d c table = (k : ℕ) (marks : Vec Bool Global) → slice_get table k ≡ Some marks → AreReachedFrom d c k marks.items

-- no variable in the cone of a range of a signal has the write slot
abbrev pub IsClear : Parts → Claims → ℕ → ℕ → Type 0
IsClear d c v residue = (u : ℕ) (r : BitRange) → r.signal ≡ v → InCone d c u r → HasWriteSlot d c u residue → ⊥
