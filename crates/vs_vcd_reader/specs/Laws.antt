-- A text is one dump, or has faults.
use Rattle.std.specs.Prelude.{◌≡◌, ℕ, List}
use Rattle.vs_vcd_reader.specs.declared.fault.VcdFault.{VcdFault}
use Rattle.vs_vcd_reader.specs.declared.fault.VcdFault.TheVariants as f
use Rattle.vs_vcd_reader.specs.Plain.{PlainDump}
use Rattle.vs_vcd_reader.specs.Layout.{IsLayout}
use Rattle.vs_vcd_reader.specs.Faults.{IsFault, IsNoDump}

-- a text says one thing
abbrev pub DumpsAreOne : Type 0
DumpsAreOne = (text : List ℕ) (x y : PlainDump) → IsLayout text x → IsLayout text y → x ≡ y

-- a text with a fault other than want of memory is no dump
abbrev pub FaultsAreOfNone : Type 0
FaultsAreOfNone = (text : List ℕ) (fault : VcdFault) → IsFault text fault → (fault ≡ f.Memory → ⊥) → IsNoDump text
