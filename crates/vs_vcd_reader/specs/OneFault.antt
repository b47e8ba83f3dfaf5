-- A text has one fault.
use Rattle.std.specs.Prelude.{◌≡◌, ℕ, List}
use Rattle.vs_vcd_reader.specs.declared.fault.VcdFault.{VcdFault}
use Rattle.vs_vcd_reader.specs.declared.fault.VcdFault.TheVariants as f
use Rattle.vs_vcd_reader.specs.Faults.{IsFault}

-- a text has no two faults, other than want of memory
abbrev pub FaultsAreOne : Type 0
FaultsAreOne =
    (text : List ℕ) (one other : VcdFault) → IsFault text one → IsFault text other → (one ≡ f.Memory → ⊥) → (other ≡ f.Memory → ⊥)
    → one ≡ other
