-- Of which designs and slots a dump is read back.
use Rattle.std.specs.Prelude.{◌≡◌, ℕ, ◌<◌, ◌≤◌, ◌^◌, true, List, ◌∷◌, length}
use Rattle.std.specs.List.{All}
use Rattle.vs_design.specs.Parts.{Parts}
use Rattle.vs_design.specs.Stores.{Store}
use Rattle.vs_design.specs.Traces.{Slot, AreRisingAfter}
use Rattle.vs_design.specs.WellFormed.{counts_from, declared_in}
use Rattle.vs_vcd_writing.specs.Codes.{shown}
use Rattle.vs_vcd_writing.specs.Shown.{HasSize}
use Rattle.vs_vcd_reader.specs.Layout.{AreDeclared}
use Rattle.vs_vcd_reader.specs.Said.{declarations_of}

-- the outline declares each signal once, in design order, under printed names, in scopes below one top module
pub record IsOutlined (d : Parts) : Type 0 where
  pub in_order : counts_from 0 (declared_in d.outline) ≡ true
  pub all : length (declared_in d.outline) ≡ length d.signals
  pub declared : AreDeclared (declarations_of d)

-- each value that a store shows has its signal's size
abbrev pub AreSized : Parts → Store → Type 0
AreSized d store = All (HasSize d store) (shown d)

-- slots at rising times below 2^64, the first one at 0, with values of their signals' sizes
pub record AreWhole (d : Parts) (slots : List Slot) : Type 0 where
  pub first : Slot
  pub later : List Slot
  pub are : slots ≡ first ∷ later
  pub zero : first.time ≡ 0
  pub rising : AreRisingAfter 0 later
  pub sized : All (λ (s : Slot). AreSized d s.store) slots

-- a time below 2^64 that no slot is after
pub record IsEnd (slots : List Slot) (time : ℕ) : Type 0 where
  pub small : time < 2 ^ 64
  pub after : All (λ (s : Slot). s.time ≤ time) slots
