-- The starts of combinational blocks.
use Rattle.std.specs.Prelude.{ℕ, ◌⊎◌, Bool, false, List, slice_index_or, IsTrue}
use Rattle.std.specs.List.{Contains}
use Rattle.vs_design.specs.declared.range.BitRange.{BitRange}
use Rattle.vs_design.specs.declared.statement.EventTerm.{EventTerm}
use Rattle.vs_design.specs.Parts.{Parts}
use Rattle.vs_rules.specs.Claims.{Claims, cold, starter, HasStart}
use Rattle.vs_rules.specs.Drivers.{block, DriverNeeds, IsSource, Passes}
use Rattle.vs_drivers.specs.vs_maps.specs.Ranges.{HasSignal}

-- a signal is a source, or one that is written
abbrev pub IsFine : Parts → Claims → List BitRange → ℕ → Type 0
IsFine d c written v = IsSource d c v ⊎ HasSignal written v

-- of each term the signal is
abbrev pub AreFine : Parts → Claims → List BitRange → List EventTerm → Type 0
AreFine d c written terms = (t : EventTerm) → Contains terms t → IsFine d c written t.range.signal

-- no process that is marked has start `starter`
abbrev pub NoStarterIn : Parts → Claims → List Bool → Type 0
NoStarterIn d c marks = (j : ℕ) → IsTrue (slice_index_or marks j false) → HasStart d c j starter → ⊥

-- a process of start `cold` needs the range
abbrev pub NeedsCold : Parts → Claims → ℕ → BitRange → Type 0
NeedsCold d c i r = HasStart d c i cold × DriverNeeds d (block i) r

-- no driver that the cone of such a range passes through has start `starter`
abbrev pub AreApart : Parts → Claims → Type 0
AreApart d c = (i j : ℕ) (r : BitRange) → NeedsCold d c i r → Passes d c (block j) r → HasStart d c j starter → ⊥
