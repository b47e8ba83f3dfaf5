-- The rule K4, by what drivers write of a signal.
use Rattle.std.specs.Prelude.{ℕ, ◌≡◌, ◌<◌, ◌⊎◌, ◌↔◌, false, List, length, map}
use Rattle.std.specs.List.{Contains}
use Rattle.vs_design.specs.declared.range.BitRange.{BitRange}
use Rattle.vs_design.specs.Parts.{Parts}
use Rattle.vs_drivers.specs.vs_rules.specs.Claims.{Claims, HasKind}
use Rattle.vs_drivers.specs.vs_rules.specs.Drivers.{Driver, IsDriver, DriverWrites, IsSource, Precedes, WritesBit}
use Rattle.vs_drivers.specs.vs_rules.specs.Paths.{Bit, IsBit, Has}
use Rattle.vs_drivers.specs.vs_rules.specs.Rules.{IsSelf, IsCovered}
use Rattle.vs_drivers.specs.declared.writers.Written.{Written}
use Rattle.vs_drivers.specs.Wires.{driver_at}

-- these are the ranges of a signal that drivers write
abbrev pub AreWriters : Parts → Claims → ℕ → List Written → Type 0
AreWriters d c v row = (n : ℕ) (r : BitRange) → (Contains row (record { driver = n; range = r }) ↔
    ((v < length d.signals) × (r.signal ≡ v) × IsDriver d c (driver_at d n) × DriverWrites d (driver_at d n) r))

abbrev pub ranges_of : List Written → List BitRange
ranges_of row = map (λ (w : Written). w.range) row

-- a driver is another one, a process, or stands in the order after it
abbrev pub MayRead : Parts → Claims → ℕ → ℕ → Type 0
MayRead d c reader writer =
    IsSelf (driver_at d reader) (driver_at d writer) ⊎ Precedes d c (driver_at d writer) (driver_at d reader)

-- what a driver reads is known, and each driver that writes a bit of it stands before it
abbrev pub IsKnown : Parts → Claims → BitRange → Type 0
IsKnown d c r = HasKind false d r.signal ⊎ (IsSource d c r.signal ⊎ IsCovered d c r)

abbrev pub IsEarlier : Parts → Claims → Driver → BitRange → Type 0
IsEarlier d c x r = (b : Bit) (y : Driver) → IsBit d b → Has r b → IsDriver d c y → WritesBit d y b → IsSelf x y ⊎ Precedes d c y x

-- a driver that reads a range keeps the rule there
abbrev pub KeepsRead : Parts → Claims → Driver → BitRange → Type 0
KeepsRead d c x r = IsKnown d c r × IsEarlier d c x r

-- one that reads some ranges
abbrev pub KeepsReads : Parts → Claims → Driver → List BitRange → Type 0
KeepsReads d c x read = (r : BitRange) → Contains read r → KeepsRead d c x r
