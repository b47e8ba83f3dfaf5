-- Drivers, sources, and what can change what.
use Rattle.std.specs.Prelude.{ℕ, ◌≡◌, ◌<◌, ◌⊎◌, true, Some, Option, slice_get}
use Rattle.vs_design.specs.declared.design.Assign.{Assign}
use Rattle.vs_design.specs.declared.range.BitRange.{BitRange}
use Rattle.vs_design.specs.declared.statement.EventTerm.{EventTerm}
use Rattle.vs_design.specs.Parts.{Parts}
use Rattle.vs_design.specs.Uses.{reads, writes}
use Rattle.vs_rules.specs.Claims.{Name, place_of}
use Rattle.vs_process.specs.Places.{Todo}
use Rattle.vs_rules.specs.Claims.{Claims, IsBlock, HasKind, assign_name, process_name}
use Rattle.vs_rules.specs.Paths.{Bit, Has, Touches, Meet, Lists, IsPoint, WritesNow, Writes, reads_of, writes_of, HasTerm}

-- a continuous assignment, or a process of kind comb, by its number
pub data Driver : Type 0 where
  assign : ℕ → Driver
  block : ℕ → Driver

abbrev pub IsDriver : Parts → Claims → Driver → Type 0
IsDriver d c (assign j) = Unit {0}
IsDriver d c (block i) = IsBlock d c i

-- a driver writes the range
abbrev pub DriverWrites : Parts → Driver → BitRange → Type 0
DriverWrites d (assign j) r = (a : Assign) × (slice_get d.assigns j ≡ Some a) × Lists d (writes a.target) r
DriverWrites d (block i) r = Lists d (writes_of d i) r

-- it reads the range
abbrev pub DriverReads : Parts → Driver → BitRange → Type 0
DriverReads d (assign j) r = (a : Assign) × (slice_get d.assigns j ≡ Some a) × Lists d (reads a.source) r
DriverReads d (block i) r = Lists d (reads_of d i) r

-- an event control of a process names the range: what `@*` waits for, arguments of calls included
pub record Names (d : Parts) (i : ℕ) (r : BitRange) : Type 0 where
  pub term : EventTerm
  pub has : HasTerm d i term
  pub is : term.range ≡ r
  pub touches : Touches d r

-- a change of the range can make a driver act: it reads it, or the control of a block names it
abbrev pub DriverNeeds : Parts → Driver → BitRange → Type 0
DriverNeeds d (assign j) r = DriverReads d (assign j) r
DriverNeeds d (block i) r = DriverReads d (block i) r ⊎ Names d i r

abbrev pub driver_name : Parts → Driver → Option Name
driver_name d (assign j) = assign_name (slice_get d.assigns j)
driver_name d (block i) = process_name (slice_get d.processes i)

-- a driver stands in the order before another one
pub record Precedes (d : Parts) (c : Claims) (x y : Driver) : Type 0 where
  pub one : Name
  pub other : Name
  pub is : driver_name d x ≡ Some one
  pub other_is : driver_name d y ≡ Some other
  pub before : place_of one c.order < place_of other c.order

-- a source: a variable that no driver writes
pub record IsSource (d : Parts) (c : Claims) (v : ℕ) : Type 0 where
  pub variable : HasKind true d v
  pub undriven : (i : ℕ) → IsBlock d c i → Writes d i v → ⊥

-- a blocking source: the text of some process has a write of it by `=`
pub record IsBlocking (d : Parts) (c : Claims) (u : ℕ) : Type 0 where
  pub source : IsSource d c u
  pub process : ℕ
  pub point : Todo
  pub is : IsPoint d process point
  pub writes : WritesNow d point u

-- a source of the cone of a range: the range names it, or it is reached backward from the range through drivers whose writes meet it
pub data InCone (d : Parts) (c : Claims) (u : ℕ) : BitRange → Type 0 where
  here : (r : BitRange) → IsSource d c u → r.signal ≡ u → Touches d r → InCone d c u r
  through : (r w q : BitRange) (x : Driver) → IsDriver d c x → DriverWrites d x w → Meet d w r → DriverNeeds d x q → InCone d c u q →
      InCone d c u r

-- a driver that the cone of a range passes through
pub data Passes (d : Parts) (c : Claims) (y : Driver) : BitRange → Type 0 where
  here : (r w : BitRange) → IsDriver d c y → DriverWrites d y w → Meet d w r → Passes d c y r
  through : (r w q : BitRange) (x : Driver) → IsDriver d c x → DriverWrites d x w → Meet d w r → DriverNeeds d x q → Passes d c y q →
      Passes d c y r

-- ---- bits of drivers

-- a driver writes the bit
pub record WritesBit (d : Parts) (x : Driver) (b : Bit) : Type 0 where
  pub range : BitRange
  pub writes : DriverWrites d x range
  pub has : Has range b
