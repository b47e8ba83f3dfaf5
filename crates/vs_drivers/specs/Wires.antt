-- Drivers by numbers: the continuous assignments of a design, and then its processes of kind comb.
use Rattle.std.specs.Prelude.{ℕ, ◌+◌, ◌-◌, ◌≡◌, ◌↔◌, Bool, true, false, List, length, nat_lt, slice_index_or, if◌then◌else◌, IsTrue}
use Rattle.vs_design.specs.declared.range.BitRange.{BitRange}
use Rattle.vs_design.specs.Parts.{Parts}
use Rattle.vs_rules.specs.Claims.{Claims, IsBlock, HasKind}
use Rattle.vs_rules.specs.Drivers.{Driver, assign, block, DriverWrites, DriverNeeds}
use Rattle.vs_rules.specs.Paths.{Writes}

-- a design, and a mark for each of its processes: whether it is of kind comb
pub record Wiring : Type 0 where
  pub design : Parts
  pub blocks : List Bool

-- it is that of a design and of what is claimed of it
pub record IsWiringOf (d : Parts) (c : Claims) (x : Wiring) : Type 0 where
  pub design : x.design ≡ d
  pub blocks : (i : ℕ) → (IsTrue (slice_index_or x.blocks i false) ↔ IsBlock d c i)

-- what holds of each design and claims of which the wiring is one
abbrev pub OfWiring : Wiring → (Parts → Claims → Type 0) → Type 0
OfWiring x P = (d : Parts) (c : Claims) → IsWiringOf d c x → P d c

-- ---- drivers

-- how many drivers there are at most
abbrev pub drivers : Parts → ℕ
drivers d = length d.assigns + length d.processes

-- the driver of a number: the continuous assignments come first, then the processes
abbrev pub driver_at : Parts → ℕ → Driver
driver_at d n = if nat_lt n (length d.assigns) then assign n else block (n - length d.assigns)

-- a process is marked to be of kind comb
abbrev pub IsMarked : Wiring → ℕ → Type 0
IsMarked x i = IsTrue (slice_index_or x.blocks i false)

-- a driver is a continuous assignment, or a process that is marked
abbrev pub Drives : Wiring → Driver → Type 0
Drives x (assign j) = Unit {0}
Drives x (block i) = IsMarked x i

-- the driver of a number writes the range
pub record WritesAt (x : Wiring) (n : ℕ) (r : BitRange) : Type 0 where
  pub drives : Drives x (driver_at x.design n)
  pub writes : DriverWrites x.design (driver_at x.design n) r

-- it reads the range, or waits for it
pub record NeedsAt (x : Wiring) (n : ℕ) (r : BitRange) : Type 0 where
  pub drives : Drives x (driver_at x.design n)
  pub needs : DriverNeeds x.design (driver_at x.design n) r

-- a variable that no process that is marked writes
pub record IsFree (x : Wiring) (v : ℕ) : Type 0 where
  pub variable : HasKind true x.design v
  pub undriven : (i : ℕ) → IsMarked x i → Writes x.design i v → ⊥

-- of a design as it is kept, with its marks
abbrev pub wiring : Parts → List Bool → Wiring
wiring design blocks = record { design = design; blocks = blocks }
