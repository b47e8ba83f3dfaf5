-- Drivers by their numbers.
use Rattle.std.proofs.Common.{◌≡◌, ℕ, ◌+◌, ◌-◌, ◌<◌, ◌≤◌, ◌⊎◌, ◌↔◌, inl, inr, Bool, true, false, Option, length, nat_lt, if◌then◌else◌, refl, ◌∙◌, ap, subst, arith}
use Rattle.std.specs.List.{Contains}
use Rattle.std.proofs.lemmas.Bool.{cases_lt}
use Rattle.std.proofs.lemmas.Option.{slice_get_within, slice_get_past}
use Rattle.vs_design.specs.declared.design.Process.{Process}
use Rattle.vs_design.specs.declared.range.BitRange.{BitRange}
use Rattle.vs_design.specs.Parts.{Parts}
use Rattle.vs_rules.specs.Claims.{Claims, IsBlock}
use Rattle.vs_rules.specs.Drivers.{Driver, assign, block, IsDriver, DriverWrites, IsSource}
use Rattle.vs_rules.specs.vs_process.specs.BlockDrivers.{outputs_for}
use Rattle.vs_design.specs.vs_logic4.proofs.Basics.{none_in}
use Rattle.vs_drivers.specs.Wires.{Wiring, OfWiring, driver_at, drivers, IsMarked, Drives, WritesAt, IsFree}

chosen : (b : Bool) (n : ℕ) (x y : Driver) → ((b ≡ true) × ((if b then x else y) ≡ x)) ⊎ ((b ≡ false) × ((if b then x else y) ≡ y))
chosen true n x y = inl (refl, refl)
chosen false n x y = inr (refl, refl)

-- the number of a continuous assignment, or that of a process
pub driver_cases : (d : Parts) (n : ℕ) →
    ((n < length d.assigns) × (driver_at d n ≡ assign n)) ⊎ ((length d.assigns ≤ n) × (driver_at d n ≡ block (n - length d.assigns)))
driver_cases d n = elim (chosen (nat_lt n (length d.assigns)) n (assign n) (block (n - length d.assigns))) [
  | inl y ↦ inl (grind (arith, y.0), y.1)
  | inr y ↦ inr (grind (arith, y.0), y.1)
]

pub assign_at : (d : Parts) (j : ℕ) → j < length d.assigns → driver_at d j ≡ assign j
assign_at d j within = elim (driver_cases d j) [ inl y ↦ y.1 | inr y ↦ absurd (omega (arith, within, y.0)) ]

pub block_at : (d : Parts) (i : ℕ) → driver_at d (length d.assigns + i) ≡ block i
block_at d i = elim (driver_cases d (length d.assigns + i)) [
  | inl y ↦ absurd (omega (arith, y.0))
  | inr y ↦ y.1 ∙ ap block (omega arith)
]

-- what writes something has a number
pub number_of : (d : Parts) (y : Driver) (r : BitRange) → DriverWrites d y r → (n : ℕ) × (driver_at d n ≡ y)
number_of d (assign j) r h = (j, assign_at d j (slice_get_within d.assigns j h.0 h.1))
number_of d (block i) r h = (length d.assigns + i, block_at d i)

pub block_within : (d : Parts) (i : ℕ) (r : BitRange) → DriverWrites d (block i) r → i < length d.processes
block_within d i r h = elim (cases_lt i (length d.processes)) [
  | inl l ↦ l
  | inr g ↦ absurd (none_in r (subst (λ (o : Option Process). Contains (outputs_for o) r) (slice_get_past d.processes i g) h.0))
]

-- the number of a driver that writes something
pub writes_below : (x : Wiring) (n : ℕ) (r : BitRange) → WritesAt x n r → n < drivers x.design
writes_below x n r w = elim (driver_cases x.design n) [
  | inl y ↦ omega (arith, y.0)
  | inr y ↦ let h = block_within x.design (n - length x.design.assigns) r (subst (λ (k : Driver). DriverWrites x.design k r) y.1 w.writes) in omega (arith, h, y.0)
]

-- ---- what is claimed

-- the marks are those of claims
abbrev pub AreMarks : Wiring → Claims → Type 0
AreMarks x c = (i : ℕ) → (IsMarked x i ↔ IsBlock x.design c i)

pub of_own : (x : Wiring) (P : Parts → Claims → Type 0) → ((c : Claims) → AreMarks x c → P x.design c) → OfWiring x P
of_own x P h d c w = subst (λ (e : Parts). ((i : ℕ) → (IsMarked x i ↔ IsBlock e c i)) → P e c) w.design (h c) w.blocks

pub drives_on : (x : Wiring) (c : Claims) → AreMarks x c → (y : Driver) → Drives x y → IsDriver x.design c y
drives_on x c m (assign j) h = tt
drives_on x c m (block i) h = (m i).0 h

pub drives_back : (x : Wiring) (c : Claims) → AreMarks x c → (y : Driver) → IsDriver x.design c y → Drives x y
drives_back x c m (assign j) h = tt
drives_back x c m (block i) h = (m i).1 h

pub free_is : (x : Wiring) (c : Claims) → AreMarks x c → (v : ℕ) → (IsFree x v ↔ IsSource x.design c v)
free_is x c m v = (
  λ f. record { variable = f.variable; undriven = λ i b w. f.undriven i ((m i).1 b) w },
  λ s. record { variable = s.variable; undriven = λ i b w. s.undriven i ((m i).0 b) w },
)
