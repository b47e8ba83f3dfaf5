-- Where signals lead forward through drivers.
use Rattle.std.specs.Prelude.{ℕ, ◌+◌, ◌-◌, ◌≡◌, ◌<◌, List, length, map, nat_lt, if◌then◌else◌}
use Rattle.std.specs.List.{Contains}
use Rattle.vs_design.specs.declared.range.BitRange.{BitRange}
use Rattle.vs_design.specs.Parts.{Parts}
use Rattle.vs_rules.specs.Claims.{Claims}
use Rattle.vs_rules.specs.Drivers.{IsDriver, DriverNeeds, DriverWrites}
use Rattle.vs_drivers.specs.declared.writers.Written.{Written}
use Rattle.vs_drivers.specs.Wires.{driver_at, drivers}
use Rattle.vs_graph.specs.Rows.{AreRows, row}

-- the signals of ranges
abbrev pub signals_of : List BitRange → List ℕ
signals_of ranges = map (λ (r : BitRange). r.signal) ranges

-- the drivers of ranges that are written
abbrev pub drivers_of : List Written → List ℕ
drivers_of written = map (λ (w : Written). w.driver) written

-- the driver of a number writes a signal of the design
pub record WritesSignal (d : Parts) (c : Claims) (n v : ℕ) : Type 0 where
  pub within : v < length d.signals
  pub range : BitRange
  pub of : range.signal ≡ v
  pub driver : IsDriver d c (driver_at d n)
  pub writes : DriverWrites d (driver_at d n) range

-- the node of a driver that reads a signal, or waits for it: the signals of a design come first, then its drivers
pub record IsUser (d : Parts) (c : Claims) (node v : ℕ) : Type 0 where
  pub number : ℕ
  pub is : node ≡ length d.signals + number
  pub range : BitRange
  pub of : range.signal ≡ v
  pub driver : IsDriver d c (driver_at d number)
  pub needs : DriverNeeds d (driver_at d number) range

-- for each signal the nodes of the drivers that need it, and for each driver the signals that it writes
pub record AreForward (d : Parts) (c : Claims) (users outs : List (List ℕ)) : Type 0 where
  pub users_long : length users ≡ length d.signals
  pub outs_long : length outs ≡ drivers d
  pub users_are : AreRows (IsUser d c) (length d.signals + drivers d) (length d.signals) users
  pub outs_are : AreRows (λ v n. WritesSignal d c n v) (length d.signals) (drivers d) outs

-- where an edge leads from a node
abbrev pub forward : List (List ℕ) → List (List ℕ) → ℕ → List ℕ
forward users outs a = if nat_lt a (length users) then row users a else row outs (a - length users)

-- edges lead to nodes alone
abbrev pub LeadsWithin : List (List ℕ) → List (List ℕ) → Type 0
LeadsWithin users outs = (a b : ℕ) → Contains (forward users outs a) b → b < length users + length outs
