use Rattle.std.proofs.Common.{◌≡◌, ℕ, ◌<◌, ◌↔◌, length, subst}
use Rattle.std.specs.List.{Contains}
use Rattle.vs_design.specs.declared.range.BitRange.{BitRange}
use Rattle.vs_rules.specs.Drivers.{IsDriver, DriverWrites}
use Rattle.vs_drivers.specs.Wires.{Wiring, OfWiring, driver_at}
use Rattle.vs_drivers.proofs.ConeLemmas.{writers_told}
use Rattle.vs_drivers.proofs.cones.Cones.writers.Goals as goal

pub returns : goal.returns
returns c =
    let row = c.writers.result.now in
    let v = c.args.v in
    subst (λ (y : Wiring). OfWiring y (λ d claims. (n : ℕ) (r : BitRange) → (Contains row (record { driver = n; range = r }) ↔
    ((v < length d.signals) × (r.signal ≡ v) × IsDriver d claims (driver_at d n) × DriverWrites d (driver_at d n) r)))) c.self.view_is
    (writers_told c.self.inside.drivers v row c.writers.ensures)
