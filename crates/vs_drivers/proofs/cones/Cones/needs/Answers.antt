use Rattle.std.proofs.Common.{◌↔◌, subst}
use Rattle.std.specs.List.{Contains}
use Rattle.vs_design.specs.declared.range.BitRange.{BitRange}
use Rattle.vs_rules.specs.Drivers.{IsDriver, DriverNeeds}
use Rattle.vs_drivers.specs.Wires.{Wiring, OfWiring, driver_at}
use Rattle.vs_drivers.proofs.ConeLemmas.{needs_told}
use Rattle.vs_drivers.proofs.cones.Cones.needs.Goals as goal

pub returns : goal.returns
returns c =
    let row = c.needs.result.now in
    let n = c.args.driver in
    subst (λ (y : Wiring). OfWiring y (λ d claims. (r : BitRange) → (Contains row r ↔ (IsDriver d claims (driver_at d n) × DriverNeeds d (driver_at d n) r)))) c.self.view_is
    (needs_told c.self.inside.drivers n row c.needs.ensures)
