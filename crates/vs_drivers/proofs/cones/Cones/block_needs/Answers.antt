use Rattle.std.proofs.Common.{◌↔◌, subst}
use Rattle.std.specs.List.{Contains}
use Rattle.vs_design.specs.declared.range.BitRange.{BitRange}
use Rattle.vs_rules.specs.Claims.{IsBlock}
use Rattle.vs_rules.specs.Drivers.{block, DriverNeeds}
use Rattle.vs_drivers.specs.Wires.{Wiring, OfWiring}
use Rattle.vs_drivers.proofs.ConeLemmas.{block_needs_told}
use Rattle.vs_drivers.proofs.cones.Cones.block_needs.Goals as goal

pub returns : goal.returns
returns c =
    let row = c.block_needs.result.now in
    let i = c.args.i in
    subst (λ (y : Wiring). OfWiring y (λ d claims. (r : BitRange) → (Contains row r ↔ (IsBlock d claims i × DriverNeeds d (block i) r)))) c.self.view_is
    (block_needs_told c.self.inside.drivers i row c.block_needs.ensures)
