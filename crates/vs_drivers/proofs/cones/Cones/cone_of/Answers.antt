use Rattle.std.proofs.Common.{ℕ, ◌↔◌, false, get_or, IsTrue, subst}
use Rattle.std.specs.List.{Contains}
use Rattle.vs_design.specs.declared.range.BitRange.{BitRange}
use Rattle.vs_rules.specs.Drivers.{InCone}
use Rattle.vs_drivers.specs.Wires.{Wiring, OfWiring}
use Rattle.vs_drivers.proofs.ConeLemmas.{cone_told}
use Rattle.vs_drivers.proofs.cones.Cones.cone_of.Goals as goal

pub returns-clause-exact : goal.returns-clause-exact
returns-clause-exact c =
    let marks = c.in_ok-marks.marks.items in
    subst (λ (y : Wiring). OfWiring y (λ d claims. (u : ℕ) → (IsTrue (get_or marks u false) ↔ ((r : BitRange) × Contains c.args.ranges.now r × InCone d claims u r)))) c.self.view_is
    (cone_told c.self.inside.drivers c.args.ranges.now marks c.in_ok-marks.ensures.exact)
