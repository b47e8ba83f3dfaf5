use Rattle.std.proofs.Common.{◌↔◌, IsTrue, subst}
use Rattle.vs_rules.specs.Drivers.{IsSource}
use Rattle.vs_drivers.specs.Wires.{Wiring, OfWiring}
use Rattle.vs_drivers.proofs.ConeLemmas.{source_told}
use Rattle.vs_drivers.proofs.cones.Cones.is_source.Goals as goal

pub returns : goal.returns
returns c =
    subst (λ (x : Wiring). OfWiring x (λ d claims. (IsTrue c.is_free.result ↔ IsSource d claims c.args.v))) c.self.view_is
    (source_told c.self.inside.drivers c.args.v c.is_free.result c.is_free.ensures)
