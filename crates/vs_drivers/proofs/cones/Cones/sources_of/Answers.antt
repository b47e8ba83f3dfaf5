use Rattle.std.proofs.Common.{Bool, ℕ, ◌↔◌, false, get_or, IsTrue, List, sym, subst}
use Rattle.std.specs.List.{Contains}
use Rattle.vs_rules.specs.Drivers.{InCone}
use Rattle.vs_drivers.specs.Wires.{Wiring, OfWiring}
use Rattle.vs_drivers.proofs.ConeLemmas.{sources_told}
use Rattle.vs_drivers.proofs.cones.Cones.sources_of.Goals as goal

pub returns : goal.returns
returns c =
    let x = c.self.inside.drivers in
    let all = c.in_ok-all.all.items in
    let r = c.args.range in
    subst (λ (y : Wiring). OfWiring y (λ d claims. (u : ℕ) → (Contains all u ↔ InCone d claims u r))) c.self.view_is
    (sources_told x r all (λ u. (
      λ h. (c.in_ok-marks.ensures.exact u).0 (subst (λ (l : List Bool). IsTrue (get_or l u false)) c.deref.ensures.value ((c.in_ok-all.ensures u).0 h)),
      λ y. (c.in_ok-all.ensures u).1 (subst (λ (l : List Bool). IsTrue (get_or l u false)) (sym c.deref.ensures.value) ((c.in_ok-marks.ensures.exact u).1 y)),
    )))
