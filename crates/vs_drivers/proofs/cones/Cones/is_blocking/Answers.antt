use Rattle.std.proofs.Common.{Bool, ◌↔◌, false, get_or, IsTrue, List, ◌∙◌, sym, ap, subst}
use Rattle.vs_rules.specs.Drivers.{IsBlocking}
use Rattle.vs_drivers.specs.Assigned.{IsAssigned}
use Rattle.vs_drivers.specs.Wires.{Wiring, OfWiring, IsFree}
use Rattle.vs_drivers.proofs.ConeLemmas.{blocking_told}
use Rattle.vs_drivers.proofs.cones.Cones.is_blocking.Goals as goal

pub returns : goal.returns
returns c =
    let x = c.self.inside.drivers in
    let v = c.args.v in
    let same = c.is_marked.ensures ∙ ap (λ (l : List Bool). get_or l v false) c.deref.ensures.value in
    subst (λ (y : Wiring). OfWiring y (λ d claims. (IsTrue c.is_marked.result ↔ IsBlocking d claims v))) c.self.view_is
    (blocking_told x v c.is_marked.result (subst (λ (b : Bool). (IsTrue b ↔ (IsFree x v × IsAssigned x.design v))) (sym same) (c.self.invariant.marks_are v)))
