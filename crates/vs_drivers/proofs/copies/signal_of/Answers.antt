use Rattle.std.proofs.Common.{Bool, Some, sym, subst, ◌≡◌, ◌↔◌}
use Rattle.vs_drivers.specs.Copies.{IsOf}
use Rattle.vs_drivers.proofs.copies.signal_of.Goals as goal

pub returns-then-inverse : goal.returns-then-inverse
returns-then-inverse c u =
    subst (λ (b : Bool). (IsOf c.args.design.now b u c.args.e.now ↔ c.inverts.result ≡ Some u)) (sym c.if-inverse.true) (c.inverts.ensures u)

pub returns-else-inverse : goal.returns-else-inverse
returns-else-inverse c u =
    subst (λ (b : Bool). (IsOf c.args.design.now b u c.args.e.now ↔ c.whole.result ≡ Some u)) (sym c.if-inverse.false) (c.whole.ensures u)
