use Rattle.std.proofs.Common.{◌≡◌, ◌<◌, ◌↔◌, length, sym, subst}
use Rattle.std.specs.List.{Contains}
use Rattle.vs_drivers.specs.declared.writers.Written.{Written}
use Rattle.vs_drivers.specs.Wires.{Wiring, wiring, WritesAt}
use Rattle.vs_drivers.proofs.DriverLemmas.{writers_here}
use Rattle.vs_drivers.proofs.drivers.Drivers.writers.Goals as goal

pub returns : goal.returns
returns c =
    let v = c.args.v in
    let x = wiring c.self.inside.design.now c.self.inside.blocks.now in
    subst (λ (y : Wiring). (w : Written) → (Contains c.row.result.now w ↔ ((v < length y.design.signals) × (w.range.signal ≡ v) × WritesAt y w.driver w.range))) c.self.view_is
    (writers_here x c.self.inside.writers v c.row.result.now c.self.invariant.writers_are (sym c.row.ensures))
