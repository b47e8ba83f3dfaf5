use Rattle.std.proofs.Common.{◌≡◌, ◌<◌, ◌↔◌, Some, List, length, slice_get, refl, sym, subst}
use Rattle.std.specs.List.{Contains}
use Rattle.std.specs.declared.vec.Vec.{Vec}
use Rattle.std.specs.declared.alloc.Global.{Global}
use Rattle.std.proofs.lemmas.Option.{slice_get_read}
use Rattle.vs_design.specs.declared.range.BitRange.{BitRange}
use Rattle.vs_drivers.specs.Wires.{Wiring, wiring, drivers, NeedsAt}
use Rattle.vs_drivers.proofs.DriverLemmas.{needs_here}
use Rattle.vs_drivers.proofs.drivers.Drivers.needs.Goals as goal

pub returns-in-Some : goal.returns-in-Some
returns-in-Some c =
    let n = c.args.n in
    let x = wiring c.self.inside.design.now c.self.inside.blocks.now in
    let row = c.in-Some.row.now in
    let is = subst (λ (l : List (Vec BitRange Global)). slice_get l n ≡ Some row) c.deref.ensures.value
    (slice_get_read c.deref.result.now (length c.deref.result.now) n row refl c.in-Some.ensures.lookup.3.0 c.in-Some.ensures.lookup.1) in
    subst (λ (y : Wiring). (r : BitRange) → (Contains c.deref-in-Some.result.now r ↔ ((n < drivers y.design) × NeedsAt y n r))) c.self.view_is
    (λ r. subst (λ (l : List BitRange). (Contains l r ↔ ((n < drivers x.design) × NeedsAt x n r))) (sym c.deref-in-Some.ensures.value)
    (needs_here x c.self.inside.needs.items n row c.self.invariant.needs_are is r))
