use Rattle.std.proofs.Common.{ℕ, ◌<◌, ◌↔◌, IsTrue, List, length, get_or, false, sym, ◌∙◌, ap, subst}
use Rattle.std.specs.List.{Contains}
use Rattle.std.specs.declared.vec.Vec.{Vec}
use Rattle.std.specs.declared.alloc.Global.{Global}
use Rattle.vs_design.specs.declared.range.BitRange.{BitRange}
use Rattle.vs_design.specs.declared.signal.Signal.{Signal}
use Rattle.vs_maps.specs.vs_graph.specs.Reached.{AreReached}
use Rattle.vs_drivers.specs.Walks.{Passed, all_met, linked}
use Rattle.vs_drivers.specs.Wires.{Wiring, wiring}
use Rattle.vs_drivers.proofs.DriverLemmas.{passed_marks}
use Rattle.vs_drivers.proofs.WalkLemmas.{met_below}
use Rattle.vs_drivers.proofs.drivers.Drivers.passed.Goals as goal

pub passed-requires : goal.passed-requires
passed-requires c rs n h =
    let x = wiring c.self.inside.design.now c.self.inside.blocks.now in
    let table = c.self.inside.writers in
    let signals = c.signals.ensures ∙ ap (λ (y : Wiring). y.design.signals) (sym c.self.view_is) in
    let there = subst (λ (l : List Signal). Contains (all_met l table rs) n) signals h in
    subst (λ (l : List (Vec BitRange Global)). n < length l) (sym c.deref.ensures.value)
    (subst (λ (k : ℕ). n < k) (sym c.self.invariant.needs_are.long) (met_below x table c.self.invariant.writers_are rs n there))

pub returns-clause-exact : goal.returns-clause-exact
returns-clause-exact c =
    let x = wiring c.self.inside.design.now c.self.inside.blocks.now in
    let table = c.self.inside.writers in
    let marks = c.in_ok-marks.marks.items in
    let rs = c.args.ranges.now in
    let signals = c.signals.ensures ∙ ap (λ (y : Wiring). y.design.signals) (sym c.self.view_is) in
    let a = subst (λ (l : List Signal). AreReached (linked l c.deref.result.now table) (all_met l table rs) (length c.deref.result.now) marks)
    signals c.in_ok-marks.ensures.exact in
    let reached = subst (λ (l : List (Vec BitRange Global)). AreReached (linked x.design.signals l table) (all_met x.design.signals table rs) (length l) marks)
    c.deref.ensures.value a in
    let long = c.in_ok-marks.ensures.len ∙ ap (λ (l : List (Vec BitRange Global)). length l) c.deref.ensures.value in
    subst (λ (y : Wiring). (n : ℕ) → (IsTrue (get_or marks n false) ↔ Passed y rs n)) c.self.view_is
    (passed_marks x c.self.inside.needs.items table rs marks c.self.invariant.needs_are c.self.invariant.writers_are long reached)
