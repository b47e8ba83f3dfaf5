use Rattle.std.proofs.Common.{Bool, ℕ, ◌-◌, length, length-drop, arith, ◌↔◌, false, get_or, drop, IsTrue, List, ◌∙◌, ap, subst}
use Rattle.std.specs.List.{Contains}
use Rattle.std.proofs.lemmas.List.{take_all}
use Rattle.vs_design.specs.declared.range.BitRange.{BitRange}
use Rattle.vs_rules.specs.Drivers.{block, Passes}
use Rattle.vs_drivers.specs.Wires.{Wiring, OfWiring}
use Rattle.vs_drivers.proofs.ConeLemmas.{passed_told}
use Rattle.vs_drivers.proofs.cones.Cones.passed_by.Goals as goal

pub returns : goal.returns
returns c =
    let marks = c.in_ok-marks.marks.items in
    let rs = c.args.ranges.now in
    let first = c.first_process.result in
    subst (λ (y : Wiring). OfWiring y (λ d claims. (j : ℕ) → (IsTrue (get_or marks j false) ↔ ((r : BitRange) × Contains rs r × Passes d claims (block j) r)))) c.self.view_is
    (passed_told c.self.inside.drivers rs c.in_ok-passed.passed.items marks first c.first_process.ensures.first
    (c.in_ok-marks.ensures.items ∙ take_all (length c.deref.result.now - first) (drop first c.deref.result.now) (omega (arith, length-drop first c.deref.result.now))
    ∙ ap (λ (l : List Bool). drop first l) c.deref.ensures.value) c.in_ok-passed.ensures.exact)
