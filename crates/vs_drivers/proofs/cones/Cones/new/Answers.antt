use Rattle.std.proofs.Common.{◌≡◌, ◌<◌, Bool, ℕ, false, get_or, length, IsTrue, List, sym, ◌∙◌, ap, subst}
use Rattle.vs_design.specs.Parts.{Parts}
use Rattle.vs_maps.specs.Walks.{AreMarked}
use Rattle.vs_drivers.specs.Assigned.{AssignsIn}
use Rattle.vs_maps.specs.Texts.{AreCharts}
use Rattle.vs_drivers.specs.Wires.{Wiring, IsFree}
use Rattle.vs_drivers.proofs.ConeLemmas.{blocking_marks, free_within}
use Rattle.vs_drivers.proofs.cones.Cones.new.Goals as goal

pub invariant_of-rule : goal.invariant_of-rule
invariant_of-rule c = record {
  within = λ v free.
      subst (λ (d : Parts). v < length d.signals) (ap (λ (y : Wiring). y.design) c.in_ok-drivers.ensures ∙ c.design-design.ensures) (free_within c.in_ok-drivers.drivers v free);
}

pub invariant_of-result : goal.invariant_of-result
invariant_of-result c =
    let x = c.in_ok-drivers.drivers in
    let charts = c.args.sites.now.charts in
    let marks = c.in_ok-blocking.blocking.items in
    let design : x.design ≡ c.args.sites.now.design = ap (λ (y : Wiring). y.design) c.in_ok-drivers.ensures ∙ c.design-design.ensures in
    let maps = subst (λ (d : Parts). AreCharts d charts) (sym design) c.requires in
    let many : length c.signals.result.now ≡ length x.design.signals = ap length c.signals.ensures ∙ ap (λ (d : Parts). length d.signals) (c.design-design.ensures ∙ sym design) in
    let blocking = blocking_marks x charts maps marks (c.in_ok-blocking.ensures.len ∙ many)
    (subst (λ (n : ℕ). AreMarked (λ u. IsFree x u × AssignsIn charts u) n marks) many c.in_ok-blocking.ensures.exact) in
    let same = c.deref.ensures.value in record {
      marks_are = blocking;
      listed_are = λ u. (
        λ h. (blocking u).0 (subst (λ (l : List Bool). IsTrue (get_or l u false)) same ((c.in_ok-listed.ensures u).0 h)),
        λ y. (c.in_ok-listed.ensures u).1 (subst (λ (l : List Bool). IsTrue (get_or l u false)) (sym same) ((blocking u).1 y)),
      );
    }
