use Rattle.std.proofs.Common.{Bool, List, sym, ◌∙◌, ap, subst}
use Rattle.vs_design.specs.Parts.{Parts}
use Rattle.vs_rules_of_signals.specs.vs_maps.specs.Texts.{AreCharts, Texts}
use Rattle.vs_rules_of_starts.specs.vs_rules.specs.Claims.{is_wide}
use Rattle.vs_rules_of_processes.specs.vs_drivers.specs.Wires.{IsWiringOf, Wiring, wiring}
use Rattle.vs_rules_of_processes.specs.vs_drivers.specs.vs_slots_constants.specs.Inverted.{AreInverted}
use Rattle.vs_cert_check.proofs.Wired.{wired}
use Rattle.vs_cert_check.proofs.judging.by_facts.Goals as goal

pub new-requires : goal.new-requires
new-requires c = subst (λ (x : Texts). AreCharts x.design x.charts) (sym c.sites.ensures) c.maps.ensures

pub by_entries-requires-clause-cones : goal.by_entries-requires-clause-cones
by_entries-requires-clause-cones c =
    let f = c.args.facts.now in
    subst (IsWiringOf f.design f.claims) (sym (c.in_ok-cones.ensures ∙ ap (λ (x : Texts). wiring x.design c.deref.result.now) c.sites.ensures
    ∙ ap (wiring f.design) (c.deref.ensures.value ∙ c.in_ok-marks.ensures))) (wired f.design f.claims)

pub by_entries-requires-clause-inverted : goal.by_entries-requires-clause-inverted
by_entries-requires-clause-inverted c =
    let f = c.args.facts.now in
    let table = c.in_ok-inverted.inverted.items in
    subst (λ (t : List Bool). AreInverted f.design (is_wide f.claims) t) (sym c.deref-2.ensures.value)
    (subst (λ (wide : Bool). AreInverted f.design wide table) c.is_wide.ensures
    (subst (λ (d : Parts). AreInverted d c.is_wide.result table) (c.in_ok-copies.ensures ∙ c.design-design.ensures) c.in_ok-inverted.ensures))
