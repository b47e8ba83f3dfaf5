use Rattle.std.proofs.Common.{List, ap, sym, ◌∙◌}
use Rattle.vs_design.specs.declared.design.Assign.{Assign}
use Rattle.vs_rules_of_starts.specs.Settled.{are_idle}
use Rattle.vs_rules_of_starts.proofs.SettledLemmas.{settled_found, settled_missed}
use Rattle.vs_rules_of_starts.proofs.settled.settled_start.Goals as goal

pub returns-then-idle : goal.returns-then-idle
returns-then-idle c =
    settled_found c.args.design.now c.is_well_formed.ensures c.args.order.now c.requires.order c.assigns.result.now c.in_ok-store.store c.make_all.new.store
    c.assigns.ensures c.in_ok-store.ensures c.in_ok-make_all.ensures
    (ap (λ (as' : List Assign). are_idle as' c.make_all.new.store) (c.assigns.ensures ∙ sym c.assigns-2.ensures) ∙ sym c.in_ok-idle.ensures ∙ c.if-idle.true)

pub returns : goal.returns
returns c =
    settled_missed c.args.design.now c.is_well_formed.ensures c.args.order.now c.requires.order c.assigns.result.now c.in_ok-store.store c.make_all.new.store
    c.assigns.ensures c.in_ok-store.ensures c.in_ok-make_all.ensures
    (ap (λ (as' : List Assign). are_idle as' c.make_all.new.store) (c.assigns.ensures ∙ sym c.assigns-2.ensures) ∙ sym c.in_ok-idle.ensures ∙ c.if-idle.false)
