use Rattle.std.proofs.Common.{◌≤◌, List, length, ◌∙◌, ap, subst}
use Rattle.vs_design.specs.declared.design.Process.{Process}
use Rattle.vs_design.specs.Parts.{Parts}
use Rattle.vs_rules_of_processes.proofs.HungLemmas.{needs_none, needs_more, needs_all}
use Rattle.vs_rules_of_processes.proofs.hung.all_needs.Goals as goal

pub loop-i-init : goal.loop-i-init
loop-i-init c = needs_none c.args.facts.now c.new-all.result.items c.new-all.ensures.items

pub loop-i-preserved : goal.loop-i-preserved
loop-i-preserved c r = needs_more c.args.facts.now c.loop-i.i c.loop-i.all.items c.push_needs.new.out.items r (c.loop-i.invariant r) (c.in_ok-push_needs.ensures r)

pub returns : goal.returns
returns c r =
    let same = c.processes-i-end.ensures ∙ ap (λ (d : Parts). d.processes) c.design.ensures in
    needs_all c.args.facts.now c.maps.ensures c.loop-i.i c.loop-i.all.items (subst (λ (l : List Process). length l ≤ c.loop-i.i) same c.loop-i-test.false)
    (subst (λ (l : List Process). c.loop-i.i ≤ length l) same c.loop-i.auto.i-end) r (c.loop-i.invariant r)
