use Rattle.std.proofs.Common.{◌≤◌, List, length, ◌∙◌, ap, subst}
use Rattle.vs_design.specs.declared.design.Process.{Process}
use Rattle.vs_design.specs.Parts.{Parts}
use Rattle.vs_rules_of_starts.proofs.StartLemmas.{no_needs_yet, needs_more, needs_all}
use Rattle.vs_rules_of_starts.proofs.apart.all_needs.Goals as goal

pub loop-i-init : goal.loop-i-init
loop-i-init c = no_needs_yet c.args.facts.now.design c.args.facts.now.claims c.new-all.result.items c.new-all.ensures.items

pub loop-i-preserved : goal.loop-i-preserved
loop-i-preserved c =
    needs_more c.args.facts.now.design c.args.facts.now.claims c.loop-i.i c.loop-i.all.items c.push_needs.new.out.items c.loop-i.invariant c.in_ok-push_needs.ensures

pub returns : goal.returns
returns c =
    let same = c.processes-i-end.ensures ∙ ap (λ (d : Parts). d.processes) c.design.ensures in
    needs_all c.args.facts.now.design c.args.facts.now.claims c.loop-i.i c.loop-i.all.items (subst (λ (l : List Process). length l ≤ c.loop-i.i) same c.loop-i-test.false) c.loop-i.invariant
