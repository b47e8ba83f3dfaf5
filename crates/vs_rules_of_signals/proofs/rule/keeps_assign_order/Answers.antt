use Rattle.std.proofs.Common.{◌∙◌, ap, arith}
use Rattle.vs_design.specs.Parts.{Parts}
use Rattle.vs_rules_of_signals.proofs.OrderLemmas.{assign_kept}
use Rattle.vs_rules_of_signals.proofs.rule.keeps_assign_order.Goals as goal

pub returns : goal.returns
returns c = record {
  exact =
      assign_kept c.args.facts.now.design c.args.facts.now.claims c.args.j c.assigns-assigns.result.now c.index-assigns-j.result c.in_ok-read.read.items
      (c.assigns-assigns.ensures ∙ ap (λ (d : Parts). d.assigns) c.design.ensures) (omega arith) c.index-assigns-j.is
      c.in_ok-read.ensures c.in_ok-keeps.keeps c.in_ok-keeps.ensures;
}
