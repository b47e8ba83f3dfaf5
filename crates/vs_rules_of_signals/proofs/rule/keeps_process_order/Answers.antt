use Rattle.std.proofs.Common.{◌+◌, List, length, refl, ◌∙◌, ap, arith}
use Rattle.vs_design.specs.declared.design.Assign.{Assign}
use Rattle.vs_design.specs.Parts.{Parts}
use Rattle.vs_rules_of_signals.proofs.OrderLemmas.{block_kept}
use Rattle.vs_rules_of_signals.proofs.rule.keeps_process_order.Goals as goal

pub returns : goal.returns
returns c = record {
  exact =
      block_kept c.args.facts.now.design c.args.facts.now.claims c.args.i (length c.assigns.result.now + c.args.i) c.processes-processes.result.now
      c.index-processes-i.result c.in_ok-read.read.items (c.processes-processes.ensures ∙ ap (λ (d : Parts). d.processes) c.design-design.ensures) (omega arith)
      c.index-processes-i.is c.in_ok-read.ensures
      (ap (λ (l : List Assign). length l + c.args.i) (c.assigns.ensures ∙ ap (λ (d : Parts). d.assigns) c.design-design.ensures))
      (c.if-not-is_block.ensures.0 refl) c.in_ok-keeps.keeps c.in_ok-keeps.ensures;
}
