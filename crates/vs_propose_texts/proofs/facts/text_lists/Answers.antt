use Rattle.std.proofs.Common.{sym, ◌∙◌, ap}
use Rattle.vs_design.specs.declared.design.Process.{Process}
use Rattle.vs_propose_texts.proofs.Numbered.{counted_in}
use Rattle.vs_propose_texts.proofs.facts.text_lists.Goals as goal

pub lists_by-requires : goal.lists_by-requires
lists_by-requires c =
    counted_in c.args.design.now c.is_well_formed.ensures c.processes.result.now c.processes.ensures c.args.i c.requires c.index-processes-i.result c.index-processes-i.is
    c.in_ok-code.code (c.in_ok-code.ensures ∙ ap (λ (x : Process). x.body) (sym c.index-processes-i.is))
