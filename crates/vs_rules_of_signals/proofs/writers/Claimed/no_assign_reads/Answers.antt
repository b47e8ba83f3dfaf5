use Rattle.std.proofs.Common.{sym, ◌∙◌, ap}
use Rattle.vs_design.specs.Parts.{Parts}
use Rattle.vs_design.specs.Readers.{readers}
use Rattle.vs_rules_of_signals.proofs.Private.{is_empty, no_readers}
use Rattle.vs_rules_of_signals.proofs.writers.Claimed.no_assign_reads.Goals as goal

pub returns : goal.returns
returns c =
    let same = c.readers.ensures ∙ ap (λ (d : Parts). readers d.assigns c.args.v) c.design.ensures in
    let empty = is_empty c.readers.result.now c.is_empty.result c.is_empty.ensures in
    let none = no_readers c.args.self.now.facts.now.design c.args.v in
    (λ told. none.0 (sym same ∙ empty.0 told), λ all. empty.1 (same ∙ none.1 all))
