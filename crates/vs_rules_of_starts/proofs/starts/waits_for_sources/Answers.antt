use Rattle.std.proofs.Common.{◌↔◌, IsTrue, List, sym, subst, ap, ◌∙◌}
use Rattle.vs_design.specs.declared.design.Process.{Process}
use Rattle.vs_design.specs.declared.range.BitRange.{BitRange}
use Rattle.vs_design.specs.declared.statement.EventTerm.{EventTerm}
use Rattle.vs_design.specs.Parts.{Parts}
use Rattle.vs_drivers.specs.vs_process.specs.Writes.{statement_writes}
use Rattle.vs_rules_of_starts.proofs.ColdLemmas.{process_at}
use Rattle.vs_rules_of_starts.specs.Starts.{AreFine}
use Rattle.vs_rules_of_starts.proofs.StartLemmas.{sources_are}
use Rattle.vs_rules_of_starts.proofs.starts.waits_for_sources.Goals as goal

pub returns : goal.returns
returns c =
    let d = c.args.facts.now.design in
    let claims = c.args.facts.now.claims in
    let q = c.index-processes-i.result in
    sources_are d claims c.args.i q
    (process_at d.processes c.processes.result.now c.args.i q (c.processes.ensures ∙ ap (λ (p : Parts). p.processes) c.design.ensures) c.requires.within c.index-processes-i.is)
    c.in_ok-terms.terms.items c.in_ok-terms.ensures c.in_ok-written.written.items
    (c.in_ok-written.ensures ∙ ap (λ (x : Process). statement_writes x.body) (sym c.index-processes-i.is)) c.are_fine.result
    (subst (λ (l : List EventTerm). (IsTrue c.are_fine.result ↔ AreFine d claims c.in_ok-written.written.items l)) c.deref-2.ensures.value
    (subst (λ (l : List BitRange). (IsTrue c.are_fine.result ↔ AreFine d claims l c.deref-2.result.now)) c.deref.ensures.value c.are_fine.ensures))
