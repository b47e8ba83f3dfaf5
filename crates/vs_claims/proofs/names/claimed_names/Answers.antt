use Rattle.std.proofs.Common.{◌∙◌, ap, map}
use Rattle.vs_claims.specs.vs_rules.specs.Certificates.{name_from}
use Rattle.vs_claims.specs.facts_passes.Kept.{signal_entries, process_entries}
use Rattle.vs_claims.proofs.names.claimed_names.Goals as goal

pub returns : goal.returns
returns c = record {
  order_is = c.in_ok-order.ensures ∙ ap (map name_from) c.deref.ensures.value;
  signals_are = c.in_ok-signals.ensures ∙ ap signal_entries c.deref-2.ensures.value;
  processes_are = c.in_ok-processes.ensures ∙ ap process_entries c.deref-3.ensures.value;
}
