use Rattle.std.proofs.Common.{subst}
use Rattle.vs_rules_of_signals.specs.vs_claims.specs.Facts.{AreCharts, Case}
use Rattle.vs_cert_roots.proofs.first.FirstWrites.of.Goals as goal

pub invariant_of-result : goal.invariant_of-result
invariant_of-result c = record {
  maps = subst (λ (k : Case). AreCharts k.design k.charts) c.facts.ensures c.maps.ensures;
  inverted_are = c.requires;
}
