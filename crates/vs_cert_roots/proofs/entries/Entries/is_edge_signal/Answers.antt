use Rattle.std.proofs.Common.{◌<◌, length, sym, ◌∙◌, subst}
use Rattle.vs_drivers.specs.vs_maps.proofs.SiteLemmas.{AreSitesOf}
use Rattle.vs_drivers.specs.vs_maps.specs.Texts.{Texts}
use Rattle.vs_rules_of_signals.specs.vs_claims.specs.Facts.{AreCharts, Case}
use Rattle.vs_cert_roots.proofs.TermLemmas.{edge_signal}
use Rattle.vs_cert_roots.proofs.entries.Entries.is_edge_signal.Goals as goal

pub of_signal-requires : goal.of_signal-requires
of_signal-requires c =
    subst (λ (x : Texts). c.args.v < length x.design.signals) (sym c.sites.ensures) (subst (λ (k : Case). c.args.v < length k.design.signals) (sym c.facts-facts.ensures) c.requires)

pub returns : goal.returns
returns c =
    let K = c.args.self.now in
    let maps = subst (λ (k : Case). AreCharts k.design k.charts) c.facts-facts.ensures c.maps.ensures in
    let G = subst (λ (x : Texts). AreSitesOf x.charts c.args.v c.of_signal.result.now) c.sites.ensures c.of_signal.ensures in
    let are = subst (λ (k : Case). AreSitesOf k.charts c.args.v c.of_signal.result.now) c.facts-facts.ensures G in
    let l = edge_signal K.design K.charts maps c.args.v c.of_signal.result.now are in
    (λ t. l.0 (sym c.any_waits.ensures ∙ t), λ h. c.any_waits.ensures ∙ l.1 h)
