use Rattle.std.proofs.Common.{◌<◌, length, sym, subst}
use Rattle.vs_drivers.specs.vs_maps.proofs.SiteLemmas.{AreSitesOf}
use Rattle.vs_drivers.specs.vs_maps.specs.Texts.{Texts}
use Rattle.vs_rules_of_signals.specs.vs_claims.specs.Facts.{AreCharts, Case}
use Rattle.vs_cert_roots.proofs.TermLemmas.{calm_is, IsNone}
use Rattle.vs_cert_roots.proofs.entries.Entries.is_calm.Goals as goal

pub of_signal-requires : goal.of_signal-requires
of_signal-requires c =
    subst (λ (x : Texts). c.args.v < length x.design.signals) (sym c.sites.ensures) (subst (λ (k : Case). c.args.v < length k.design.signals) (sym c.facts-facts.ensures) c.requires)

pub returns : goal.returns
returns c =
    let K = c.args.self.now in
    let maps = subst (λ (k : Case). AreCharts k.design k.charts) c.facts-facts.ensures c.maps.ensures in
    let G = subst (λ (x : Texts). AreSitesOf x.charts c.args.v c.of_signal.result.now) c.sites.ensures c.of_signal.ensures in
    let are = subst (λ (k : Case). AreSitesOf k.charts c.args.v c.of_signal.result.now) c.facts-facts.ensures G in
    calm_is K maps c.args.v c.args.digit c.args.except c.of_signal.result.now are c.none_wakes.result (subst (λ (k : Case). IsNone k c.args.digit c.args.except c.of_signal.result.now c.none_wakes.result) c.facts-facts.ensures c.none_wakes.ensures)
