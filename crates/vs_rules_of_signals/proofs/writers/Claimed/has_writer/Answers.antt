use Rattle.std.proofs.Common.{◌<◌, length, sym, ◌∙◌, subst}
use Rattle.std.proofs.lemmas.Option.{same_Some}
use Rattle.vs_maps.specs.Texts.{Texts}
use Rattle.vs_maps.specs.vs_rules.specs.Paths.{Writes}
use Rattle.vs_maps.proofs.SiteLemmas.{AreSitesOf}
use Rattle.vs_maps.proofs.UseLemmas.{site_writes}
use Rattle.vs_rules_of_signals.proofs.writers.Claimed.has_writer.Goals as goal

pub of_signal-requires : goal.of_signal-requires
of_signal-requires c = subst (λ (x : Texts). c.args.v < length x.design.signals) (sym c.sites.ensures) c.requires

pub returns-in-Some : goal.returns-in-Some
returns-in-Some c =
    let x = c.args.self.now.facts.now in
    let i = c.in-Some.i in
    let are = subst (λ (y : Texts). AreSitesOf y.charts c.args.v c.of_signal.result.now) c.sites.ensures c.of_signal.ensures in
    let both = site_writes x.design x.charts c.maps.ensures c.args.v c.of_signal.result.now are i in (
      λ t. (i, c.in-Some.is, both.0 (c.any_write_of.ensures.0 t)),
      λ y. c.any_write_of.ensures.1 (both.1 (subst (λ j. Writes x.design j c.args.v) (same_Some y.0 i (sym y.1 ∙ c.in-Some.is)) y.2)),
    )
