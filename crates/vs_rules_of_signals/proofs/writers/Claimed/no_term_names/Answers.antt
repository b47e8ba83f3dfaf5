use Rattle.std.proofs.Common.{◌<◌, inl, inr, not, true, length, refl, sym, ◌∙◌, ap, subst}
use Rattle.std.proofs.lemmas.Bool.{cases_Bool, false≢true}
use Rattle.vs_maps.specs.Texts.{Texts}
use Rattle.vs_maps.proofs.SiteLemmas.{AreSitesOf}
use Rattle.vs_maps.proofs.TermLemmas.{terms_so}
use Rattle.vs_rules_of_signals.proofs.writers.Claimed.no_term_names.Goals as goal

pub of_signal-requires : goal.of_signal-requires
of_signal-requires c = subst (λ (x : Texts). c.args.v < length x.design.signals) (sym c.sites.ensures) c.requires

pub returns : goal.returns
returns c =
    let x = c.args.self.now.facts.now in
    let are = subst (λ (y : Texts). AreSitesOf y.charts c.args.v c.of_signal.result.now) c.sites.ensures c.of_signal.ensures in
    let so = terms_so x.design x.charts c.maps.ensures c.args.v c.of_signal.result.now are (λ edge. true) in (
      λ told j t has of.
          let waits = so.1 (record { process = j; term = t; has = has; of = of; passes = refl }) in
          absurd (false≢true (sym (ap not (c.any_waits.ensures ∙ waits)) ∙ told)),
      λ none. elim (cases_Bool c.any_waits.result) [
        | inl hit ↦ let y = so.0 (sym c.any_waits.ensures ∙ hit) in absurd (none y.process y.term y.has y.of)
        | inr miss ↦ ap not miss
      ],
    )
