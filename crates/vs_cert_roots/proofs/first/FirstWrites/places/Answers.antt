use Rattle.std.proofs.Common.{◌≡◌, ◌<◌, ◌↔◌, ℕ, Some, length, slice_get, sym, ◌∙◌, subst}
use Rattle.std.specs.List.{Contains}
use Rattle.vs_rules.specs.Claims.{is_wide}
use Rattle.vs_drivers.specs.vs_maps.specs.Reaches.{Chart}
use Rattle.vs_drivers.specs.vs_maps.specs.Texts.{Texts}
use Rattle.vs_drivers.specs.vs_maps.proofs.SiteLemmas.{AreSitesOf}
use Rattle.vs_rules_of_signals.specs.vs_claims.specs.Facts.{Case}
use Rattle.vs_cert_roots.specs.First.{SiteAt}
use Rattle.vs_cert_roots.proofs.FirstRows.{places_are}
use Rattle.vs_cert_roots.proofs.first.FirstWrites.places.Goals as goal

pub of_signal-requires : goal.of_signal-requires
of_signal-requires c =
    let F : c.facts-facts.result.now ≡ c.args.self.now = c.facts-facts.ensures ∙ c.self.view_is in
    subst (λ (x : Texts). c.args.v < length x.design.signals) (sym c.sites.ensures) (subst (λ (k : Case). c.args.v < length k.design.signals) (sym F) c.requires)

pub returns : goal.returns
returns c =
    let G = c.facts-facts.result.now in
    let F : G ≡ c.args.self.now = c.facts-facts.ensures ∙ c.self.view_is in
    let sites = subst (λ (x : Texts). AreSitesOf x.charts c.args.v c.of_signal.result.now) c.sites.ensures c.of_signal.ensures in
    subst (λ (k : Case). (t : Chart) → slice_get k.charts c.args.process ≡ Some t → (p : ℕ) → (Contains c.in_ok-all.all.items p ↔ SiteAt (is_wide k.claims) t c.args.v p)) F
    (λ t at p.
    let l = places_are (is_wide G.claims) G.charts c.args.v c.args.process c.of_signal.result.now sites t at p in
    let e = c.in_ok-all.ensures p in
    (λ h. l.0 (e.0 h), λ h. e.1 (l.1 h)))
