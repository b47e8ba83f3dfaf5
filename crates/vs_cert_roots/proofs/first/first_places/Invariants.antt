use Rattle.std.proofs.Common.{◌≡◌}
use Rattle.vs_rules.specs.Claims.{is_wide}
use Rattle.vs_drivers.specs.vs_maps.proofs.SiteLemmas.{PickedBelow}
use Rattle.vs_drivers.specs.vs_maps.specs.declared.sites.Site.{Site}
use Rattle.vs_cert_roots.specs.First.{IsFirst}
use Rattle.vs_cert_roots.proofs.first.first_places.Given as goal

abbrev pub invariant-loop-site : goal.invariant-loop-site
invariant-loop-site l = PickedBelow (λ (s : Site). (s.process ≡ l.process) × IsFirst (is_wide l.facts.claims) l.facts.charts s) (λ (s : Site). s.place) l.sites l.site-index l.all.items
