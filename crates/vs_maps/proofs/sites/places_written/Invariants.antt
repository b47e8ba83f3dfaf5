use Rattle.std.proofs.Common.{◌≡◌}
use Rattle.vs_maps.specs.Sites.{IsWrite}
use Rattle.vs_maps.specs.declared.sites.Site.{Site}
use Rattle.vs_maps.proofs.SiteLemmas.{PickedBelow}
use Rattle.vs_maps.proofs.sites.places_written.Given as goal

abbrev pub invariant-loop-site : goal.invariant-loop-site
invariant-loop-site l = PickedBelow (λ (s : Site). (s.process ≡ l.process) × IsWrite s.usage) (λ (s : Site). s.place) l.sites l.site-index l.all.items
