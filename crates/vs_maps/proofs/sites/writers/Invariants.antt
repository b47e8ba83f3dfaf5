use Rattle.vs_maps.specs.Sites.{IsWrite}
use Rattle.vs_maps.specs.declared.sites.Site.{Site}
use Rattle.vs_maps.proofs.SiteLemmas.{PickedBelow}
use Rattle.vs_maps.proofs.sites.writers.Given as goal

abbrev pub invariant-loop-site : goal.invariant-loop-site
invariant-loop-site l = PickedBelow (λ (s : Site). IsWrite s.usage) (λ (s : Site). s.process) l.sites l.site-index l.all.items
