use Rattle.std.proofs.Common.{ℕ, ◌≡◌, ◌<◌, get_or}
use Rattle.vs_maps.specs.declared.sites.Site.{Site}
use Rattle.vs_maps.specs.declared.sites.Use.TheVariants.{Now}
use Rattle.vs_maps.proofs.sites.any_now.Given as goal

abbrev pub invariant-loop-site : goal.invariant-loop-site
invariant-loop-site l = (k : ℕ) (s : Site) → k < l.site-index → get_or l.sites k s ≡ s → s.usage ≡ Now → ⊥
