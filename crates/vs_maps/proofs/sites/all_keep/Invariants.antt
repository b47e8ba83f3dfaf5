use Rattle.std.proofs.Common.{ℕ, ◌≡◌, ◌<◌, Some, slice_get}
use Rattle.vs_maps.specs.declared.sites.Site.{Site}
use Rattle.vs_maps.proofs.sites.all_keep.Given as goal

abbrev pub invariant-loop-site : goal.invariant-loop-site
invariant-loop-site g l = (k : ℕ) (s : Site) → k < l.site-index → slice_get l.sites k ≡ Some s → s.usage ≡ l.usage → g.R.SiteRule.keeps l.rule s.process s.place
