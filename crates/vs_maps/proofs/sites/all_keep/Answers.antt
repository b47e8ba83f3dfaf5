use Rattle.std.proofs.Common.{◌≡◌, refl}
use Rattle.vs_maps.specs.declared.sites.Site.{Site}
use Rattle.vs_maps.proofs.SiteLemmas.{keep_more, keep_all, keep_not}
use Rattle.vs_maps.proofs.sites.all_keep.Goals as goal

pub loop-site-preserved : goal.loop-site-preserved
loop-site-preserved g c =
    keep_more (λ (s : Site). s.usage ≡ c.args.usage → g.R.SiteRule.keeps c.args.rule.now s.process s.place) c.args.sites.now c.loop-site.site-index _ c.loop-site.invariant c.loop-site-test.true
    (c.if-not-keeps.ensures.0 refl)

pub returns-then-not-keeps : goal.returns-then-not-keeps
returns-then-not-keeps g c =
    keep_not (λ (s : Site). s.usage ≡ c.args.usage → g.R.SiteRule.keeps c.args.rule.now s.process s.place) c.args.sites.now c.loop-site.site-index _ c.loop-site-test.true
    (λ h. let f = c.if-not-keeps.ensures.1 h in absurd (cc))

pub returns : goal.returns
returns g c =
    keep_all (λ (s : Site). s.usage ≡ c.args.usage → g.R.SiteRule.keeps c.args.rule.now s.process s.place) c.args.sites.now c.loop-site.site-index c.loop-site-test.false c.loop-site.invariant
