use Rattle.vs_maps.specs.declared.sites.Site.{Site}
use Rattle.vs_maps.proofs.SiteLemmas.{keep_more, keep_all, keep_not}
use Rattle.vs_slots.specs.Settings.{IsSetAt, IsWriteOf}
use Rattle.vs_slots.proofs.settings.are_set_to.Goals as goal

pub loop-site-preserved : goal.loop-site-preserved
loop-site-preserved c =
    keep_more (λ (s : Site). IsWriteOf c.args.j s → IsSetAt c.args.tables.now c.args.v c.args.digit s) c.args.sites.now c.loop-site.site-index _ c.loop-site.invariant c.loop-site-test.true
    (c.in_ok-is_set_to.ensures.0 c.if-not-branch.false)

pub returns-then-not-branch : goal.returns-then-not-branch
returns-then-not-branch c =
    keep_not (λ (s : Site). IsWriteOf c.args.j s → IsSetAt c.args.tables.now c.args.v c.args.digit s) c.args.sites.now c.loop-site.site-index _ c.loop-site-test.true
    (λ h. let e = c.if-not-branch.true in let f = c.in_ok-is_set_to.ensures.1 h in absurd (cc))

pub returns : goal.returns
returns c =
    keep_all (λ (s : Site). IsWriteOf c.args.j s → IsSetAt c.args.tables.now c.args.v c.args.digit s) c.args.sites.now c.loop-site.site-index c.loop-site-test.false c.loop-site.invariant
