use Rattle.std.proofs.Common.{◌∙◌, sym}
use Rattle.vs_drivers.specs.vs_maps.specs.declared.sites.Site.{Site}
use Rattle.vs_drivers.specs.vs_maps.proofs.SiteLemmas.{keep_more, keep_all, keep_not}
use Rattle.vs_cert_roots.specs.First.{WakesSite}
use Rattle.vs_cert_roots.proofs.entries.none_wakes.Goals as goal

pub loop-site-preserved : goal.loop-site-preserved
loop-site-preserved c =
    keep_more (λ (s : Site). WakesSite c.args.facts.now c.args.digit c.args.except s → ⊥) c.args.sites.now c.loop-site.site-index _ c.loop-site.invariant c.loop-site-test.true
    (λ h. let f = sym c.if-wakes.false ∙ c.wakes.ensures.1 h in absurd (cc))

pub returns-then-wakes : goal.returns-then-wakes
returns-then-wakes c =
    keep_not (λ (s : Site). WakesSite c.args.facts.now c.args.digit c.args.except s → ⊥) c.args.sites.now c.loop-site.site-index _ c.loop-site-test.true (λ none. none (c.wakes.ensures.0 c.if-wakes.true))

pub returns : goal.returns
returns c =
    keep_all (λ (s : Site). WakesSite c.args.facts.now c.args.digit c.args.except s → ⊥) c.args.sites.now c.loop-site.site-index c.loop-site-test.false c.loop-site.invariant
