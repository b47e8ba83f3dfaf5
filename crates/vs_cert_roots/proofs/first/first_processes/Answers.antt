use Rattle.std.proofs.Common.{◌+◌, ℕ, sym, ap, ◌∙◌, subst}
use Rattle.std.specs.declared.vec.Vec.{Vec}
use Rattle.std.specs.declared.alloc.Global.{Global}
use Rattle.vs_rules.specs.Claims.{is_wide}
use Rattle.vs_drivers.specs.vs_maps.proofs.SiteLemmas.{PickedBelow, none_picked, one_picked, one_passed, all_picked}
use Rattle.vs_drivers.specs.vs_maps.specs.declared.sites.Site.{Site}
use Rattle.vs_cert_roots.specs.First.{IsFirst}
use Rattle.vs_cert_roots.proofs.first.first_processes.Goals as goal
use Rattle.vs_cert_roots.proofs.first.first_processes.Goals.{then-is_first+in_ok-push, else-is_first}

pub loop-site-init : goal.loop-site-init
loop-site-init c = none_picked (λ (s : Site). IsFirst (is_wide c.args.facts.now.claims) c.args.facts.now.charts s) (λ (s : Site). s.process) c.args.sites.now c.new-all.result.items c.new-all.ensures.items

pub loop-site-preserved : goal.loop-site-preserved
loop-site-preserved c =
    elim c.if-is_first.branch [
      | then-is_first+in_ok-push w ↦
          one_picked (λ (s : Site). IsFirst (is_wide c.args.facts.now.claims) c.args.facts.now.charts s) (λ (s : Site). s.process) c.args.sites.now c.loop-site.site-index _ c.loop-site.all.items c.if-is_first.all.items c.loop-site.invariant c.loop-site-test.true
          (c.is_first.ensures.0 w.if-is_first.true) (ap (λ (o : Vec ℕ Global). o.items) w.all-is ∙ w.in_ok-push.ensures.items)
      | else-is_first w ↦
          subst (λ (o : Vec ℕ Global). PickedBelow (λ (s : Site). IsFirst (is_wide c.args.facts.now.claims) c.args.facts.now.charts s) (λ (s : Site). s.process) c.args.sites.now (c.loop-site.site-index + 1) o.items) (sym w.all-is)
          (one_passed (λ (s : Site). IsFirst (is_wide c.args.facts.now.claims) c.args.facts.now.charts s) (λ (s : Site). s.process) c.args.sites.now c.loop-site.site-index _ c.loop-site.all.items c.loop-site.invariant c.loop-site-test.true
          (λ h. let f = sym w.if-is_first.false ∙ c.is_first.ensures.1 h in absurd (cc)))
    ]

pub returns : goal.returns
returns c x = all_picked (λ (s : Site). IsFirst (is_wide c.args.facts.now.claims) c.args.facts.now.charts s) (λ (s : Site). s.process) c.args.sites.now c.loop-site.site-index c.loop-site.all.items c.loop-site-test.false c.loop-site.invariant x
