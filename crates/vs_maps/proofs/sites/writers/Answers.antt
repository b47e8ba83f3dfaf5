use Rattle.std.proofs.Common.{◌+◌, ℕ, sym, ap, ◌∙◌, subst}
use Rattle.std.specs.declared.vec.Vec.{Vec}
use Rattle.std.specs.declared.alloc.Global.{Global}
use Rattle.vs_maps.specs.Sites.{IsWrite}
use Rattle.vs_maps.specs.declared.sites.Site.{Site}
use Rattle.vs_maps.proofs.SiteLemmas.{PickedBelow, none_picked, one_picked, one_passed, all_picked}
use Rattle.vs_maps.proofs.sites.writers.Goals as goal
use Rattle.vs_maps.proofs.sites.writers.Goals.{then-is_write+in_ok-push, else-is_write}

abbrev Wanted : Site → Type 0
Wanted s = IsWrite s.usage

pub loop-site-init : goal.loop-site-init
loop-site-init c = none_picked Wanted (λ (s : Site). s.process) c.args.sites.now c.new-all.result.items c.new-all.ensures.items

pub loop-site-preserved : goal.loop-site-preserved
loop-site-preserved c =
    elim c.if-is_write.branch [
      | then-is_write+in_ok-push w ↦
          one_picked Wanted (λ (s : Site). s.process) c.args.sites.now c.loop-site.site-index _ c.loop-site.all.items c.if-is_write.all.items c.loop-site.invariant c.loop-site-test.true
          (c.is_write.ensures.0 w.if-is_write.true) (ap (λ (o : Vec ℕ Global). o.items) w.all-is ∙ w.in_ok-push.ensures.items)
      | else-is_write w ↦
          subst (λ (o : Vec ℕ Global). PickedBelow Wanted (λ (s : Site). s.process) c.args.sites.now (c.loop-site.site-index + 1) o.items) (sym w.all-is)
          (one_passed Wanted (λ (s : Site). s.process) c.args.sites.now c.loop-site.site-index _ c.loop-site.all.items c.loop-site.invariant c.loop-site-test.true
          (λ h. let f = sym w.if-is_write.false ∙ c.is_write.ensures.1 h in absurd (cc)))
    ]

pub returns : goal.returns
returns c i =
    let all = all_picked Wanted (λ (s : Site). s.process) c.args.sites.now c.loop-site.site-index c.loop-site.all.items c.loop-site-test.false c.loop-site.invariant i in
    (λ h. let y = all.0 h in (y.0, y.1, y.3, y.2), λ y. all.1 (y.0, y.1, y.3, y.2))
