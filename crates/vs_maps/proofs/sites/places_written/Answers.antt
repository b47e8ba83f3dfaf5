use Rattle.std.proofs.Common.{◌≡◌, ◌+◌, ℕ, sym, ap, ◌∙◌, subst}
use Rattle.std.specs.declared.vec.Vec.{Vec}
use Rattle.std.specs.declared.alloc.Global.{Global}
use Rattle.vs_maps.specs.Sites.{IsWrite}
use Rattle.vs_maps.specs.declared.sites.Site.{Site}
use Rattle.vs_maps.proofs.SiteLemmas.{PickedBelow, none_picked, one_picked, one_passed, all_picked}
use Rattle.vs_maps.proofs.sites.places_written.Goals as goal
use Rattle.vs_maps.proofs.sites.places_written.Goals.{then-is_write_of+in_ok-push, else-is_write_of}

-- a write of the process
abbrev Wanted : ℕ → Site → Type 0
Wanted process s = (s.process ≡ process) × IsWrite s.usage

pub loop-site-init : goal.loop-site-init
loop-site-init c = none_picked (Wanted c.args.process) (λ (s : Site). s.place) c.args.sites.now c.new-all.result.items c.new-all.ensures.items

pub loop-site-preserved : goal.loop-site-preserved
loop-site-preserved c =
    elim c.if-is_write_of.branch [
      | then-is_write_of+in_ok-push w ↦
          one_picked (Wanted c.args.process) (λ (s : Site). s.place) c.args.sites.now c.loop-site.site-index _ c.loop-site.all.items c.if-is_write_of.all.items c.loop-site.invariant c.loop-site-test.true
          (c.is_write_of.ensures.0 w.if-is_write_of.true) (ap (λ (o : Vec ℕ Global). o.items) w.all-is ∙ w.in_ok-push.ensures.items)
      | else-is_write_of w ↦
          subst (λ (o : Vec ℕ Global). PickedBelow (Wanted c.args.process) (λ (s : Site). s.place) c.args.sites.now (c.loop-site.site-index + 1) o.items) (sym w.all-is)
          (one_passed (Wanted c.args.process) (λ (s : Site). s.place) c.args.sites.now c.loop-site.site-index _ c.loop-site.all.items c.loop-site.invariant c.loop-site-test.true
          (λ h. let f = sym w.if-is_write_of.false ∙ c.is_write_of.ensures.1 h in absurd (cc)))
    ]

pub returns : goal.returns
returns c p =
    let all = all_picked (Wanted c.args.process) (λ (s : Site). s.place) c.args.sites.now c.loop-site.site-index c.loop-site.all.items c.loop-site-test.false c.loop-site.invariant p in
    (λ h. let y = all.0 h in (y.0, y.1, y.2.0, y.3, y.2.1), λ y. all.1 (y.0, y.1, (y.2, y.4), y.3))
