use Rattle.std.proofs.Common.{◌+◌, sym, subst, ◌∙◌, arith}
use Rattle.std.proofs.lemmas.Bool.{false≢true}
use Rattle.std.specs.declared.vec.Vec.{Vec}
use Rattle.std.specs.declared.alloc.Global.{Global}
use Rattle.vs_maps.specs.declared.sites.Site.{Site}
use Rattle.vs_maps.proofs.SiteLemmas.{HaveSites, no_site_yet, one_place, no_place, all_places}
use Rattle.vs_maps.proofs.sites.sites_of.Goals as goal
use Rattle.vs_maps.proofs.sites.sites_of.Goals.{then-is_point+in_ok-push_place, else-is_point}

pub loop-place-init : goal.loop-place-init
loop-place-init c = no_site_yet c.new-all.result.items c.args.process c.args.tables.now c.new-all.ensures.items

pub loop-place-preserved : goal.loop-place-preserved
loop-place-preserved c =
    let t = c.args.tables.now in
    let i = c.args.process in
    let p = c.loop-place.place in
    elim c.if-is_point.branch [
      | then-is_point+in_ok-push_place w ↦ subst (λ (v : Vec Site Global). HaveSites v.items i t (p + 1)) (sym w.all-is)
          (one_place c.loop-place.all.items w.push_place.new.sites.items i p t c.loop-place.invariant (c.is_point.ensures.0 w.if-is_point.true) w.in_ok-push_place.ensures)
      | else-is_point w ↦ subst (λ (v : Vec Site Global). HaveSites v.items i t (p + 1)) (sym w.all-is)
          (no_place c.loop-place.all.items i p t c.loop-place.invariant (λ h. false≢true (sym w.if-is_point.false ∙ c.is_point.ensures.1 h)))
    ]

pub returns : goal.returns
returns c =
    all_places c.loop-place.all.items c.args.process c.loop-place.place c.args.tables.now
    (λ p h. let l = c.leads_in.ensures.points p h in omega (arith, l, c.places-place-end.ensures, c.loop-place-test.false)) c.loop-place.invariant
