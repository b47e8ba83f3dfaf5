use Rattle.std.proofs.Common.{◌≡◌, ◌<◌, ℕ, length, sym, ap, ◌∙◌, subst}
use Rattle.vs_drivers.specs.vs_maps.specs.Reaches.{places}
use Rattle.vs_drivers.specs.vs_maps.specs.Walks.{AreMarked, InHot}
use Rattle.vs_cert_roots.proofs.HotLemmas.{marks_keep}
use Rattle.vs_cert_roots.proofs.roots.never_hot_in.Goals as goal

pub returns : goal.returns
returns c =
    let t = c.args.tables.now in
    let M = c.deref.result.now in
    let long : length M ≡ places t = ap length c.deref.ensures.value ∙ c.in_ok-marks.ensures.len in
    let exact = subst (AreMarked (InHot c.args.wide t c.args.v) (places t)) (sym c.deref.ensures.value) c.in_ok-marks.ensures.exact in
    let k = marks_keep c.args.wide t c.args.v M long exact c.leads_in.ensures.points in (
      λ h. k.0 (λ p l. (c.in_ok-all.ensures.0 h) p (subst (λ (n : ℕ). p < n) (sym c.places.ensures) l)),
      λ h. c.in_ok-all.ensures.1 (λ p l. k.1 h p (subst (λ (n : ℕ). p < n) c.places.ensures l)),
    )
