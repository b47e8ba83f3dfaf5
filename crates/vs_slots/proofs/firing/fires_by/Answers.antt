use Rattle.std.proofs.Common.{◌≡◌, ℕ, ◌<◌, ◌↔◌, Some, length, slice_get, refl, sym, ◌∙◌, subst}
use Rattle.std.specs.List.{Contains}
use Rattle.std.proofs.lemmas.Option.{same_Some}
use Rattle.std.proofs.lemmas.Result.{IfOk-weaker}
use Rattle.vs_claims.specs.vs_maps.specs.Reaches.{Chart, places}
use Rattle.vs_maps.specs.Texts.{Texts}
use Rattle.vs_maps.specs.declared.sites.Site.{Site}
use Rattle.vs_maps.proofs.SiteLemmas.{AreSitesOf}
use Rattle.vs_slots.specs.Kept.{IsFiringBy, IsPlaceFiring, IsSiteFiring}
use Rattle.vs_slots.proofs.KeptLemmas.{each_element}
use Rattle.vs_slots.proofs.SiteLemmas.{site_fires}
use Rattle.vs_slots.proofs.firing.fires_by.Goals as goal

pub of_signal-requires : goal.of_signal-requires
of_signal-requires c = subst (λ (x : Texts). c.args.root < length x.design.signals) (sym c.sites.ensures) c.requires.root

pub returns : goal.returns
returns c =
    let f = c.args.facts.now in
    let s = c.in-Some.tables.now in
    let runs = c.args.runs.now in
    let kind = c.if-not-is_delay.ensures.0 refl in
    let row = c.of_signal.result.now in
    let at : slice_get f.charts c.args.writer ≡ Some s = sym c.in-Some.ensures in
    let are = subst (λ (x : Texts). AreSitesOf x.charts c.args.root row) c.sites.ensures c.of_signal.ensures in
    let P = λ (q : Site) (r : ℕ). IsSiteFiring s runs c.args.clock c.modulus.result c.args.root c.args.edge c.args.writer q r in
    let Q = λ (t : Chart) (m p r : ℕ). (p < places t) × IsPlaceFiring t runs c.args.clock m c.args.root c.args.edge c.args.writer p r in
    IfOk-weaker c.union_of.result
    (λ all. (r : ℕ) → (Contains all.items r ↔ ((j : ℕ) × (j < length row) × ((q : Site) × (slice_get row j ≡ Some q) × P q r))))
    (λ all. (r : ℕ) → (Contains all.items r ↔ IsFiringBy f runs c.args.clock c.args.root c.args.edge c.args.writer r))
    (λ all h r.
    let each = each_element (λ (q : Site). P q r) row in
    let both = site_fires f.charts c.args.writer c.args.root s at c.leads_in.ensures.points row are runs c.args.clock c.modulus.result c.args.edge r in (
      λ x. let e = both.0 (each.0 ((h r).0 x)) in
          let fires = subst (λ (m : ℕ). Q s m e.0 r) c.modulus.ensures (e.1, e.2) in
          (kind, (s, at, (e.0, fires.0, fires.1))),
      λ y. let g = y.1 in
          let e = g.2 in
          let same : g.0 ≡ s = same_Some g.0 s (sym g.1 ∙ at) in
          let fires = subst (λ (m : ℕ). Q s m e.0 r) (sym c.modulus.ensures) (subst (λ (t : Chart). Q t f.claims.modulus e.0 r) same (e.1, e.2)) in
          (h r).1 (each.1 (both.1 (e.0, fires.0, fires.1))),
    ))
    c.union_of.ensures
