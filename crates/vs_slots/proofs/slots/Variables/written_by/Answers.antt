use Rattle.std.proofs.Common.{◌≡◌, ℕ, ◌<◌, ◌↔◌, Some, length, slice_get, sym, ◌∙◌, subst}
use Rattle.std.specs.List.{Contains}
use Rattle.std.proofs.lemmas.Option.{same_Some}
use Rattle.std.proofs.lemmas.Result.{IfOk-weaker}
use Rattle.vs_claims.specs.vs_maps.specs.Reaches.{Chart, places}
use Rattle.vs_maps.specs.Texts.{Texts}
use Rattle.vs_maps.specs.declared.sites.Site.{Site}
use Rattle.vs_maps.proofs.SiteLemmas.{AreSitesOf}
use Rattle.vs_slots.specs.Kept.{IsPlaceWrite, IsSiteWrite, IsWriteBy}
use Rattle.vs_slots.proofs.KeptLemmas.{each_element}
use Rattle.vs_slots.proofs.SiteLemmas.{site_written}
use Rattle.vs_slots.proofs.slots.Variables.written_by.Goals as goal

pub of_signal-requires : goal.of_signal-requires
of_signal-requires c = subst (λ (x : Texts). c.args.variable < length x.design.signals) (sym c.sites.ensures) c.requires

pub returns-in-Some : goal.returns-in-Some
returns-in-Some c =
    let s = c.args.self.now in
    let f = s.facts.now in
    let t = c.in-Some.tables.now in
    let u = c.args.variable in
    let w = c.args.writer in
    let row = c.of_signal.result.now in
    let at : slice_get f.charts w ≡ Some t = sym c.in-Some.ensures in
    let are = subst (λ (x : Texts). AreSitesOf x.charts u row) c.sites.ensures c.of_signal.ensures in
    let P = λ (q : Site) (r : ℕ). IsSiteWrite s.delays.now s.edges.now w q r in
    IfOk-weaker c.union_of.result
    (λ all. (r : ℕ) → (Contains all.items r ↔ ((j : ℕ) × (j < length row) × ((q : Site) × (slice_get row j ≡ Some q) × P q r))))
    (λ all. (r : ℕ) → (Contains all.items r ↔ IsWriteBy f s.delays.now s.edges.now u w r))
    (λ all h r.
    let each = each_element (λ (q : Site). P q r) row in
    let both = site_written f.charts w u t at c.leads_in.ensures.points row are s.delays.now s.edges.now r in (
      λ x. let e = both.0 (each.0 ((h r).0 x)) in (t, at, (e.0, e.1, e.2)),
      λ y. let e = y.2 in
          let same : y.0 ≡ t = same_Some y.0 t (sym y.1 ∙ at) in
          let write = subst (λ (x : Chart). (e.0 < places x) × IsPlaceWrite s.delays.now s.edges.now x u w e.0 r) same (e.1, e.2) in
          (h r).1 (each.1 (both.1 (e.0, write.0, write.1))),
    ))
    c.union_of.ensures
