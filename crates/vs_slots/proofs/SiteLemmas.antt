-- At which sites edges of roots fire, and variables are written.
use Rattle.std.proofs.Common.{◌≡◌, ℕ, ◌<◌, ◌↔◌, inl, inr, Option, Some, List, slice_get, refl, sym, ◌∙◌, ap, subst}
use Rattle.std.specs.List.{Contains}
use Rattle.std.proofs.lemmas.Option.{same_Some}
use Rattle.vs_design.specs.vs_logic4.specs.declared.edge.Edge.{Edge}
use Rattle.vs_slots_constants.specs.declared.clocks.Clock.{Clock}
use Rattle.vs_claims.specs.vs_maps.specs.Reaches.{Chart, IsPlace, places}
use Rattle.vs_maps.specs.Sites.{IsSite, IsWrite, UsesAt, site_of}
use Rattle.vs_maps.specs.declared.sites.Site.{Site}
use Rattle.vs_maps.specs.declared.sites.Use.{Use}
use Rattle.vs_maps.specs.declared.sites.Use.TheVariants.{Now, Later}
use Rattle.vs_maps.proofs.SiteLemmas.{AreSitesOf, written_so}
use Rattle.vs_slots.specs.declared.runs.Runs.{Runs}
use Rattle.vs_slots.specs.Firing.{CountsAt, WritesAt}
use Rattle.vs_slots.specs.Kept.{IsPlaceFiring, IsPlaceWrite, IsRunIn, IsSiteFiring, IsSiteWrite}

-- the map of a site's process is that map
pub uses_here : (charts : List Chart) (i : ℕ) (t : Chart) → slice_get charts i ≡ Some t → (s : Site) → IsSite charts s → s.process ≡ i → IsPlace t s.place × UsesAt t s.place s.usage s.range
uses_here charts i t at s is by =
    let same : is.chart ≡ t = same_Some is.chart t (sym is.is ∙ ap (slice_get charts) by ∙ at) in
    (subst (λ (c : Chart). IsPlace c s.place) same is.point, subst (λ (c : Chart). UsesAt c s.place s.usage s.range) same is.uses)

module _ (charts : List Chart) (i v : ℕ) (t : Chart) (at : slice_get charts i ≡ Some t) (inside : (p : ℕ) → IsPlace t p → p < places t) (sites : List Site) (are : AreSitesOf charts v sites) where
  -- a write of the process has a site
  write_site : (p : ℕ) → IsPlace t p → WritesAt t p v → (s : Site) × Contains sites s × (s.process ≡ i) × IsWrite s.usage × (s.place ≡ p)
  write_site p point (inl (r, h, e)) =
      let s = site_of i p Now r in
      (s, (are s).1 (record { chart = t; is = at; point = point; uses = h }, e), refl, tt, refl)
  write_site p point (inr (r, h, e)) =
      let s = site_of i p Later r in
      (s, (are s).1 (record { chart = t; is = at; point = point; uses = h }, e), refl, tt, refl)

  -- an edge fires at a place exactly where it does at a site there
  pub site_fires : (runs : List Runs) (clock : Option Clock) (modulus : ℕ) (edge : Edge) (r : ℕ) →
      (((s : Site) × Contains sites s × IsSiteFiring t runs clock modulus v edge i s r) ↔ ((p : ℕ) × (p < places t) × IsPlaceFiring t runs clock modulus v edge i p r))
  site_fires runs clock modulus edge r = (
    λ y.
        let f = y.2 in
        let is = (are y.0).0 y.1 in
        let here = uses_here charts i t at y.0 is.0 f.0 in
        let within = inside y.0.place here.0 in
        (y.0.place, within, (within, here.0, written_so t y.0.place v y.0.usage y.0.range f.1 here.1 is.1, f.2, f.3, f.4)),
    λ y.
        let f = y.2 in
        let s = write_site y.0 f.1 f.2 in
        let counts = subst (λ (p : ℕ). CountsAt t p v edge) (sym s.4) f.3 in
        (s.0, s.1, (s.2, s.3, counts, subst (λ (p : ℕ). IsRunIn runs i p r) (sym s.4) f.4, f.5)),
  )

  -- a variable is written at a place exactly where it is at a site there
  pub site_written : (waiting fired : List Runs) (r : ℕ) →
      (((s : Site) × Contains sites s × IsSiteWrite waiting fired i s r) ↔ ((p : ℕ) × (p < places t) × IsPlaceWrite waiting fired t v i p r))
  site_written waiting fired r = (
    λ y.
        let is = (are y.0).0 y.1 in
        let here = uses_here charts i t at y.0 is.0 y.2.0 in
        let within = inside y.0.place here.0 in
        let range = subst (λ (u : Use). UsesAt t y.0.place u y.0.range) y.2.1 here.1 in
        (y.0.place, within, (within, here.0, (y.0.range, range, is.1), y.2.2)),
    λ y.
        let w = y.2 in
        let s = site_of i y.0 Now w.2.0 in
        (s, (are s).1 (record { chart = t; is = at; point = w.1; uses = w.2.1 }, w.2.2), (refl, refl, w.3)),
  )
