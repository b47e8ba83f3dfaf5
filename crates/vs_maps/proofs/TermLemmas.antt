-- The event terms of processes, and the sites that wait for them.
use Rattle.std.proofs.Common.{◌≡◌, ℕ, ◌<◌, ◌≤◌, ◌⊎◌, ◌↔◌, inl, inr, Bool, true, Some, List, length, slice_get, refl, sym, subst, arith}
use Rattle.std.specs.List.{list_any}
use Rattle.std.proofs.lemmas.Bool.{false≢true}
use Rattle.std.proofs.lemmas.List.Folds.{Any-from_list_any, list_any-from_Any}
use Rattle.std.proofs.lemmas.Option.{slice_get_within}
use Rattle.vs_design.specs.vs_logic4.proofs.Basics.{there}
use Rattle.vs_design.specs.vs_logic4.specs.declared.edge.Edge.{Edge}
use Rattle.vs_design.specs.declared.design.Process.{Process}
use Rattle.vs_design.specs.declared.statement.EventTerm.{EventTerm}
use Rattle.vs_design.specs.Parts.{Parts}
use Rattle.vs_process.specs.Stops.{IsText}
use Rattle.vs_process.specs.Steps.{wait}
use Rattle.vs_rules.specs.Paths.{HasTerm}
use Rattle.vs_rules.proofs.Past.{past_points, end_next}
use Rattle.vs_maps.specs.Ranges.{HasTermAt}
use Rattle.vs_maps.specs.Reaches.{Chart}
use Rattle.vs_maps.specs.Sites.{IsSite, UsesAt, waiting_of, waits_by}
use Rattle.vs_maps.specs.Texts.{AreCharts}
use Rattle.vs_maps.specs.declared.sites.Site.{Site}
use Rattle.vs_maps.specs.declared.sites.Use.{Use}
use Rattle.vs_maps.specs.declared.sites.Use.TheVariants.{Now, Later, Reads, Shows, Waits}
use Rattle.vs_maps.proofs.EachWalk.{terms_exact}
use Rattle.vs_maps.proofs.SiteLemmas.{AreSitesOf}

-- the process of a chart
pub record HasChart (d : Parts) (i : ℕ) (t : Chart) : Type 0 where
  pub process : Process
  pub is : slice_get d.processes i ≡ Some process
  pub text : IsText process.body t.stops t.start

pub chart_is : (d : Parts) (charts : List Chart) → AreCharts d charts → (i : ℕ) (t : Chart) → slice_get charts i ≡ Some t → HasChart d i t
chart_is d charts are i t at =
    let p = there d.processes i (subst (λ (n : ℕ). i < n) are.as_many (slice_get_within charts i t at)) in
    record { process = p.0; is = p.1; text = are.each i p.0 t p.1 at }

pub terms_at : (d : Parts) (charts : List Chart) → AreCharts d charts → (i : ℕ) (t : Chart) → slice_get charts i ≡ Some t → (term : EventTerm) → (HasTermAt t term ↔ HasTerm d i term)
terms_at d charts are i t at term = let h = chart_is d charts are i t at in terms_exact d i h.process t.stops t.start h.text h.is term

-- past the end there is none
pub no_terms : (d : Parts) (i : ℕ) → length d.processes ≤ i → (term : EventTerm) → HasTerm d i term → ⊥
no_terms d i past term h =
    let e = end_next h.control (wait h.number h.terms h.behind) (past_points d i h.control past h.point) h.goes in
    cc

-- a term of a process that is of the signal and passes a test
pub record HasTermSo (d : Parts) (v : ℕ) (test : Edge → Bool) : Type 0 where
  pub process : ℕ
  pub term : EventTerm
  pub has : HasTerm d process term
  pub of : term.range.signal ≡ v
  pub passes : test term.edge ≡ true

-- what a site waits for is one
waits_so : (d : Parts) (charts : List Chart) → AreCharts d charts → (v : ℕ) (test : Edge → Bool) (s : Site) (u : Use) → s.usage ≡ u → IsSite charts s → s.range.signal ≡ v → waits_by test u ≡ true →
    HasTermSo d v test
waits_so d charts maps v test s (Waits edge) e is of h =
    let x : EventTerm = record { range = s.range; edge = edge } in
    let uses = subst (λ (u : Use). UsesAt is.chart s.place u s.range) e is.uses in
    record { process = s.process; term = x; has = (terms_at d charts maps s.process is.chart is.is x).0 (s.place, is.point, uses); of = of; passes = h }
waits_so d charts maps v test s Now e is of h = absurd (false≢true h)
waits_so d charts maps v test s Later e is of h = absurd (false≢true h)
waits_so d charts maps v test s Reads e is of h = absurd (false≢true h)
waits_so d charts maps v test s Shows e is of h = absurd (false≢true h)

-- there is such a term where one of the sites of the signal waits so
pub terms_so : (d : Parts) (charts : List Chart) → AreCharts d charts → (v : ℕ) (sites : List Site) → AreSitesOf charts v sites → (test : Edge → Bool) →
    (list_any (λ (s : Site). waits_by test s.usage) sites ≡ true ↔ HasTermSo d v test)
terms_so d charts maps v sites are test = (
  λ h.
      let y = Any-from_list_any (λ (s : Site). waits_by test s.usage) sites h in
      let c = (are y.1).0 (y.0, y.2, y.3) in
      waits_so d charts maps v test y.1 y.1.usage refl c.0 c.1 y.4,
  λ h. back h (cases h.process (length d.processes)),
) where
  cases : (a b : ℕ) → (a < b) ⊎ (b ≤ a)
  cases a b = grind arith

  back : (h : HasTermSo d v test) → (h.process < length d.processes) ⊎ (length d.processes ≤ h.process) → list_any (λ (s : Site). waits_by test s.usage) sites ≡ true
  back h (inl l) =
      let t = there charts h.process (subst (λ (n : ℕ). h.process < n) (sym maps.as_many) l) in
      let y = (terms_at d charts maps h.process t.0 t.1 h.term).1 h.has in
      let site = waiting_of h.process y.0 h.term in
      let c = (are site).1 (record { chart = t.0; is = t.1; point = y.1; uses = y.2 }, h.of) in
      list_any-from_Any (λ (s : Site). waits_by test s.usage) sites (c.0, site, c.1, c.2, h.passes)
  back h (inr past) = absurd (no_terms d h.process past h.term h.has)
