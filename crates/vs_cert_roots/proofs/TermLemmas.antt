-- The edge terms of processes, and the sites that wait for them.
use Rattle.std.proofs.Common.{◌≡◌, ℕ, ◌<◌, ◌≤◌, ◌⊎◌, ◌↔◌, not, inl, inr, Bool, IsTrue, true, Option, Some, None, List, length, slice_get, refl, sym, ◌∙◌, ap, subst, arith}
use Rattle.std.specs.List.{Contains, list_any}
use Rattle.std.proofs.lemmas.Bool.{and_parts, and_from, false≢true, not-true}
use Rattle.std.proofs.lemmas.Option.{same_Some}
use Rattle.vs_design.specs.vs_logic4.proofs.Basics.{there}
use Rattle.vs_design.specs.declared.statement.EventTerm.{EventTerm}
use Rattle.vs_design.specs.Parts.{Parts}
use Rattle.vs_process.specs.Places.{Todo}
use Rattle.vs_process.specs.Steps.{wait}
use Rattle.vs_process.specs.Ways as ways
use Rattle.vs_process.specs.Ways.{Pause, next_by}
use Rattle.vs_process.specs.Executions.{is_any, is_level}
use Rattle.vs_rules.specs.Claims.{IsWide}
use Rattle.vs_rules.specs.Paths.{IsHeardAtStart, IsSlot0}
use Rattle.vs_rules.specs.Points.{Goes}
use Rattle.vs_rules.specs.Rules.{IsEdgeSignal}
use Rattle.vs_drivers.specs.vs_maps.specs.declared.along.Along.TheVariants.{ZeroTime}
use Rattle.vs_drivers.specs.vs_maps.specs.Reaches.{Chart, InSlot0, pause_at}
use Rattle.vs_drivers.specs.vs_maps.proofs.WalkLemmas.{start_walked}
use Rattle.vs_drivers.specs.vs_maps.specs.Ranges.{pause_terms}
use Rattle.vs_drivers.specs.vs_maps.specs.Sites.{IsSite, UsesAt, waiting_of, waits_by}
use Rattle.vs_drivers.specs.vs_maps.specs.declared.sites.Site.{Site}
use Rattle.vs_drivers.specs.vs_maps.specs.declared.sites.Use.{Use}
use Rattle.vs_drivers.specs.vs_maps.specs.declared.sites.Use.TheVariants.{Now, Later, Reads, Shows, Waits}
use Rattle.vs_drivers.specs.vs_maps.proofs.EachWalk.{terms_in, term_way}
use Rattle.vs_drivers.specs.vs_maps.proofs.SiteLemmas.{AreSitesOf}
use Rattle.vs_drivers.specs.vs_maps.proofs.TermLemmas.{HasChart, chart_is, terms_at, no_terms, terms_so}
use Rattle.vs_drivers.specs.vs_maps.proofs.Texts.{from_back, from_on, step_back, step_on}
use Rattle.vs_rules_of_signals.specs.vs_claims.specs.Facts.{AreCharts, Case}
use Rattle.vs_design.specs.vs_logic4.specs.declared.digit.Digit.{Digit}
use Rattle.vs_design.specs.vs_logic4.specs.declared.digit.Digit.TheVariants.{X}
use Rattle.vs_design.specs.vs_logic4.specs.declared.edge.Edge.{Edge}
use Rattle.vs_design.specs.vs_logic4.specs.Edges.{is_edge}
use Rattle.vs_cert_roots.specs.Entries.{is_from_x, is_proper}
use Rattle.vs_cert_roots.specs.First.{IsAtStart, WakesSignal, WakesSite}

-- where there is no chart there is no process
pub no_chart : (d : Parts) (charts : List Chart) → AreCharts d charts → (i : ℕ) → None ≡ slice_get charts i → length d.processes ≤ i
no_chart d charts are i none = by (cases i (length d.processes)) where
  cases : (a b : ℕ) → (a < b) ⊎ (b ≤ a)
  cases a b = grind arith

  by : (i < length d.processes) ⊎ (length d.processes ≤ i) → length d.processes ≤ i
  by (inl l) =
      let t = there charts i (subst (λ (n : ℕ). i < n) (sym are.as_many) l) in
      let e : None ≡ Some t.0 = none ∙ t.1 in
      cc
  by (inr g) = g

pub edge_signal : (d : Parts) (charts : List Chart) → AreCharts d charts → (v : ℕ) (sites : List Site) → AreSitesOf charts v sites →
    (list_any (λ (s : Site). waits_by is_proper s.usage) sites ≡ true ↔ IsEdgeSignal d v)
edge_signal d charts maps v sites are =
    let f = terms_so d charts maps v sites are is_proper in (
      λ h. let y = f.0 h in record { process = y.process; term = y.term; has = y.has; edge = not-true (is_level y.term) y.passes; of = y.of },
      λ h. f.1 (record { process = h.process; term = h.term; has = h.has; of = h.of; passes = ap not h.edge }),
    )

-- ---- the first slot

wait_out : (d : Parts) (i : ℕ) (k l : Todo) (pause : Pause) (term : EventTerm) → IsSlot0 d true i k → Goes k (next_by pause l) → Contains (pause_terms pause) term → IsHeardAtStart d i term
wait_out d i k l ways.none term first goes h = absurd (omega (arith, h.1))
wait_out d i k l (ways.delay n ticks) term first goes h = absurd (omega (arith, h.1))
wait_out d i k l (ways.event n terms) term first goes h = record { control = k; number = n; terms = terms; behind = l; slot0 = first; goes = goes; is = h }

-- a term at a place of the first slot is heard there
heard_back : (d : Parts) (i : ℕ) (t : Chart) → HasChart d i t → (p : ℕ) (term : EventTerm) → InSlot0 true t p → Contains (pause_terms (pause_at t p)) term → IsHeardAtStart d i term
heard_back d i t h p term first has =
    let w = term_way h.process t.stops t.start h.text p (pause_at t p) term refl has in
    wait_out d i (h.text.at p) (h.text.at w.0) (pause_at t p) term (from_back d i h.process t.stops t.start h.text h.is (ZeroTime true) p first)
    (step_back h.process.body t.stops t.start h.text p w.0 w.1) has

heard_on : (d : Parts) (i : ℕ) (t : Chart) → HasChart d i t → (term : EventTerm) → IsHeardAtStart d i term → (p : ℕ) × InSlot0 true t p × Contains (pause_terms (pause_at t p)) term
heard_on d i t h term heard =
    let y = from_on d i h.process t.stops t.start h.text h.is (ZeroTime true) heard.control heard.slot0 in
    let next = wait heard.number heard.terms heard.behind in
    let g = step_on h.process.body t.stops t.start h.text y.0 next (subst (λ (z : Todo). Goes z next) (sym y.2) heard.goes) in
    (y.0, y.1, terms_in (pause_at t y.0) (h.text.at g.0) heard.number heard.terms heard.behind term g.2 heard.is)

-- a site of the first slot that waits is heard there
site_heard : (d : Parts) (charts : List Chart) → AreCharts d charts → (s : Site) (edge : Edge) → s.usage ≡ Waits edge → IsSite charts s → IsAtStart true charts s →
    IsHeardAtStart d s.process (record { range = s.range; edge = edge })
site_heard d charts maps s edge e is first =
    let same : is.chart ≡ first.0 = same_Some is.chart first.0 (sym is.is ∙ first.1) in
    heard_back d s.process is.chart (chart_is d charts maps s.process is.chart is.is) s.place (record { range = s.range; edge = edge })
    (subst (λ (t : Chart). InSlot0 true t s.place) (sym same) first.2) (subst (λ (u : Use). UsesAt is.chart s.place u s.range) e is.uses)

-- ---- sites that a first value wakes

-- none of some sites is woken by it
abbrev pub IsNone : Case → Digit → Option ℕ → List Site → Bool → Type 0
IsNone k digit except sites b = IsTrue b ↔ ((s : Site) → Contains sites s → WakesSite k digit except s → ⊥)

-- what waits so is an edge term that is woken
woken_so : (k : Case) → AreCharts k.design k.charts → (v : ℕ) (digit : Digit) (except : Option ℕ) (s : Site) (u : Use) → s.usage ≡ u → IsSite k.charts s → s.range.signal ≡ v → waits_by (is_from_x digit) u ≡ true →
    (IsWide k.claims → IsAtStart true k.charts s × (except ≡ Some s.process → ⊥)) → WakesSignal k.design k.claims except v digit
woken_so k maps v digit except s (Waits edge) e is of h first =
    let x : EventTerm = record { range = s.range; edge = edge } in
    let uses = subst (λ (u : Use). UsesAt is.chart s.place u s.range) e is.uses in
    let both = and_parts (not (is_any edge)) (is_edge edge X digit) h in
    record {
      process = s.process;
      term = x;
      has = (terms_at k.design k.charts maps s.process is.chart is.is x).0 (s.place, is.point, uses);
      heard = λ wide. (site_heard k.design k.charts maps s edge e is (first wide).0, (first wide).1);
      edge = not-true (is_any edge) both.0;
      of = of;
      wakes = both.1;
    }
woken_so k maps v digit except s Now e is of h first = absurd (false≢true h)
woken_so k maps v digit except s Later e is of h first = absurd (false≢true h)
woken_so k maps v digit except s Reads e is of h first = absurd (false≢true h)
woken_so k maps v digit except s Shows e is of h first = absurd (false≢true h)

-- an edge term that is woken has such a site
site_so : (k : Case) → AreCharts k.design k.charts → (v : ℕ) (digit : Digit) (except : Option ℕ) (sites : List Site) → AreSitesOf k.charts v sites →
    WakesSignal k.design k.claims except v digit → (s : Site) × Contains sites s × WakesSite k digit except s
site_so k maps v digit except sites are h = by (below h.process (length k.design.processes)) (wide k.claims.version) where
  below : (a b : ℕ) → (a < b) ⊎ (b ≤ a)
  below a b = grind arith

  wide : (n : ℕ) → (n ≡ 3) ⊎ (n ≡ 3 → ⊥)
  wide n = grind arith

  woken : waits_by (is_from_x digit) (Waits h.term.edge) ≡ true
  woken = and_from (not (is_level h.term)) (is_edge h.term.edge X digit) (ap not h.edge) h.wakes

  by : (h.process < length k.design.processes) ⊎ (length k.design.processes ≤ h.process) → (k.claims.version ≡ 3) ⊎ (k.claims.version ≡ 3 → ⊥) → (s : Site) × Contains sites s × WakesSite k digit except s
  by (inr past) any = absurd (no_terms k.design h.process past h.term h.has)
  by (inl l) (inl three) =
      let t = there k.charts h.process (subst (λ (n : ℕ). h.process < n) (sym maps.as_many) l) in
      let y = heard_on k.design h.process t.0 (chart_is k.design k.charts maps h.process t.0 t.1) h.term (h.heard three).0 in
      let site = waiting_of h.process y.0 h.term in
      (site, (are site).1 (record { chart = t.0; is = t.1; point = start_walked t.0 (ZeroTime true) y.0 y.1; uses = y.2 }, h.of), (woken, λ w. ((t.0, t.1, y.1), (h.heard three).1)))
  by (inl l) (inr narrow) =
      let t = there k.charts h.process (subst (λ (n : ℕ). h.process < n) (sym maps.as_many) l) in
      let y = (terms_at k.design k.charts maps h.process t.0 t.1 h.term).1 h.has in
      let site = waiting_of h.process y.0 h.term in
      (site, (are site).1 (record { chart = t.0; is = t.1; point = y.1; uses = y.2 }, h.of), (woken, λ w. absurd (narrow w)))

-- no edge term of a signal is woken where none of its sites is
pub calm_is : (k : Case) → AreCharts k.design k.charts → (v : ℕ) (digit : Digit) (except : Option ℕ) (sites : List Site) → AreSitesOf k.charts v sites → (b : Bool) →
    IsNone k digit except sites b → (IsTrue b ↔ (WakesSignal k.design k.claims except v digit → ⊥))
calm_is k maps v digit except sites are b told = (
  λ t h. let y = site_so k maps v digit except sites are h in told.0 t y.0 y.1 y.2,
  λ none. told.1 (λ s has w. let is = (are s).0 has in none (woken_so k maps v digit except s s.usage refl is.0 is.1 w.0 w.1)),
)
