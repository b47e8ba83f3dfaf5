-- What is kept of run slots, and run slots of places.
use Rattle.std.proofs.Common.{◌≡◌, ℕ, zero, suc, ◌+◌, ◌<◌, ◌≤◌, ◌↔◌, inl, inr, true, Option, Some, None, List, [], ◌∷◌, ◌++◌, length, get_or, slice_get, refl, sym, ◌∙◌, ap, subst, arith}
use Rattle.std.specs.Prelude.{Result, IfOk}
use Rattle.std.specs.List.{Contains}
use Rattle.std.specs.declared.vec.Vec.{Vec}
use Rattle.std.specs.declared.alloc.Global.{Global}
use Rattle.std.proofs.lemmas.Bool.{false≢true, cases_lt}
use Rattle.std.proofs.lemmas.Option.{none-some, same_Some, slice_get_past, slice_get_within, slice_get-get_or}
use Rattle.std.proofs.lemmas.Result.{IfOk-weaker}
use Rattle.vs_design.specs.vs_logic4.specs.declared.digit.Digit.{Digit}
use Rattle.vs_design.specs.vs_logic4.specs.declared.edge.Edge.{Edge}
use Rattle.vs_design.specs.vs_logic4.specs.declared.edge.Edge.TheVariants.{Any, Posedge, Negedge}
use Rattle.vs_design.specs.declared.design.Process.{Process}
use Rattle.vs_design.specs.declared.signal.Signal.{Signal}
use Rattle.vs_design.specs.declared.statement.EventTerm.{EventTerm}
use Rattle.vs_design.specs.Parts.{Parts}
use Rattle.vs_process.specs.Places.{Todo}
use Rattle.vs_process.specs.Stops.{IsText}
use Rattle.vs_process.specs.Ways.{Pause, none, delay, event, next_by}
use Rattle.vs_maps.specs.vs_rules.specs.Claims.{Name, Claims, Kind, delays, mixed, kind_for, names_process, writer_in, claim_for, claim_of, signal_name}
use Rattle.vs_maps.specs.vs_rules.specs.Claims.{IsRoot, IsRootOf, IsWriter, WaitsForEdges, WaitsForTimes, is_wide}
use Rattle.vs_maps.specs.vs_rules.specs.Constants.{IsClock}
use Rattle.vs_maps.specs.vs_rules.specs.Constants as k
use Rattle.vs_maps.specs.vs_rules.specs.Copies.{SeenAs}
use Rattle.vs_maps.specs.vs_rules.specs.Controls.{controls_at, controls_in, controls_of, list_of}
use Rattle.vs_maps.specs.vs_rules.specs.Paths.{WritesNow}
use Rattle.vs_maps.specs.vs_rules.specs.Slots.{EdgeEnds, HasSlot, HasWriteSlot}
use Rattle.vs_slots_constants.specs.declared.clocks.Clock.{Clock}
use Rattle.vs_claims.specs.vs_maps.specs.declared.along.Along.TheVariants.{Plain}
use Rattle.vs_claims.specs.vs_maps.specs.Reaches.{Chart, IsPlace, pause_at, places}
use Rattle.vs_claims.specs.vs_maps.proofs.Texts.{place_of, place_back}
use Rattle.vs_claims.specs.vs_maps.proofs.WalkLemmas.{place_below}
use Rattle.vs_claims.specs.Facts.{Case, AreCharts}
use Rattle.vs_design.specs.vs_logic4.proofs.Basics.{there as there_is}
use Rattle.vs_slots.specs.declared.roots.Firing.{Firing}
use Rattle.vs_slots.specs.declared.runs.Runs.{Runs}
use Rattle.vs_slots.specs.Firing.{RootFires}
use Rattle.vs_slots.specs.Kept.{IsRunIn, AreAllRuns, AreBothRuns, AreClocks, AreFirings, AreTermsIn, AreWriteSlots, IsClockOf, IsFiring, IsFiringOf, IsKeptRun, IsPlaceWrite}
use Rattle.vs_slots.specs.Kept.{IsTurned, IsWriteIn, RunsWhere, table_by}
use Rattle.vs_graph.specs.Rows.{row}
use Rattle.vs_slots.specs.Lists.{IsOneOf}
use Rattle.vs_slots.specs.Runs.{AreRuns, AreRunsBy, DelayEndsBy, DelayPauseEnds, EdgePauseEnds, HasRun, HasRunBy, TermsEnd}
use Rattle.vs_slots.specs.Seen.{seen_by}
use Rattle.vs_slots.specs.Terms.{TermsFire}
use Rattle.vs_slots.proofs.FiringLemmas.{firing_is_exact, now_exact, now_numbered}
use Rattle.vs_slots.proofs.SeenLemmas.{seen_is}
use Rattle.vs_slots.proofs.RunLemmas.{ends_as, fired_runs, runs_by_lists, runs_alone, runs_are_exact, runs_parts}

-- ---- numbers within

-- the process of a chart
pub process_of : (f : Case) (i : ℕ) (t : Chart) → AreCharts f.design f.charts → slice_get f.charts i ≡ Some t → (q : Process) × (slice_get f.design.processes i ≡ Some q)
process_of f i t maps is = there_is f.design.processes i (subst (λ (n : ℕ). i < n) maps.as_many (slice_get_within f.charts i t is))

pub text_of : (f : Case) (i : ℕ) (q : Process) (t : Chart) → AreCharts f.design f.charts → slice_get f.design.processes i ≡ Some q → slice_get f.charts i ≡ Some t →
    IsText q.body t.stops t.start
text_of f i q t maps at is = maps.each i q t at is

-- points are at places of a chart
pub inside_of : (f : Case) (i : ℕ) (t : Chart) → AreCharts f.design f.charts → slice_get f.charts i ≡ Some t → (p : ℕ) → IsPlace t p → p < places t
inside_of f i t maps is p place =
    let q = process_of f i t maps is in
    let x = text_of f i q.0 t maps q.1 is in
    place_below (places t) t x.starts_in x.leads_in p place

row_past : (xs : List (List ℕ)) (u r : ℕ) → length xs ≤ u → Contains (row xs u) r → ⊥
row_past [] u r h c = omega (arith, c.1)
row_past (x ∷ xs) zero r h c = omega (arith, h)
row_past (x ∷ xs) (suc u) r h c = row_past xs u r (omega (arith, h)) c

-- ---- run slots

pub kept_runs : (can_end : Parts → Claims → ℕ → Pause → ℕ → Type 0) (f : Case) (runs : List Runs) (i : ℕ) (t : Chart) → AreCharts f.design f.charts → AreAllRuns can_end f runs →
    slice_get f.charts i ≡ Some t → (p r : ℕ) → p < places t → (IsRunIn runs i p r ↔ HasRunBy (Plain (is_wide f.claims)) (can_end f.design f.claims i) t p r)
kept_runs can_end f runs i t maps all is p r within = (
  λ y. (both y.0 y.1).0 y.2,
  λ h. let y = there_is runs i (subst (λ (n : ℕ). i < n) (maps.as_many ∙ sym all.long) (slice_get_within f.charts i t is)) in (y.0, y.1, (both y.0 y.1).1 h),
) where
  both : (x : Runs) → slice_get runs i ≡ Some x → (IsOneOf x.ends (row x.before p) r ↔ HasRunBy (Plain (is_wide f.claims)) (can_end f.design f.claims i) t p r)
  both x at = all.each i x at t is p r within

-- ---- runs by lists and by terms

nothing_runs : (before ends : List (List ℕ)) (p r : ℕ) → before ≡ [] → IsOneOf ends (row before p) r → ⊥
nothing_runs before ends p r e y = row_past [] p y.0 (omega arith) (subst (λ (b : List (List ℕ)). Contains (row b p) y.0) e y.1)

-- a process in which no control can end so has no such runs
pub no_runs : (can_end : Parts → Claims → ℕ → Pause → ℕ → Type 0) (f : Case) (i : ℕ) (x : Runs) → x.before ≡ [] → ((pause : Pause) (r : ℕ) → can_end f.design f.claims i pause r → ⊥) →
    RunsWhere can_end f i x
no_runs can_end f i x empty never t is p r within =
    (λ y. absurd (nothing_runs x.before x.ends p r empty y), λ w. absurd (never (pause_at t w.from) r w.starts))

-- one without a chart has none either
pub no_chart : (can_end : Parts → Claims → ℕ → Pause → ℕ → Type 0) (f : Case) (i : ℕ) (x : Runs) → slice_get f.charts i ≡ None → RunsWhere can_end f i x
no_chart can_end f i x past t is = absurd (none-some t (sym past ∙ is))

past_kind : (c : Claims) (p : Option Process) (k : Kind) → p ≡ None → kind_for c p ≡ Some k → ⊥
past_kind c None k e h = none-some k h
past_kind c (Some q) k e h = none-some q (sym e)

-- a process past the end waits for nothing
pub past_times : (d : Parts) (c : Claims) (i : ℕ) (lists : List (List ℕ)) → length d.processes ≤ i → WaitsForTimes d c i lists → ⊥
past_times d c i lists past (inl e) = past_kind c (slice_get d.processes i) (delays lists) (slice_get_past d.processes i past) e
past_times d c i lists past (inr e) = past_kind c (slice_get d.processes i) (mixed lists) (slice_get_past d.processes i past) e

pub listed_are : (f : Case) (i : ℕ) (q : Process) (t : Chart) (lists : List (List ℕ)) (before ends : List (List ℕ)) → ((p : ℕ) → IsPlace t p → p < places t) →
    slice_get f.design.processes i ≡ Some q → WaitsForTimes f.design f.claims i lists → AreRunsBy (Plain (is_wide f.claims)) (DelayEndsBy (list_of (controls_in q.body) lists)) t before ends →
    AreRuns (Plain (is_wide f.claims)) (DelayPauseEnds f.design f.claims i) t before ends
listed_are f i q t lists before ends inside is has h =
    let e : list_of (controls_of f.design i) lists ≡ list_of (controls_in q.body) lists = ap (λ (x : Option Process). list_of (controls_at x) lists) is in
    runs_by_lists f.design f.claims i lists t before ends has inside (subst (λ (l : ℕ → List ℕ). AreRunsBy (Plain (is_wide f.claims)) (DelayEndsBy l) t before ends) (sym e) h)

terms_end : (d : Parts) (c : Claims) (pause : Pause) (r : ℕ) → (TermsEnd d c pause r ↔ EdgeEnds d c (next_by pause []) r)
terms_end d c none r = (λ y. absurd (omega (arith, y.1.1)), λ h. absurd h)
terms_end d c (delay number ticks) r = (λ y. absurd (omega (arith, y.1.1)), λ h. absurd h)
terms_end d c (event number terms) r = (λ y. y, λ h. h)

pub fired_are : (f : Case) (i : ℕ) (t : Chart) (before ends : List (List ℕ)) → ((p : ℕ) → IsPlace t p → p < places t) → WaitsForEdges f.design f.claims i →
    AreRunsBy (Plain (is_wide f.claims)) (TermsEnd f.design f.claims) t before ends → AreRuns (Plain (is_wide f.claims)) (EdgePauseEnds f.design f.claims i) t before ends
fired_are f i t before ends inside waits h =
    fired_runs f.design f.claims i t before ends waits inside
    (ends_as (Plain (is_wide f.claims)) (TermsEnd f.design f.claims) (λ pause r. EdgeEnds f.design f.claims (next_by pause []) r) t before ends (terms_end f.design f.claims) h)

-- ---- writers

writer_process : (n : Option Name) (p : Option Process) → names_process n p ≡ true → (q : Process) × (p ≡ Some q)
writer_process None None h = absurd (false≢true h)
writer_process None (Some q) h = absurd (false≢true h)
writer_process (Some n) None h = absurd (false≢true h)
writer_process (Some n) (Some q) h = (q, refl)

claimed : (c : Claims) (s : Option Signal) (p : Option Process) → names_process (writer_in (claim_for c s)) p ≡ true → (x : Signal) × (s ≡ Some x)
claimed c None None h = absurd (false≢true h)
claimed c None (Some q) h = absurd (false≢true h)
claimed c (Some x) p h = (x, refl)

-- a variable with a writer is a signal of the design
pub writer_within : (d : Parts) (c : Claims) (u i : ℕ) → IsWriter d c u i → u < length d.signals
writer_within d c u i h = let x = claimed c (slice_get d.signals u) (slice_get d.processes i) h in slice_get_within d.signals u x.0 x.1

-- a variable with write slots is a signal of the design
pub write_within : (d : Parts) (c : Claims) (u r : ℕ) → HasWriteSlot d c u r → u < length d.signals
write_within d c u r h = let x = claimed c (slice_get d.signals u) (slice_get d.processes h.writer) h.is in slice_get_within d.signals u x.0 x.1

-- a writer's process, and its chart
record HasChart (f : Case) (i : ℕ) : Type 0 where
  process : Process
  is : slice_get f.design.processes i ≡ Some process
  chart : Chart
  chart_is : slice_get f.charts i ≡ Some chart

chart_of_writer : (f : Case) (u i : ℕ) → AreCharts f.design f.charts → IsWriter f.design f.claims u i → HasChart f i
chart_of_writer f u i maps w =
    let q = writer_process (writer_in (claim_of f.design f.claims u)) (slice_get f.design.processes i) w in
    let t = there_is f.charts i (subst (λ (n : ℕ). i < n) (sym maps.as_many) (slice_get_within f.design.processes i q.0 q.1)) in
    record { process = q.0; is = q.1; chart = t.0; chart_is = t.1 }

-- ---- run slots as both are kept

pub kept_run : (f : Case) (waiting fired : List Runs) (i : ℕ) (t : Chart) → AreCharts f.design f.charts → AreBothRuns f waiting fired → slice_get f.charts i ≡ Some t →
    (p r : ℕ) → p < places t → (IsKeptRun waiting fired i p r ↔ HasRun f.design f.claims i t p r)
kept_run f waiting fired i t maps both is p r within =
    let by_delays = kept_runs DelayPauseEnds f waiting i t maps both.waiting_are is p r within in
    let by_edges = kept_runs EdgePauseEnds f fired i t maps both.fired_are is p r within in
    let parts = runs_parts f.design f.claims i t p r in (
      λ y. parts.1 (elim y [ inl x ↦ inl (by_delays.0 x) | inr x ↦ inr (by_edges.0 x) ]),
      λ h. elim (parts.0 h) [ inl x ↦ inl (by_delays.1 x) | inr x ↦ inr (by_edges.1 x) ],
    )

-- ---- write slots

pub writes_are : (f : Case) (waiting fired : List Runs) (u r : ℕ) → AreCharts f.design f.charts → AreBothRuns f waiting fired →
    (IsWriteIn f waiting fired u r ↔ HasWriteSlot f.design f.claims u r)
writes_are f waiting fired u r maps both = (there, back) where
  at_place : (i : ℕ) (q : Process) (t : Chart) (x : IsText q.body t.stops t.start) → slice_get f.design.processes i ≡ Some q → slice_get f.charts i ≡ Some t → IsWriter f.design f.claims u i →
      (p : ℕ) → p < places t → IsPlaceWrite waiting fired t u i p r → HasWriteSlot f.design f.claims u r
  at_place i q t x is chart writer p within y =
      let w = (now_exact f.design q.body t.stops t.start x p u).0 y.2 in
      let n = now_numbered (x.at p) w.range w.listed.0 in record {
        writer = i;
        at = x.at p;
        is = writer;
        point = place_back f.design i q t.stops t.start x is p y.1;
        writes = w;
        slot = (runs_are_exact f.design f.claims i q t.stops t.start is x p n.0 r n.1).0 ((kept_run f waiting fired i t maps both chart p r within).0 y.3);
      }

  there : IsWriteIn f waiting fired u r → HasWriteSlot f.design f.claims u r
  there y =
      let b = y.2 in
      let e = b.2 in
      let q = process_of f y.0 b.0 maps b.1 in
      at_place y.0 q.0 b.0 (text_of f y.0 q.0 b.0 maps q.1 b.1) q.1 b.1 y.1 e.0 e.1 e.2

  back : HasWriteSlot f.design f.claims u r → IsWriteIn f waiting fired u r
  back h =
      let i = h.writer in
      let w = chart_of_writer f u i maps h.is in
      let q = w.process in
      let t = w.chart in
      let x = text_of f i q t maps w.is w.chart_is in
      let y = place_of f.design i q t.stops t.start x w.is h.at h.point in
      let within = inside_of f i t maps w.chart_is y.0 y.1 in
      let v : WritesNow f.design (x.at y.0) u = subst (λ (k : Todo). WritesNow f.design k u) (sym y.2) h.writes in
      let n = now_numbered (x.at y.0) v.range v.listed.0 in
      let run : HasSlot f.design f.claims i (x.at y.0) r = subst (λ (k : Todo). HasSlot f.design f.claims i k r) (sym y.2) h.slot in (
        i,
        h.is,
        (
          t,
          w.chart_is,
          (
            y.0,
            within,
            (
              within,
              y.1,
              (now_exact f.design q.body t.stops t.start x y.0 u).1 v,
              (kept_run f waiting fired i t maps both w.chart_is y.0 r within).1 ((runs_are_exact f.design f.claims i q t.stops t.start w.is x y.0 n.0 r n.1).1 run),
            ),
          ),
        ),
      )

-- of a signal past the end too
pub write_slots_are : (f : Case) (table : List (List ℕ)) (u r : ℕ) → AreWriteSlots f table → (Contains (row table u) r ↔ HasWriteSlot f.design f.claims u r)
write_slots_are f table u r h = elim (cases_lt u (length f.design.signals)) [
  | inl l ↦ h.1 u r l
  | inr p ↦ (λ c. absurd (row_past table u r (omega (arith, p, h.0)) c), λ w. absurd (omega (arith, p, write_within f.design f.claims u r w)))
]

-- ---- firing

pub firing_are : (f : Case) (runs : List Runs) (clock : Option Clock) (root : ℕ) (edge : Edge) (r : ℕ) → AreCharts f.design f.charts → AreAllRuns DelayPauseEnds f runs → IsClockOf f root clock →
    (IsFiringOf f runs clock root edge r ↔ RootFires f.design f.claims root edge r)
firing_are f runs clock root edge r maps all is_clock = (there, back) where
  there : IsFiringOf f runs clock root edge r → RootFires f.design f.claims root edge r
  there z =
      let i = z.0 in
      let kind = z.2.0 in
      let g = z.2.1 in
      let t = g.0 in
      let chart = g.1 in
      let e = g.2 in
      let y = e.2 in
      let q = process_of f i t maps chart in (
        i,
        (firing_is_exact.roots f.design f.claims root edge i q.0 t.stops t.start r q.1 (text_of f i q.0 t maps q.1 chart) z.1 kind).0 (
          e.0,
          record {
            is_place = y.1;
            writes = y.2;
            counted = y.3;
            runs = (runs_alone f.design f.claims i t e.0 r kind).0 ((kept_runs DelayPauseEnds f runs i t maps all chart e.0 r e.1).0 y.4);
            in_phase = λ digit offset half clocked. y.5 digit offset half ((is_clock digit offset half).0 clocked);
          },
        ),
      )

  back : RootFires f.design f.claims root edge r → IsFiringOf f runs clock root edge r
  back z =
      let i = z.0 in
      let h = z.1 in
      let w = chart_of_writer f root i maps h.is_writer in
      let t = w.chart in
      let y = (firing_is_exact.roots f.design f.claims root edge i w.process t.stops t.start r w.is (text_of f i w.process t maps w.is w.chart_is) h.is_writer h.kind).1 h in
      let a = y.1 in
      let within = inside_of f i t maps w.chart_is y.0 a.is_place in (
        i,
        h.is_writer,
        (
          h.kind,
          (
            t,
            w.chart_is,
            (
              y.0,
              within,
              (
                within,
                a.is_place,
                a.writes,
                a.counted,
                (kept_runs DelayPauseEnds f runs i t maps all w.chart_is y.0 r within).1 ((runs_alone f.design f.claims i t y.0 r h.kind).1 a.runs),
                λ digit offset half e. a.in_phase digit offset half ((is_clock digit offset half).1 e),
              ),
            ),
          ),
        ),
      )

-- a clock is turned after some ticks
half_above : (d : Parts) (c : Claims) (v : ℕ) (digit : Digit) (offset half : ℕ) → IsClock d c v digit offset half → 0 < half
half_above d c v digit offset half (k.alone i w body) = body.body.turns.turns.above
half_above d c v digit offset half (k.two i j kind w may body other now only) = body.body.turns.above

pub turned : (f : Case) (v : ℕ) (o : Option Clock) → IsClockOf f v o → IsTurned o
turned f v o is x e = half_above f.design f.claims v x.digit x.offset x.half ((is x.digit x.offset x.half).1 e)

each_or : (P : Option Clock → Type 0) → P None → (xs : List (Option Clock)) → ((v : ℕ) → v < length xs → P (get_or xs v None)) → (v : ℕ) → P (get_or xs v None)
each_or P nothing [] h v = nothing
each_or P nothing (x ∷ xs) h zero = h 0 (omega arith)
each_or P nothing (x ∷ xs) h (suc v) = each_or P nothing xs (λ w l. h (suc w) (omega (arith, l))) v

pub all_turned : (f : Case) (clocks : List (Option Clock)) → AreClocks f clocks → (v : ℕ) → IsTurned (get_or clocks v None)
all_turned f clocks h = each_or IsTurned (λ x e. absurd (none-some x e)) clocks (λ v l. turned f v (get_or clocks v None) (h.1 v l))

root_within : (d : Parts) (c : Claims) (root v : ℕ) → IsRootOf d c root v → root < length d.signals
root_within d c root v h = named (slice_get d.signals root) (λ x e. slice_get_within d.signals root x e) h.root_is where
  named : (s : Option Signal) → ((x : Signal) → s ≡ Some x → root < length d.signals) → signal_name s ≡ Some h.entry.root → root < length d.signals
  named None all e = absurd (none-some h.entry.root e)
  named (Some x) all e = all x refl

-- terms fire as the tables of roots say
pub terms_in : (f : Case) (x : Firing) (terms : List EventTerm) (r : ℕ) → AreFirings f x → (AreTermsIn f x terms r ↔ TermsFire f.design f.claims terms r)
terms_in f x terms r are = (
  λ y. let t = y.0 in let i = y.2 in
      let b = (here t i.0 i.1).0 i.2 in
      (t, y.1, (firing_is_exact.terms f.design f.claims t r).0 (i.0, i.1, (seen_by x.inverted.now t, (seen t (seen_by x.inverted.now t)).1 refl, b.1))),
  λ y. let t = y.0 in let i = (firing_is_exact.terms f.design f.claims t r).1 y.2 in
      let s = i.2 in
      let fires = subst (λ (edge : Edge). RootFires f.design f.claims i.0 edge r) ((seen t s.0).0 s.1) s.2 in
      (t, y.1, (i.0, i.1, (here t i.0 i.1).1 ((t.range.signal, i.1), fires))),
) where
  seen : (t : EventTerm) (edge : Edge) → (SeenAs f.design (is_wide f.claims) t edge ↔ edge ≡ seen_by x.inverted.now t)
  seen t edge = seen_is f.design (is_wide f.claims) x.inverted.now are.inverted_are t edge

  here : (t : EventTerm) (root : ℕ) → IsRootOf f.design f.claims root t.range.signal →
      (Contains (row (table_by x (seen_by x.inverted.now t)) root) r ↔ (IsRoot f.design f.claims root × RootFires f.design f.claims root (seen_by x.inverted.now t) r))
  here t root is = are.tables_are (seen_by x.inverted.now t) root r (root_within f.design f.claims root t.range.signal is)

-- ---- tables, row by row

-- the same of what is read, past the end too
pub read_more : (P : ℕ → Option Clock → Type 0) (xs : List (Option Clock)) (x : Option Clock) → ((k : ℕ) → k < length xs → P k (get_or xs k None)) → P (length xs) x →
    (k : ℕ) → k < length xs + 1 → P k (get_or (xs ++ x ∷ []) k None)
read_more P [] x before here zero h = here
read_more P [] x before here (suc k) h = absurd (omega (arith, h))
read_more P (z ∷ xs) x before here zero h = before 0 (omega arith)
read_more P (z ∷ xs) x before here (suc k) h = read_more (λ n w. P (suc n) w) xs x (λ n l. before (suc n) (omega (arith, l))) here k (omega (arith, h))

-- what holds of an element at a place
pub at_element : {A : Type 0} (P : A → Type 0) (xs : List A) (i : ℕ) (d : A) → i < length xs → (P (get_or xs i d) ↔ ((x : A) × (slice_get xs i ≡ Some x) × P x))
at_element P xs i d h = (
  λ p. (get_or xs i d, slice_get-get_or xs i d h, p),
  λ y. subst P (same_Some y.0 (get_or xs i d) (sym y.1 ∙ slice_get-get_or xs i d h)) y.2,
)

-- a list of what an element at a place has
pub listed_at : {A E : Type 0} (P : A → ℕ → Type 0) (xs : List A) (i : ℕ) (d : A) (o : Result (Vec ℕ Global) E) → i < length xs →
    IfOk o (λ list. (r : ℕ) → (Contains list.items r ↔ P (get_or xs i d) r)) → IfOk o (λ list. (r : ℕ) → (Contains list.items r ↔ ((x : A) × (slice_get xs i ≡ Some x) × P x r)))
listed_at {A} P xs i d o within told =
    IfOk-weaker o (λ list. (r : ℕ) → (Contains list.items r ↔ P (get_or xs i d) r)) (λ list. (r : ℕ) → (Contains list.items r ↔ ((x : A) × (slice_get xs i ≡ Some x) × P x r)))
    (λ list h r. let both = at_element (λ x. P x r) xs i d within in (λ x. both.0 ((h r).0 x), λ y. (h r).1 (both.1 y))) told

-- what holds of one of the elements
pub each_element : {A : Type 0} (P : A → Type 0) (xs : List A) →
    (((i : ℕ) × (i < length xs) × ((x : A) × (slice_get xs i ≡ Some x) × P x)) ↔ ((x : A) × Contains xs x × P x))
each_element P xs = (
  λ y. let z = y.2 in (z.0, (y.0, y.1, same_Some (get_or xs y.0 z.0) z.0 (sym (slice_get-get_or xs y.0 z.0 y.1) ∙ z.1)), z.2),
  λ y. let c = y.1 in (c.0, c.1, (y.0, slice_get-get_or xs c.0 y.0 c.1 ∙ ap Some c.2, y.2)),
)

-- the tables of the three sorts of edges
pub firings : (f : Case) (x : Firing) → IsFiring f Any x.any → IsFiring f Posedge x.posedge → IsFiring f Negedge x.negedge → (edge : Edge) →
    IsFiring f edge (table_by x edge)
firings f x a p n Any = a
firings f x a p n Posedge = p
firings f x a p n Negedge = n
