-- Run slots of a place and of its point.
use Rattle.std.proofs.Common.{◌≡◌, ℕ, ◌<◌, ◌⊎◌, ◌↔◌, inl, inr, Bool, true, Option, Some, None, List, [], slice_get, refl, sym, ◌∙◌, ap, subst}
use Rattle.vs_design.specs.declared.design.Process.{Process}
use Rattle.vs_design.specs.Parts.{Parts}
use Rattle.vs_process.specs.Numbers.{number_next}
use Rattle.vs_process.specs.Places.{Todo, flat}
use Rattle.vs_process.specs.Steps.{Next}
use Rattle.vs_process.specs.Stops.{Stop, stop_at, stop_statement, stops_tos, stops_next, IsText}
use Rattle.vs_process.specs.Ways.{Pause, none, delay, event, next_by}
use Rattle.vs_maps.specs.vs_rules.specs.Points.{Goes, nexts_by}
use Rattle.vs_maps.specs.vs_rules.specs.Claims.{Claims, Kind, block, edges, delays, mixed, is_wide, kind_of, HasMixedLists, IsDelay, WaitsForEdges, WaitsForTimes}
use Rattle.vs_maps.specs.vs_rules.specs.Controls.{controls_of, list_of}
use Rattle.vs_maps.specs.vs_rules.specs.Paths.{PathBy, RunsFrom, is_plain}
use Rattle.vs_maps.specs.vs_rules.specs.Slots.{DelayEnds, EdgeEnds, Ends, HasSlot, RunsByDelays, RunsByEdges}
use Rattle.vs_claims.specs.vs_maps.specs.declared.along.Along.{Along}
use Rattle.vs_claims.specs.vs_maps.specs.declared.along.Along.TheVariants.{Plain}
use Rattle.vs_claims.specs.vs_maps.specs.Reaches.{Chart, IsPlace, pause_at, pause_of, places}
use Rattle.vs_claims.specs.vs_maps.proofs.Join.{same_place}
use Rattle.vs_claims.specs.vs_maps.proofs.Texts.{place_of, place_back, walk_on, walk_back, step_on, step_back, behind_step}
use Rattle.vs_claims.specs.vs_maps.specs.Walks.{WalkFrom, IsControlBefore, is_control}
use Rattle.vs_slots.specs.Runs.{PauseEnds, DelayPauseEnds, EdgePauseEnds, HasRunBy, HasRun, HasDelayRun, RunsAreExact, DelayRunsAreExact, AreRuns, AreRunsBy, DelayEndsBy}

-- ---- the lists of a process

abbrev lists_in : Option Kind → List (List ℕ)
lists_in (Some (delays lists)) = lists
lists_in (Some (mixed lists)) = lists
lists_in _ = []

lists_told : (d : Parts) (c : Claims) (i : ℕ) (lists : List (List ℕ)) → WaitsForTimes d c i lists → lists_in (kind_of d c i) ≡ lists
lists_told d c i lists (inl e) = ap lists_in e
lists_told d c i lists (inr e) = ap lists_in e

-- it has one list of lists
pub one_lists : (d : Parts) (c : Claims) (i : ℕ) (one other : List (List ℕ)) → WaitsForTimes d c i one → WaitsForTimes d c i other → one ≡ other
one_lists d c i one other a b = sym (lists_told d c i one a) ∙ lists_told d c i other b

-- ---- where controls can end

delay_alike : (d : Parts) (i : ℕ) (lists : List (List ℕ)) (pause : Pause) (l m : Todo) (r : ℕ) → DelayEnds d i lists (next_by pause l) r → DelayEnds d i lists (next_by pause m) r
delay_alike d i lists none l m r h = h
delay_alike d i lists (delay number ticks) l m r h = h
delay_alike d i lists (event number terms) l m r h = h

edge_alike : (d : Parts) (c : Claims) (pause : Pause) (l m : Todo) (r : ℕ) → EdgeEnds d c (next_by pause l) r → EdgeEnds d c (next_by pause m) r
edge_alike d c none l m r h = h
edge_alike d c (delay number ticks) l m r h = h
edge_alike d c (event number terms) l m r h = h

ends_alike : (d : Parts) (c : Claims) (i : ℕ) (kind : Option Kind) (pause : Pause) (l m : Todo) (r : ℕ) → Ends d c i kind (next_by pause l) r → Ends d c i kind (next_by pause m) r
ends_alike d c i None pause l m r h = h
ends_alike d c i (Some (block start)) pause l m r h = h
ends_alike d c i (Some edges) pause l m r h = edge_alike d c pause l m r h
ends_alike d c i (Some (delays lists)) pause l m r h = delay_alike d i lists pause l m r h
ends_alike d c i (Some (mixed lists)) pause l m r (inl h) = inl (delay_alike d i lists pause l m r h)
ends_alike d c i (Some (mixed lists)) pause l m r (inr h) = inr (edge_alike d c pause l m r h)

-- what can end is a control
delay_control : (d : Parts) (i : ℕ) (lists : List (List ℕ)) (pause : Pause) (r : ℕ) → DelayEnds d i lists (next_by pause []) r → is_control pause ≡ true
delay_control d i lists none r h = absurd h
delay_control d i lists (delay number ticks) r h = refl
delay_control d i lists (event number terms) r h = absurd h

edge_control : (d : Parts) (c : Claims) (pause : Pause) (r : ℕ) → EdgeEnds d c (next_by pause []) r → is_control pause ≡ true
edge_control d c none r h = absurd h
edge_control d c (delay number ticks) r h = absurd h
edge_control d c (event number terms) r h = refl

-- by a delay control or by an event control
abbrev DelaysEnd : Parts → Claims → ℕ → Next → ℕ → Type 0
DelaysEnd d c i next r = (lists : List (List ℕ)) × WaitsForTimes d c i lists × DelayEnds d i lists next r

abbrev EventsEnd : Parts → Claims → ℕ → Next → ℕ → Type 0
EventsEnd d c i next r = WaitsForEdges d c i × EdgeEnds d c next r

ends_of : (d : Parts) (c : Claims) (i : ℕ) (kind : Option Kind) → kind_of d c i ≡ kind → (next : Next) (r : ℕ) → Ends d c i kind next r → DelaysEnd d c i next r ⊎ EventsEnd d c i next r
ends_of d c i None e next r h = absurd h
ends_of d c i (Some (block start)) e next r h = absurd h
ends_of d c i (Some edges) e next r h = inr (inl e, h)
ends_of d c i (Some (delays lists)) e next r h = inl (lists, inl e, h)
ends_of d c i (Some (mixed lists)) e next r (inl h) = inl (lists, inr e, h)
ends_of d c i (Some (mixed lists)) e next r (inr h) = inr (inr (lists, e), h)

delays_end : (d : Parts) (c : Claims) (i : ℕ) (next : Next) (r : ℕ) → DelaysEnd d c i next r → Ends d c i (kind_of d c i) next r
delays_end d c i next r (lists, inl e, h) = subst (λ (k : Option Kind). Ends d c i k next r) (sym e) h
delays_end d c i next r (lists, inr e, h) = subst (λ (k : Option Kind). Ends d c i k next r) (sym e) (inl h)

events_end : (d : Parts) (c : Claims) (i : ℕ) (next : Next) (r : ℕ) → EventsEnd d c i next r → Ends d c i (kind_of d c i) next r
events_end d c i next r (inl e, h) = subst (λ (k : Option Kind). Ends d c i k next r) (sym e) h
events_end d c i next r (inr (lists, e), h) = subst (λ (k : Option Kind). Ends d c i k next r) (sym e) (inr h)

-- ---- run slots, behind controls that can end so

walk_as : (t : Chart) (along : Along) (sort other : ℕ → Type 0) (p : ℕ) → ((q : ℕ) → sort q → other q) → WalkFrom t along sort p → WalkFrom t along other p
walk_as t along sort other p f w = record { from = w.from; to = w.to; is_place = w.is_place; starts = f w.from w.starts; leads = w.leads; reached = w.reached }

runs_as : (d : Parts) (wide : Bool) (i : ℕ) (one other : Next → ℕ → Type 0) (k : Todo) (r : ℕ) → ((next : Next) → one next r → other next r) → RunsFrom d wide i one k r →
    RunsFrom d wide i other k r
runs_as d wide i one other k r f h = record { at = h.at; next = h.next; point = h.point; goes = h.goes; starts = f h.next h.starts; path = h.path }

module _ (d : Parts) (wide : Bool) (i : ℕ) (can_end : Next → ℕ → Type 0) (alike : (pause : Pause) (l m : Todo) (r : ℕ) → can_end (next_by pause l) r → can_end (next_by pause m) r)
    (q : Process) (stops : List Stop) (start : ℕ) (t : IsText q.body stops start) (is : slice_get d.processes i ≡ Some q) where
  -- a run slot of a point is one of a place of it
  on_by : (k : Todo) (r : ℕ) → RunsFrom d wide i can_end k r → (p : ℕ) × HasRunBy (Plain wide) (λ pause s. can_end (next_by pause []) s) (record { stops = stops; start = start }) p r × (t.at p ≡ k)
  on_by k r h =
      let a = place_of d i q stops start t is h.at h.point in
      let s = step_on q.body stops start t a.0 h.next (subst (λ (z : Todo). Goes z h.next) (sym a.2) h.goes) in
      let pause = pause_of (stop_statement (stop_at stops a.0)) in
      let w = walk_on q.body stops start t (Plain wide) s.0 k
      (subst (λ (z : Todo). PathBy (nexts_by wide) is_plain z k) (behind_step pause (t.at s.0) h.next s.2) h.path) in (
        w.0,
        record {
          from = a.0;
          to = s.0;
          is_place = a.1;
          starts = alike pause (t.at s.0) [] r (subst (λ (n : Next). can_end n r) (sym s.2) h.starts);
          leads = s.1;
          reached = w.1;
        },
        w.2,
      )

  back_by : (p r : ℕ) → HasRunBy (Plain wide) (λ pause s. can_end (next_by pause []) s) (record { stops = stops; start = start }) p r → RunsFrom d wide i can_end (t.at p) r
  back_by p r h =
      let pause = pause_of (stop_statement (stop_at stops h.from)) in record {
        at = t.at h.from;
        next = next_by pause (t.at h.to);
        point = place_back d i q stops start t is h.from h.is_place;
        goes = step_back q.body stops start t h.from h.to h.leads;
        starts = alike pause [] (t.at h.to) r h.starts;
        path = subst (λ (z : Todo). PathBy (nexts_by wide) is_plain z (t.at p)) (sym (behind_step pause (t.at h.to) (next_by pause (t.at h.to)) refl))
            (walk_back q.body stops start t (Plain wide) h.to p h.reached);
      }

  exact_by : (p n r : ℕ) → number_next (t.at p) ≡ Some n →
      (HasRunBy (Plain wide) (λ pause s. can_end (next_by pause []) s) (record { stops = stops; start = start }) p r ↔ RunsFrom d wide i can_end (t.at p) r)
  exact_by p n r numbered = (
    back_by p r,
    λ h. same_place (flat q.body) t.at start (stops_next stops) (stops_tos stops) t.is_map
        (λ p. HasRunBy (Plain wide) (λ pause s. can_end (next_by pause []) s) (record { stops = stops; start = start }) p r) p n numbered (on_by (t.at p) r h),
  )

pub run_on : (d : Parts) (c : Claims) (i : ℕ) (q : Process) (stops : List Stop) (start : ℕ) (t : IsText q.body stops start) → slice_get d.processes i ≡ Some q → (k : Todo) (r : ℕ) →
    HasSlot d c i k r → (p : ℕ) × HasRun d c i (record { stops = stops; start = start }) p r × (t.at p ≡ k)
run_on d c i q stops start t is = on_by d (is_wide c) i (Ends d c i (kind_of d c i)) (ends_alike d c i (kind_of d c i)) q stops start t is

pub run_back : (d : Parts) (c : Claims) (i : ℕ) (q : Process) (stops : List Stop) (start : ℕ) (t : IsText q.body stops start) → slice_get d.processes i ≡ Some q → (p r : ℕ) →
    HasRun d c i (record { stops = stops; start = start }) p r → HasSlot d c i (t.at p) r
run_back d c i q stops start t is = back_by d (is_wide c) i (Ends d c i (kind_of d c i)) (ends_alike d c i (kind_of d c i)) q stops start t is

pub runs_are_exact : RunsAreExact
runs_are_exact d c i q stops start is t = exact_by d (is_wide c) i (Ends d c i (kind_of d c i)) (ends_alike d c i (kind_of d c i)) q stops start t is

-- ---- by delay controls, and by event controls

delays_alike : (d : Parts) (c : Claims) (i : ℕ) (pause : Pause) (l m : Todo) (r : ℕ) → DelaysEnd d c i (next_by pause l) r → DelaysEnd d c i (next_by pause m) r
delays_alike d c i pause l m r y = (y.0, y.1, delay_alike d i y.0 pause l m r y.2)

-- the run slots of a point behind delay controls, by its lists
by_one : (d : Parts) (c : Claims) (i : ℕ) (lists : List (List ℕ)) (k : Todo) (r : ℕ) → WaitsForTimes d c i lists → (RunsFrom d (is_wide c) i (DelaysEnd d c i) k r ↔ RunsByDelays d (is_wide c) i lists k r)
by_one d c i lists k r has = (
  runs_as d (is_wide c) i (DelaysEnd d c i) (DelayEnds d i lists) k r (λ next y. subst (λ (l : List (List ℕ)). DelayEnds d i l next r) (one_lists d c i y.0 lists y.1 has) y.2),
  runs_as d (is_wide c) i (DelayEnds d i lists) (DelaysEnd d c i) k r (λ next h. (lists, has, h)),
)

pub delay_runs_are_exact : DelayRunsAreExact
delay_runs_are_exact d c i q stops start is t p n r lists numbered has =
    let both = exact_by d (is_wide c) i (DelaysEnd d c i) (delays_alike d c i) q stops start t is p n r numbered in
    let one = by_one d c i lists (t.at p) r has in
    (λ h. one.0 (both.0 h), λ h. both.1 (one.1 h))

-- the run slots of a point of one that waits for times, or for edges
pub slot_by_delays : (d : Parts) (c : Claims) (i : ℕ) (lists : List (List ℕ)) (k : Todo) (r : ℕ) → WaitsForTimes d c i lists → RunsByDelays d (is_wide c) i lists k r → HasSlot d c i k r
slot_by_delays d c i lists k r has h = runs_as d (is_wide c) i (DelayEnds d i lists) (Ends d c i (kind_of d c i)) k r (λ next e. delays_end d c i next r (lists, has, e)) h

pub slot_by_edges : (d : Parts) (c : Claims) (i : ℕ) (k : Todo) (r : ℕ) → WaitsForEdges d c i → RunsByEdges d c i k r → HasSlot d c i k r
slot_by_edges d c i k r waits h = runs_as d (is_wide c) i (EdgeEnds d c) (Ends d c i (kind_of d c i)) k r (λ next e. events_end d c i next r (waits, e)) h

-- they are behind controls of the one sort or of the other
pub slot_parts : (d : Parts) (c : Claims) (i : ℕ) (lists : List (List ℕ)) (k : Todo) (r : ℕ) → WaitsForTimes d c i lists → HasSlot d c i k r →
    RunsByDelays d (is_wide c) i lists k r ⊎ (HasMixedLists d c i lists × RunsByEdges d c i k r)
slot_parts d c i lists k r has h = elim (ends_of d c i (kind_of d c i) refl h.next r h.starts) [
  | inl y ↦ inl (record {
    at = h.at;
    next = h.next;
    point = h.point;
    goes = h.goes;
    starts = subst (λ (l : List (List ℕ)). DelayEnds d i l h.next r) (one_lists d c i y.0 lists y.1 has) y.2;
    path = h.path;
  })
  | inr y ↦ inr (both has y.0, record { at = h.at; next = h.next; point = h.point; goes = h.goes; starts = y.1; path = h.path })
] where
  both : WaitsForTimes d c i lists → WaitsForEdges d c i → HasMixedLists d c i lists
  both (inl e) (inl f) = let same : Some (delays lists) ≡ Some edges = sym e ∙ f in absurd cc
  both (inl e) (inr f) = let same : Some (delays lists) ≡ Some (mixed f.0) = sym e ∙ f.1 in absurd cc
  both (inr e) f = e

-- a place has its run slots behind the one or the other
pub runs_parts : (d : Parts) (c : Claims) (i : ℕ) (t : Chart) (p r : ℕ) → (HasRun d c i t p r ↔ (HasDelayRun d c i t p r ⊎ HasRunBy (Plain (is_wide c)) (EdgePauseEnds d c i) t p r))
runs_parts d c i t p r = (there, back) where
  there : HasRun d c i t p r → HasDelayRun d c i t p r ⊎ HasRunBy (Plain (is_wide c)) (EdgePauseEnds d c i) t p r
  there w = elim (ends_of d c i (kind_of d c i) refl (next_by (pause_at t w.from) []) r w.starts) [
    | inl y ↦ inl (record { from = w.from; to = w.to; is_place = w.is_place; starts = y; leads = w.leads; reached = w.reached })
    | inr y ↦ inr (record { from = w.from; to = w.to; is_place = w.is_place; starts = y; leads = w.leads; reached = w.reached })
  ]

  back : HasDelayRun d c i t p r ⊎ HasRunBy (Plain (is_wide c)) (EdgePauseEnds d c i) t p r → HasRun d c i t p r
  back (inl w) = walk_as t (Plain (is_wide c)) (λ q. DelayPauseEnds d c i (pause_at t q) r) (λ q. PauseEnds d c i (pause_at t q) r) p (λ q y. delays_end d c i (next_by (pause_at t q) []) r y) w
  back (inr w) = walk_as t (Plain (is_wide c)) (λ q. EdgePauseEnds d c i (pause_at t q) r) (λ q. PauseEnds d c i (pause_at t q) r) p (λ q y. events_end d c i (next_by (pause_at t q) []) r y) w

not_both : (d : Parts) (c : Claims) (i : ℕ) → IsDelay d c i → WaitsForEdges d c i → ⊥
not_both d c i l (inl e) = let same : Some (delays l.0) ≡ Some edges = sym l.1 ∙ e in absurd cc
not_both d c i l (inr e) = let same : Some (delays l.0) ≡ Some (mixed e.0) = sym l.1 ∙ e.1 in absurd cc

-- of one that waits for times alone behind delay controls
pub runs_alone : (d : Parts) (c : Claims) (i : ℕ) (t : Chart) (p r : ℕ) → IsDelay d c i → (HasDelayRun d c i t p r ↔ HasRun d c i t p r)
runs_alone d c i t p r kind =
    let parts = runs_parts d c i t p r in
    (λ w. parts.1 (inl w), λ w. elim (parts.0 w) [ inl y ↦ y | inr y ↦ absurd (not_both d c i kind y.starts.0) ])

-- ---- as they are kept

-- a control before a place that can end at a residue
by_controls : (along : Along) (can_end : Pause → ℕ → Type 0) → ((pause : Pause) (r : ℕ) → can_end pause r → is_control pause ≡ true) → (t : Chart) (p r : ℕ) →
    (HasRunBy along can_end t p r ↔ ((q : ℕ) × IsControlBefore t along q p × can_end (pause_at t q) r))
by_controls along can_end controls t p r = (
  λ h. (h.from, record { from = h.from; to = h.to; is_place = h.is_place; starts = (refl, controls (pause_at t h.from) r h.starts); leads = h.leads; reached = h.reached }, h.starts),
  λ y. let w = y.1 in record {
    from = w.from;
    to = w.to;
    is_place = w.is_place;
    starts = subst (λ (q : ℕ). can_end (pause_at t q) r) (sym w.starts.0) y.2;
    leads = w.leads;
    reached = w.reached;
  },
)

-- the residues of the controls before a place are its run slots
runs_by : (along : Along) (can_end : Pause → ℕ → Type 0) → ((pause : Pause) (r : ℕ) → can_end pause r → is_control pause ≡ true) → (t : Chart) (before ends : List (List ℕ)) →
    AreRunsBy along can_end t before ends → ((p : ℕ) → IsPlace t p → p < places t) → AreRuns along can_end t before ends
runs_by along can_end controls t before ends h inside p r within = (
  λ y. let w = (h.before_are p y.0 within).0 y.1 in
      (by_controls along can_end controls t p r).1 (y.0, w.1, ((h.ends_are y.0 r w.0).0 y.2).1),
  λ x. let y = (by_controls along can_end controls t p r).0 x in
      let w = y.1 in
      let place : IsPlace t y.0 = subst (IsPlace t) w.starts.0 w.is_place in
      (y.0, (h.before_are p y.0 within).1 (inside y.0 place, w), (h.ends_are y.0 r (inside y.0 place)).1 (place, y.2)),
)

pub ends_as : (along : Along) (one other : Pause → ℕ → Type 0) (t : Chart) (before ends : List (List ℕ)) → ((pause : Pause) (r : ℕ) → (one pause r ↔ other pause r)) → AreRunsBy along one t before ends → AreRunsBy along other t before ends
ends_as along one other t before ends same h = record {
  before_are = h.before_are;
  ends_are = λ q r within. let both = h.ends_are q r within in
      (λ x. let y = both.0 x in (y.0, (same (pause_at t q) r).0 y.1), λ y. both.1 (y.0, (same (pause_at t q) r).1 y.1));
}

-- by the lists of delay controls
delay_ends : (d : Parts) (c : Claims) (i : ℕ) (lists : List (List ℕ)) → WaitsForTimes d c i lists → (pause : Pause) (r : ℕ) →
    (DelayEndsBy (list_of (controls_of d i) lists) pause r ↔ DelayPauseEnds d c i pause r)
delay_ends d c i lists has pause r = (
  λ h. (lists, has, there pause h),
  λ y. back pause (subst (λ (l : List (List ℕ)). DelayEnds d i l (next_by pause []) r) (one_lists d c i y.0 lists y.1 has) y.2),
) where
  there : (pause : Pause) → DelayEndsBy (list_of (controls_of d i) lists) pause r → DelayEnds d i lists (next_by pause []) r
  there none h = h
  there (delay number ticks) h = h
  there (event number terms) h = h

  back : (pause : Pause) → DelayEnds d i lists (next_by pause []) r → DelayEndsBy (list_of (controls_of d i) lists) pause r
  back none h = h
  back (delay number ticks) h = h
  back (event number terms) h = h

pub runs_by_lists : (d : Parts) (c : Claims) (i : ℕ) (lists : List (List ℕ)) (t : Chart) (before ends : List (List ℕ)) → WaitsForTimes d c i lists →
    ((p : ℕ) → IsPlace t p → p < places t) → AreRunsBy (Plain (is_wide c)) (DelayEndsBy (list_of (controls_of d i) lists)) t before ends →
    AreRuns (Plain (is_wide c)) (DelayPauseEnds d c i) t before ends
runs_by_lists d c i lists t before ends has inside h =
    runs_by (Plain (is_wide c)) (DelayPauseEnds d c i) (λ pause r y. delay_control d i y.0 pause r y.2) t before ends
    (ends_as (Plain (is_wide c)) (DelayEndsBy (list_of (controls_of d i) lists)) (DelayPauseEnds d c i) t before ends (delay_ends d c i lists has) h) inside

-- and by the terms of event controls
pub fired_runs : (d : Parts) (c : Claims) (i : ℕ) (t : Chart) (before ends : List (List ℕ)) → WaitsForEdges d c i → ((p : ℕ) → IsPlace t p → p < places t) →
    AreRunsBy (Plain (is_wide c)) (λ pause r. EdgeEnds d c (next_by pause []) r) t before ends → AreRuns (Plain (is_wide c)) (EdgePauseEnds d c i) t before ends
fired_runs d c i t before ends waits inside h =
    runs_by (Plain (is_wide c)) (EdgePauseEnds d c i) (λ pause r y. edge_control d c pause r y.1) t before ends
    (ends_as (Plain (is_wide c)) (λ pause r. EdgeEnds d c (next_by pause []) r) (EdgePauseEnds d c i) t before ends (λ pause r. (λ h. (waits, h), λ y. y.1)) h) inside
