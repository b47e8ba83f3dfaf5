-- The rule on processes that wait for edges, of points and of places.
use Rattle.std.proofs.Common.{◌≡◌, ℕ, ◌<◌, ◌≤◌, ◌↔◌, inl, inr, Bool, true, IsTrue, Option, Some, None, List, length, get_or, slice_get, refl, sym, ◌∙◌, ap, subst, arith, ltb-true, lt-ltb}
use Rattle.std.proofs.lemmas.Bool.{false≢true, cases_lt}
use Rattle.std.proofs.lemmas.Option.{none-some, same_Some, slice_get_past, slice_get_within, slice_get-get_or}
use Rattle.std.specs.List.{Contains}
use Rattle.vs_design.specs.declared.design.Process.{Process}
use Rattle.vs_design.specs.declared.statement.EventTerm.{EventTerm}
use Rattle.vs_design.specs.Parts.{Parts}
use Rattle.vs_process.specs.Landings.{todo_after}
use Rattle.vs_process.specs.Places.{Todo}
use Rattle.vs_process.specs.Steps.{Next, on, after, wait}
use Rattle.vs_process.specs.Stops.{stop_at, stop_statement, stops_tos}
use Rattle.vs_process.specs.Ways.{Pause, none, delay, event, next_by}
use Rattle.vs_rules.specs.Points.{Goes, nexts_by}
use Rattle.vs_rules.specs.Claims.{Claims, Kind, edges, mixed, HasMixedLists, IsEdge, IsRootOf, WaitsForEdges, kind_for, kind_of}
use Rattle.vs_rules.specs.Controls.{controls_of, list_of}
use Rattle.vs_rules.specs.Paths.{IsPoint, PathBy, is_zero_time}
use Rattle.vs_rules.specs.Rules.{AreEdges, Arrives, K7}
use Rattle.vs_rules.specs.Slots.{DelayEnds, EdgeEnds, FiresOf}
use Rattle.vs_claims.specs.vs_maps.specs.declared.along.Along.TheVariants.{ZeroTime}
use Rattle.vs_claims.specs.vs_maps.specs.Reaches.{Chart, IsPlace, pause_at, pause_of}
use Rattle.vs_claims.specs.vs_maps.specs.Walks.{takes_time}
use Rattle.vs_claims.specs.vs_maps.proofs.EachWalk.{terms_exact}
use Rattle.vs_claims.specs.vs_maps.proofs.Texts.{place_of, place_back, walk_on, walk_back, step_on, step_back, behind_step, control_on}
use Rattle.vs_claims.specs.vs_maps.specs.Ranges.{HasTermAt}
use Rattle.vs_design.specs.vs_logic4.proofs.Basics.{there as there_is}
use Rattle.vs_rules_of_processes.specs.EdgePlaces.{MayWait, FiresIn, AreArrivalsApart, K7_Places, EdgesAreByPlaces, AreKnown, IsKnown, IsPair}
use Rattle.vs_rules_of_processes.specs.declared.edges.Term.{Term}
use Rattle.vs_claims.specs.Facts.{Case, AreCharts}
use Rattle.vs_rules_of_processes.specs.vs_slots.specs.Runs.{DelayEndsBy, TermsEnd}
use Rattle.vs_rules_of_processes.specs.vs_slots.proofs.KeptLemmas.{process_of, text_of}

abbrev pause_in : Next → Pause
pause_in (on l) = none
pause_in (after n u l) = delay n u
pause_in (wait n ts l) = event n ts

paused : (pause : Pause) (l : Todo) → pause_in (next_by pause l) ≡ pause
paused none l = refl
paused (delay n u) l = refl
paused (event n ts) l = refl

pub pause_as : (pause : Pause) (l : Todo) (next : Next) → next_by pause l ≡ next → pause ≡ pause_in next
pause_as pause l next e = sym (paused pause l) ∙ ap pause_in e

waits_by : (alone : Type 0) (pause : Pause) → ((number : ℕ) (terms : List EventTerm) → pause ≡ event number terms → AreEdges terms) → ((number ticks : ℕ) → pause ≡ delay number ticks → alone → ⊥) →
    MayWait alone pause
waits_by alone none e h = tt
waits_by alone (delay number ticks) e h = h number ticks refl
waits_by alone (event number terms) e h = e number terms refl

-- ---- where a delay comes to an event control

time_is : (pause : Pause) → takes_time pause ≡ true → (number : ℕ) × (ticks : ℕ) × (pause ≡ delay number ticks) × (0 < ticks)
time_is none h = absurd (false≢true h)
time_is (delay number ticks) h = (number, ticks, refl, ltb-true 0 ticks h)
time_is (event number terms) h = absurd (false≢true h)

takes : (pause : Pause) (number ticks : ℕ) → pause ≡ delay number ticks → 0 < ticks → takes_time pause ≡ true
takes pause number ticks e above = subst (λ (x : Pause). takes_time x ≡ true) (sym e) (lt-ltb 0 ticks above)

delay_in : (d : Parts) (i : ℕ) (lists : List (List ℕ)) (next : Next) (r : ℕ) → DelayEnds d i lists next r →
    DelayEndsBy (list_of (controls_of d i) lists) (pause_in next) r
delay_in d i lists (on l) r h = h
delay_in d i lists (after number ticks l) r h = h
delay_in d i lists (wait number terms l) r h = h

delay_on : (d : Parts) (i : ℕ) (lists : List (List ℕ)) (next : Next) (pause : Pause) (r : ℕ) → pause ≡ pause_in next →
    DelayEnds d i lists next r → DelayEndsBy (list_of (controls_of d i) lists) pause r
delay_on d i lists next pause r e h =
    subst (λ (x : Pause). DelayEndsBy (list_of (controls_of d i) lists) x r) (sym e) (delay_in d i lists next r h)

delay_back : (d : Parts) (i : ℕ) (lists : List (List ℕ)) (pause : Pause) (l : Todo) (r : ℕ) → DelayEndsBy (list_of (controls_of d i) lists) pause r → DelayEnds d i lists (next_by pause l) r
delay_back d i lists none l r h = h
delay_back d i lists (delay number ticks) l r h = h
delay_back d i lists (event number terms) l r h = h

terms_in : (d : Parts) (c : Claims) (next : Next) (r : ℕ) → EdgeEnds d c next r → TermsEnd d c (pause_in next) r
terms_in d c (on l) r h = absurd h
terms_in d c (after number ticks l) r h = absurd h
terms_in d c (wait number terms l) r h = h

terms_on : (d : Parts) (c : Claims) (next : Next) (pause : Pause) (r : ℕ) → pause ≡ pause_in next → EdgeEnds d c next r → TermsEnd d c pause r
terms_on d c next pause r e h = subst (λ (x : Pause). TermsEnd d c x r) (sym e) (terms_in d c next r h)

terms_back : (d : Parts) (c : Claims) (pause : Pause) (r : ℕ) → TermsEnd d c pause r → (number : ℕ) × (terms : List EventTerm) × (pause ≡ event number terms) × ((l : Todo) → EdgeEnds d c (next_by pause l) r)
terms_back d c none r h = absurd (omega (arith, h.1.1))
terms_back d c (delay number ticks) r h = absurd (omega (arith, h.1.1))
terms_back d c (event number terms) r h = (number, terms, refl, λ l. h)

-- a process of another kind keeps the rule
pub other_edges : (d : Parts) (c : Claims) (i : ℕ) → (WaitsForEdges d c i → ⊥) → K7 d c i
other_edges d c i not_one = record {
  events = λ k l number terms waits point goes. absurd (not_one waits);
  no_delay = λ k l number ticks edge point goes. not_one (inl edge);
  one_signal = λ x y root waits has also one two. absurd (not_one waits);
  apart = λ one other r waits f g. absurd (not_one waits);
  arrives = λ lists one other r has a ends fires. not_one (inr (lists, has));
}

pub edges_are_by_places : EdgesAreByPlaces
edges_are_by_places d c i q stops start is t = record { edges = λ kind. (there kind, back kind); others = none_of; fires = λ root r. (fires_back root r, fires_on root r) } where
  fires_back : (root r : ℕ) → FiresIn d c (record { stops = stops; start = start }) root r → FiresOf d c i root r
  fires_back root r y = record { term = y.0; has = (terms_exact d i q stops start t is y.0).0 y.1; is_root = y.2; fires = y.3 }

  fires_on : (root r : ℕ) → FiresOf d c i root r → FiresIn d c (record { stops = stops; start = start }) root r
  fires_on root r f = (f.term, (terms_exact d i q stops start t is f.term).1 f.has, f.is_root, f.fires)

  -- the pause of a point with a way
  way : (k : Todo) (next : Next) → IsPoint d i k → Goes k next → (p : ℕ) × IsPlace (record { stops = stops; start = start }) p × (pause_of (stop_statement (stop_at stops p)) ≡ pause_in next)
  way k next point goes =
      let p = place_of d i q stops start t is k point in
      let s = step_on q.body stops start t p.0 next (subst (λ (z : Todo). Goes z next) (sym p.2) goes) in
      (p.0, p.1, pause_as (pause_of (stop_statement (stop_at stops p.0))) (t.at s.0) next s.2)

  arrives_on : ((lists : List (List ℕ)) → HasMixedLists d c i lists → AreArrivalsApart d c (record { stops = stops; start = start }) (list_of (controls_of d i) lists)) →
      (lists : List (List ℕ)) (one other : Next) (r : ℕ) → HasMixedLists d c i lists → Arrives d i one other → DelayEnds d i lists one r → EdgeEnds d c other r → ⊥
  arrives_on apart lists one other r has a ends fires =
      let p = place_of d i q stops start t is a.from a.point in
      let s = step_on q.body stops start t p.0 one (subst (λ (z : Todo). Goes z one) (sym p.2) a.goes) in
      let here = pause_of (stop_statement (stop_at stops p.0)) in
      let paused_here : here ≡ pause_in one = pause_as here (t.at s.0) one s.2 in
      let behind : a.behind ≡ t.at s.0 = sym (ap todo_after a.delay_is) ∙ behind_step here (t.at s.0) one s.2 in
      let w = walk_on q.body stops start t (ZeroTime true) s.0 a.to (subst (λ (z : Todo). PathBy (nexts_by true) is_zero_time z a.to) behind a.path) in
      let v = step_on q.body stops start t w.0 other (subst (λ (z : Todo). Goes z other) (sym w.2) a.waits) in
      let there = pause_of (stop_statement (stop_at stops w.0)) in
      let paused_there : there ≡ pause_in other = pause_as there (t.at v.0) other v.2 in
      let time : takes_time here ≡ true = takes here a.number a.ticks (paused_here ∙ ap pause_in a.delay_is) a.above in
      apart lists has p.0 w.0 (record { from = p.0; to = s.0; is_place = p.1; starts = (refl, time); leads = s.1; reached = w.1 }) r
      (delay_on d i lists one here r paused_here ends) (terms_on d c other there r paused_there fires)

  there : WaitsForEdges d c i → K7_Places d c i (record { stops = stops; start = start }) → K7 d c i
  there kind m = record {
    events = λ k l number terms waits point goes. let p = way k (wait number terms l) point goes in subst (MayWait (IsEdge d c i)) p.2 (m.waits p.0 p.1);
    no_delay = λ k l number ticks edge point goes. let p = way k (after number ticks l) point goes in subst (MayWait (IsEdge d c i)) p.2 (m.waits p.0 p.1) edge;
    one_signal = λ x y root waits has also. m.one_signal x y root ((terms_exact d i q stops start t is x).1 has) ((terms_exact d i q stops start t is y).1 also);
    apart = λ one other r waits f g. m.apart one other r (fires_on one r f) (fires_on other r g);
    arrives = arrives_on m.arrives;
  }

  -- a way of a place with a control
  go : (p : ℕ) (z : Pause) → pause_of (stop_statement (stop_at stops p)) ≡ z → (to : ℕ) → Contains (stops_tos stops p) to → Goes (t.at p) (next_by z (t.at to))
  go p z e to leads = subst (λ (x : Pause). Goes (t.at p) (next_by x (t.at to))) e (step_back q.body stops start t p to leads)

  arrives_back : K7 d c i → (lists : List (List ℕ)) → HasMixedLists d c i lists → AreArrivalsApart d c (record { stops = stops; start = start }) (list_of (controls_of d i) lists)
  arrives_back m lists has x p before r ends fires =
      let here = pause_of (stop_statement (stop_at stops before.from)) in
      let there = pause_of (stop_statement (stop_at stops p)) in
      let time = time_is here before.starts.1 in
      let y = terms_back d c there r fires in
      let w = control_on q.body stops start t p (event y.0 y.1) y.2 refl in
      let ends_here = subst (λ (n : ℕ). DelayEndsBy (list_of (controls_of d i) lists) (pause_of (stop_statement (stop_at stops n))) r) (sym before.starts.0) ends in
      m.arrives lists (next_by here (t.at before.to)) (next_by there (t.at w.0)) r has
      (record {
        from = t.at before.from;
        number = time.0;
        ticks = time.1;
        behind = t.at before.to;
        delay_is = ap (λ (z : Pause). next_by z (t.at before.to)) time.2;
        point = place_back d i q stops start t is before.from before.is_place;
        goes = step_back q.body stops start t before.from before.to before.leads;
        above = time.3;
        to = t.at p;
        path = walk_back q.body stops start t (ZeroTime true) before.to p before.reached;
        waits = step_back q.body stops start t p w.0 w.1;
      })
      (delay_back d i lists here (t.at before.to) r ends_here) (y.3 (t.at w.0))

  back : WaitsForEdges d c i → K7 d c i → K7_Places d c i (record { stops = stops; start = start })
  back kind m = record {
    waits = λ p place. waits_by (IsEdge d c i) (pause_of (stop_statement (stop_at stops p)))
        (λ number terms e. let w = control_on q.body stops start t p (event number terms) e refl in
        m.events (t.at p) (t.at w.0) number terms kind (place_back d i q stops start t is p place) (go p (event number terms) e w.0 w.1))
        (λ number ticks e edge. let w = control_on q.body stops start t p (delay number ticks) e refl in
        m.no_delay (t.at p) (t.at w.0) number ticks edge (place_back d i q stops start t is p place) (go p (delay number ticks) e w.0 w.1));
    one_signal = λ x y root has also. m.one_signal x y root kind ((terms_exact d i q stops start t is x).0 has) ((terms_exact d i q stops start t is y).0 also);
    apart = λ one other r f g. m.apart one other r kind (fires_back one r f) (fires_back other r g);
    arrives = arrives_back m;
  }

  none_of : (WaitsForEdges d c i → ⊥) → K7 d c i
  none_of not_one = other_edges d c i not_one

-- a process of a kind has a chart
no_kind : (c : Claims) (p : Option Process) (k : Kind) → p ≡ None → kind_for c p ≡ Some k → ⊥
no_kind c None k e h = none-some k h
no_kind c (Some q) k e h = none-some q (sym e)

pub has_chart : (f : Case) (i : ℕ) (k : Kind) → AreCharts f.design f.charts → slice_get f.charts i ≡ None → kind_of f.design f.claims i ≡ Some k → ⊥
has_chart f i k maps e h = elim (cases_lt i (length f.charts)) [
  | inl l ↦ let y = there_is f.charts i l in none-some y.0 (sym e ∙ y.1)
  | inr p ↦ no_kind f.claims (slice_get f.design.processes i) k (slice_get_past f.design.processes i (subst (λ (n : ℕ). n ≤ i) maps.as_many p)) h
]

pub edges_chart : (f : Case) (i : ℕ) → AreCharts f.design f.charts → slice_get f.charts i ≡ None → WaitsForEdges f.design f.claims i → ⊥
edges_chart f i maps e (inl h) = has_chart f i edges maps e h
edges_chart f i maps e (inr h) = has_chart f i (mixed h.0) maps e h.1

-- a process that waits for edges, by its chart
pub kept_edges : (f : Case) (i : ℕ) (t : Chart) → AreCharts f.design f.charts → slice_get f.charts i ≡ Some t → WaitsForEdges f.design f.claims i →
    (K7_Places f.design f.claims i t ↔ K7 f.design f.claims i)
kept_edges f i t maps chart kind =
    let q = process_of f i t maps chart in
    (edges_are_by_places f.design f.claims i q.0 t.stops t.start q.1 (text_of f i q.0 t maps q.1 chart)).edges kind

-- terms of one root name one signal, and those of different ones fire apart
pub record ArePaired (d : Parts) (c : Claims) (t : Chart) : Type 0 where
  pub one_signal : (x y : EventTerm) (root : ℕ) → HasTermAt t x → HasTermAt t y → IsRootOf d c root x.range.signal →
      IsRootOf d c root y.range.signal → x.range.signal ≡ y.range.signal
  pub apart : (one other r : ℕ) → FiresIn d c t one r → FiresIn d c t other r → one ≡ other

-- by what is known of the terms of a process
pub pairs_are : (d : Parts) (c : Claims) (t : Chart) (terms : List EventTerm) (known : List Term) (b : Bool) →
    ((x : EventTerm) → (Contains terms x ↔ HasTermAt t x)) → AreKnown d c terms known →
    (IsTrue b ↔ ((j : ℕ) (x : Term) → slice_get known j ≡ Some x → (k : ℕ) (y : Term) → slice_get known k ≡ Some y → IsPair x y)) → (IsTrue b ↔ ArePaired d c t)
pairs_are d c t terms known b exact all pairs = (there, back) where
  -- a term of the process, as it is known
  term : (x : EventTerm) → HasTermAt t x → (j : ℕ) × (k : Term) × (slice_get known j ≡ Some k) × IsKnown d c x k
  term x has =
      let n = (exact x).1 has in
      let at : slice_get terms n.0 ≡ Some x = slice_get-get_or terms n.0 x n.1 ∙ ap Some n.2 in
      let y = there_is known n.0 (subst (λ (m : ℕ). n.0 < m) (sym all.as_many) n.1) in
      (n.0, y.0, y.1, all.each n.0 x y.0 at y.1)

  there : IsTrue b → ArePaired d c t
  there h = record {
    one_signal = λ x y root has also one two.
        let k = term x has in
        let l = term y also in
        sym k.3.0 ∙ (pairs.0 h k.0 k.1 k.2 l.0 l.1 l.2).0 root ((k.3.1 root).1 one) ((l.3.1 root).1 two) ∙ l.3.0;
    apart = λ one other r f g.
        let k = term f.0 f.1 in
        let l = term g.0 g.1 in
        (pairs.0 h k.0 k.1 k.2 l.0 l.1 l.2).1 one other r ((k.3.1 one).1 f.2) ((l.3.1 other).1 g.2) ((k.3.2 r).1 f.3) ((l.3.2 r).1 g.3);
  }

  -- what is known is of a term of the process
  known_of : (j : ℕ) (k : Term) → slice_get known j ≡ Some k → (x : EventTerm) × HasTermAt t x × IsKnown d c x k
  known_of j k e =
      let within : j < length terms = subst (λ (m : ℕ). j < m) all.as_many (slice_get_within known j k e) in
      let y = there_is terms j within in
      (y.0, (exact y.0).0 (j, within, same_Some (get_or terms j y.0) y.0 (sym (slice_get-get_or terms j y.0 within) ∙ y.1)), all.each j y.0 k y.1 e)

  back : ArePaired d c t → IsTrue b
  back m = pairs.1 (λ j a e k z f.
      let x = known_of j a e in
      let y = known_of k z f in (
        λ root one two. x.2.0 ∙ m.one_signal x.0 y.0 root x.1 y.1 ((x.2.1 root).0 one) ((y.2.1 root).0 two) ∙ sym y.2.0,
        λ one other r u v p q. m.apart one other r (x.0, x.1, (x.2.1 one).0 u, (x.2.2 r).0 p) (y.0, y.1, (y.2.1 other).0 v, (y.2.2 r).0 q),
      ))

-- ---- the parts of the rule

may_as : (one other : Type 0) (pause : Pause) → (other → one) → MayWait one pause → MayWait other pause
may_as one other none f h = tt
may_as one other (delay number ticks) f h = λ x. h (f x)
may_as one other (event number terms) f h = h

-- the points of a process, by whether it waits for edges alone
pub waits_are : (d : Parts) (c : Claims) (i : ℕ) (t : Chart) (alone : Bool) → (IsTrue alone ↔ IsEdge d c i) →
    (((p : ℕ) → IsPlace t p → MayWait (IsTrue alone) (pause_at t p)) ↔ ((p : ℕ) → IsPlace t p → MayWait (IsEdge d c i) (pause_at t p)))
waits_are d c i t alone kind = (
  λ h p place. may_as (IsTrue alone) (IsEdge d c i) (pause_at t p) kind.1 (h p place),
  λ h p place. may_as (IsEdge d c i) (IsTrue alone) (pause_at t p) kind.0 (h p place),
)

pub places_are : (d : Parts) (c : Claims) (i : ℕ) (t : Chart) (b : Bool) → ((p : ℕ) → IsPlace t p → MayWait (IsEdge d c i) (pause_at t p)) → ArePaired d c t →
    (IsTrue b ↔ ((lists : List (List ℕ)) → HasMixedLists d c i lists → AreArrivalsApart d c t (list_of (controls_of d i) lists))) → (IsTrue b ↔ K7_Places d c i t)
places_are d c i t b waits paired f = (
  λ h. record { waits = waits; one_signal = paired.one_signal; apart = paired.apart; arrives = f.0 h },
  λ m. f.1 m.arrives,
)
