-- What holds of all points to which paths of a sort lead holds of all places to which walks of that sort lead.
use Rattle.std.proofs.Common.{◌≡◌, ℕ, ◌↔◌, Bool, false, true, Some, List, [], ◌∷◌, slice_get, refl, sym, subst, arith}
use Rattle.std.specs.List.{Contains}
use Rattle.std.proofs.lemmas.Bool.{false≢true}
use Rattle.vs_design.specs.declared.design.Process.{Process}
use Rattle.vs_design.specs.declared.range.BitRange.{BitRange}
use Rattle.vs_design.specs.declared.statement.EventTerm.{EventTerm}
use Rattle.vs_design.specs.Parts.{Parts}
use Rattle.vs_process.specs.Places.{Todo, flat}
use Rattle.vs_process.specs.Steps.{Next, wait}
use Rattle.vs_process.specs.Numbers.{number_next}
use Rattle.vs_process.specs.Ways.{Pause, none, delay, event, next_by}
use Rattle.vs_process.specs.Stops.{Stop, stop_at, stop_statement, stops_tos, stops_next, IsText}
use Rattle.vs_rules.specs.Points.{Goes, first_todo, nexts_by}
use Rattle.vs_rules.specs.Paths.{ListsSignal, PathFromBy, IsPoint, IsLate, IsHot, WritesNow, WritesLater, HasTerm, is_plain}
use Rattle.vs_graph.specs.Reached.{Reached}
use Rattle.vs_maps.specs.declared.along.Along.{Along}
use Rattle.vs_maps.specs.declared.along.Along.TheVariants.{Any, ZeroTime}
use Rattle.vs_maps.specs.Ranges.{HasSignal, HasTermAt, now_at, later_at, pause_terms}
use Rattle.vs_maps.specs.Reaches.{is_turned, pause_of, stops_along}
use Rattle.vs_maps.specs.Walks.{WalkFrom, HasControl, InLate, InHot, is_control}
use Rattle.vs_maps.proofs.EachPoint.{now_here, later_here}
use Rattle.vs_maps.proofs.Join.{same_place}
use Rattle.vs_maps.proofs.RangeLemmas.{lists_signal}
use Rattle.vs_maps.proofs.Texts.{PathAlong, ok_of, place_of, place_back, walk_on, walk_back, from_on, from_back, step_on, step_back, control_on, behind_step}

-- ---- once a way of some sort has been gone

-- a sort of places is a sort of ways
abbrev pub AreSorts : List Stop → (ℕ → Todo) → (ℕ → Type 0) → (Todo → Next → Type 0) → Type 0
AreSorts stops at starts sort =
    (p to : ℕ) → Contains (stops_tos stops p) to → (starts p ↔ sort (at p) (next_by (pause_of (stop_statement (stop_at stops p))) (at to)))

-- a path along the ways that count leads to the point once a way of some sort has been gone
abbrev pub PathFromAlong : Along → Parts → ℕ → (Todo → Next → Type 0) → Todo → Type 0
PathFromAlong along d i sort k = PathFromBy (nexts_by (is_turned along)) d i sort (ok_of along) k

-- a walk is a path
pub walk_path : (d : Parts) (i : ℕ) (q : Process) (stops : List Stop) (start : ℕ) (t : IsText q.body stops start) → slice_get d.processes i ≡ Some q → (along : Along)
    (starts : ℕ → Type 0) (sort : Todo → Next → Type 0) → AreSorts stops t.at starts sort → (p : ℕ) → WalkFrom (record { stops = stops; start = start }) along starts p →
    PathFromAlong along d i sort (t.at p)
walk_path d i q stops start t is along starts sort sorts p w = record {
  at = t.at w.from;
  next = next_by (pause_of (stop_statement (stop_at stops w.from))) (t.at w.to);
  point = place_back d i q stops start t is w.from w.is_place;
  goes = step_back q.body stops start t w.from w.to w.leads;
  starts = (sorts w.from w.to w.leads).0 w.starts;
  path = subst (λ (l : Todo). PathAlong along l (t.at p))
      (sym (behind_step (pause_of (stop_statement (stop_at stops w.from))) (t.at w.to) (next_by (pause_of (stop_statement (stop_at stops w.from))) (t.at w.to)) refl))
      (walk_back q.body stops start t along w.to p w.reached);
}

-- a path is a walk
pub path_walk : (d : Parts) (i : ℕ) (q : Process) (stops : List Stop) (start : ℕ) (t : IsText q.body stops start) → slice_get d.processes i ≡ Some q → (along : Along)
    (starts : ℕ → Type 0) (sort : Todo → Next → Type 0) → AreSorts stops t.at starts sort → (k : Todo) → PathFromAlong along d i sort k →
    (p : ℕ) × WalkFrom (record { stops = stops; start = start }) along starts p × (t.at p ≡ k)
path_walk d i q stops start t is along starts sort sorts k b =
    let y = place_of d i q stops start t is b.at b.point in
    let g = step_on q.body stops start t y.0 b.next (subst (λ (z : Todo). Goes z b.next) (sym y.2) b.goes) in
    let s : sort (t.at y.0) (next_by (pause_of (stop_statement (stop_at stops y.0))) (t.at g.0)) =
    subst (λ (z : Todo). sort z (next_by (pause_of (stop_statement (stop_at stops y.0))) (t.at g.0))) (sym y.2) (subst (sort b.at) (sym g.2) b.starts) in
    let r = walk_on q.body stops start t along g.0 k
    (subst (λ (l : Todo). PathAlong along l k) (behind_step (pause_of (stop_statement (stop_at stops y.0))) (t.at g.0) b.next g.2) b.path) in
    (r.0, record { from = y.0; to = g.0; is_place = y.1; starts = (sorts y.0 g.0 g.1).1 s; leads = g.1; reached = r.1 }, r.2)

-- what holds of all of the one holds of all of the other
pub each_walk : (d : Parts) (i : ℕ) (q : Process) (stops : List Stop) (start : ℕ) (t : IsText q.body stops start) → slice_get d.processes i ≡ Some q → (along : Along)
    (starts : ℕ → Type 0) (sort : Todo → Next → Type 0) → AreSorts stops t.at starts sort → (P : Todo → Type 0) →
    (((p : ℕ) → WalkFrom (record { stops = stops; start = start }) along starts p → P (t.at p)) ↔ ((k : Todo) → PathFromAlong along d i sort k → P k))
each_walk d i q stops start t is along starts sort sorts P = (
  λ all k b. let y = path_walk d i q stops start t is along starts sort sorts k b in subst P y.2 (all y.0 y.1),
  λ all p w. all (t.at p) (walk_path d i q stops start t is along starts sort sorts p w),
)

-- at a place where something is done they are the same
pub walk_exact : (d : Parts) (i : ℕ) (q : Process) (stops : List Stop) (start : ℕ) (t : IsText q.body stops start) → slice_get d.processes i ≡ Some q → (along : Along)
    (starts : ℕ → Type 0) (sort : Todo → Next → Type 0) → AreSorts stops t.at starts sort → (p n : ℕ) → number_next (t.at p) ≡ Some n →
    (WalkFrom (record { stops = stops; start = start }) along starts p ↔ PathFromAlong along d i sort (t.at p))
walk_exact d i q stops start t is along starts sort sorts p n numbered = (
  walk_path d i q stops start t is along starts sort sorts p,
  λ b. same_place (flat q.body) t.at start (stops_next stops) (stops_tos stops) t.is_map (WalkFrom (record { stops = stops; start = start }) along starts) p n numbered
      (path_walk d i q stops start t is along starts sort sorts (t.at p) b),
)

-- ---- from the start

-- what holds of all points to which such paths lead from the start
pub each_from : (d : Parts) (i : ℕ) (q : Process) (stops : List Stop) (start : ℕ) (t : IsText q.body stops start) → slice_get d.processes i ≡ Some q → (along : Along)
    (P : Todo → Type 0) → (((p : ℕ) → Reached (stops_along along stops) (start ∷ []) p → P (t.at p)) ↔ ((k : Todo) → PathAlong along (first_todo d i) k → P k))
each_from d i q stops start t is along P = (
  λ all k h. let y = from_on d i q stops start t is along k h in subst P y.2 (all y.0 y.1),
  λ all p h. all (t.at p) (from_back d i q stops start t is along p h),
)

-- ---- sorts

-- what is written at a place by `=`, and by `<=`
pub writes_now_at : (d : Parts) (q : Process) (stops : List Stop) (start : ℕ) (t : IsText q.body stops start) (v p : ℕ) →
    (HasSignal (now_at (record { stops = stops; start = start }) p) v ↔ WritesNow d (t.at p) v)
writes_now_at d q stops start t v p =
    subst (λ (rs : List BitRange). (HasSignal (now_at (record { stops = stops; start = start }) p) v ↔ ListsSignal d rs v)) (sym (now_here q.body stops start t p))
    (lists_signal d (now_at (record { stops = stops; start = start }) p) v)

pub writes_later_at : (d : Parts) (q : Process) (stops : List Stop) (start : ℕ) (t : IsText q.body stops start) (v p : ℕ) →
    (HasSignal (later_at (record { stops = stops; start = start }) p) v ↔ WritesLater d (t.at p) v)
writes_later_at d q stops start t v p =
    subst (λ (rs : List BitRange). (HasSignal (later_at (record { stops = stops; start = start }) p) v ↔ ListsSignal d rs v)) (sym (later_here q.body stops start t p))
    (lists_signal d (later_at (record { stops = stops; start = start }) p) v)

control_plain : (pause : Pause) (l : Todo) → ((is_control pause ≡ true) ↔ (is_plain (next_by pause l) ≡ false))
control_plain none l = (λ h. absurd (false≢true h), λ h. absurd (false≢true (sym h)))
control_plain (delay number ticks) l = (λ h. refl, λ h. refl)
control_plain (event number terms) l = (λ h. refl, λ h. refl)

-- a control
pub late_sorts : (q : Process) (stops : List Stop) (start : ℕ) (t : IsText q.body stops start) →
    AreSorts stops t.at (HasControl (record { stops = stops; start = start })) (λ k next. is_plain next ≡ false)
late_sorts q stops start t p to leads = control_plain (pause_of (stop_statement (stop_at stops p))) (t.at to)

-- a write by `=`
pub hot_sorts : (d : Parts) (q : Process) (stops : List Stop) (start : ℕ) (t : IsText q.body stops start) (v : ℕ) →
    AreSorts stops t.at (λ p. HasSignal (now_at (record { stops = stops; start = start }) p) v) (λ k next. WritesNow d k v)
hot_sorts d q stops start t v p to leads = writes_now_at d q stops start t v p

pub late_exact : (d : Parts) (i : ℕ) (q : Process) (stops : List Stop) (start : ℕ) (t : IsText q.body stops start) → slice_get d.processes i ≡ Some q → (p n : ℕ) →
    number_next (t.at p) ≡ Some n → (InLate (record { stops = stops; start = start }) p ↔ IsLate d i (t.at p))
late_exact d i q stops start t is =
    walk_exact d i q stops start t is Any (HasControl (record { stops = stops; start = start })) (λ k next. is_plain next ≡ false) (late_sorts q stops start t)

pub hot_exact : (d : Parts) (i : ℕ) (q : Process) (stops : List Stop) (start : ℕ) (t : IsText q.body stops start) → slice_get d.processes i ≡ Some q → (wide : Bool) (v p n : ℕ) →
    number_next (t.at p) ≡ Some n → (InHot wide (record { stops = stops; start = start }) v p ↔ IsHot d wide i v (t.at p))
hot_exact d i q stops start t is wide v =
    walk_exact d i q stops start t is (ZeroTime wide) (λ p. HasSignal (now_at (record { stops = stops; start = start }) p) v) (λ k next. WritesNow d k v) (hot_sorts d q stops start t v)

-- ---- terms

pub terms_in : (pause : Pause) (l : Todo) (number : ℕ) (terms : List EventTerm) (behind : Todo) (term : EventTerm) → next_by pause l ≡ wait number terms behind → Contains terms term →
    Contains (pause_terms pause) term
terms_in none l number terms behind term e h = absurd (cc)
terms_in (delay n ticks) l number terms behind term e h = absurd (cc)
terms_in (event n ts) l number terms behind term e h = subst (λ (x : List EventTerm). Contains x term) (sym (cc)) h

terms_out : (d : Parts) (i : ℕ) (k l : Todo) (pause : Pause) (term : EventTerm) → IsPoint d i k → Goes k (next_by pause l) → Contains (pause_terms pause) term → HasTerm d i term
terms_out d i k l none term point goes h = absurd (omega (arith, h.1))
terms_out d i k l (delay n ticks) term point goes h = absurd (omega (arith, h.1))
terms_out d i k l (event n terms) term point goes h = record { control = k; number = n; terms = terms; behind = l; point = point; goes = goes; is = h }

pub term_way : (q : Process) (stops : List Stop) (start : ℕ) (t : IsText q.body stops start) (p : ℕ) (pause : Pause) (term : EventTerm) → pause_of (stop_statement (stop_at stops p)) ≡ pause →
    Contains (pause_terms pause) term → (to : ℕ) × Contains (stops_tos stops p) to
term_way q stops start t p none term e h = absurd (omega (arith, h.1))
term_way q stops start t p (delay n ticks) term e h = absurd (omega (arith, h.1))
term_way q stops start t p (event n terms) term e h = control_on q.body stops start t p (event n terms) e refl

-- the terms at the places of a map are those of its text
pub terms_exact : (d : Parts) (i : ℕ) (q : Process) (stops : List Stop) (start : ℕ) (t : IsText q.body stops start) → slice_get d.processes i ≡ Some q → (term : EventTerm) →
    (HasTermAt (record { stops = stops; start = start }) term ↔ HasTerm d i term)
terms_exact d i q stops start t is term = (
  λ y. let w = term_way q stops start t y.0 (pause_of (stop_statement (stop_at stops y.0))) term refl y.2 in
      terms_out d i (t.at y.0) (t.at w.0) (pause_of (stop_statement (stop_at stops y.0))) term (place_back d i q stops start t is y.0 y.1) (step_back q.body stops start t y.0 w.0 w.1) y.2,
  λ h. let y = place_of d i q stops start t is h.control h.point in
      let g = step_on q.body stops start t y.0 (wait h.number h.terms h.behind) (subst (λ (z : Todo). Goes z (wait h.number h.terms h.behind)) (sym y.2) h.goes) in
      (y.0, y.1, terms_in (pause_of (stop_statement (stop_at stops y.0))) (t.at g.0) h.number h.terms h.behind term g.2 h.is),
)
