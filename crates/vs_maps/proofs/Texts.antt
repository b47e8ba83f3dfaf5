-- What walks on the map of a process lead to, as paths of its text.
use Rattle.std.proofs.Common.{◌≡◌, ℕ, ◌++◌, ◌&&◌, Bool, true, false, Some, List, [], ◌∷◌, map, slice_get, refl, sym, ◌∙◌, ap, subst, if◌then◌else◌}
use Rattle.std.specs.List.{Contains}
use Rattle.vs_design.specs.declared.design.Process.{Process}
use Rattle.vs_design.specs.declared.statement.Statement.{Statement}
use Rattle.vs_design.specs.Parts.{Parts}
use Rattle.vs_design.specs.declared.statement.Statement.TheOpen.{Statement-F}
use Rattle.vs_design.specs.declared.statement.Statement.TheViews.{out-Statement}
use Rattle.std.proofs.lemmas.Bool.{false≢true}
use Rattle.vs_process.specs.Nexts.{statement_nexts}
use Rattle.vs_process.specs.Landings.{todo_after}
use Rattle.vs_process.specs.Places.{perform, turns, Todo, flat}
use Rattle.vs_process.specs.Steps.{Next, after, wait}
use Rattle.vs_process.specs.Ways.{Pause, none, delay, event, next_by}
use Rattle.vs_process.specs.Maps.{statement_pause, todo_pause}
use Rattle.vs_process.specs.Stops.{Stop, stop_at, stop_statement, stops_tos, stops_next, next_statement, IsText}
use Rattle.vs_rules.specs.Points.{Among, Goes, Point, first_todo, nexts_by, todo_turns}
use Rattle.vs_rules.proofs.Texts.{begins_with}
use Rattle.vs_rules.specs.Paths.{PathBy, IsPoint, any_way, is_plain, is_zero_time}
use Rattle.vs_graph.specs.Reached.{Reached, begins, goes_on}
use Rattle.vs_maps.specs.declared.along.Along.{Along}
use Rattle.vs_maps.specs.declared.along.Along.TheVariants.{Any, Plain, ZeroTime}
use Rattle.vs_maps.specs.Laws.{Alike}
use Rattle.vs_maps.specs.Reaches.{is_turned, passes, pause_of, statement_turns, stops_along, tos_by_turn, IsPlace}
use Rattle.vs_maps.proofs.Join.{go, gone, only, head_in, behind_next, point_on, point_back, path_on, path_back, tos_along}

-- the same edges lead to the same
pub reached_same : (f g : ℕ → List ℕ) (seeds : List ℕ) → ((p : ℕ) → f p ≡ g p) → (k : ℕ) → Reached f seeds k → Reached g seeds k
reached_same f g seeds e _ (begins a h) = begins a h
reached_same f g seeds e _ (goes_on a b h c) = goes_on a b (reached_same f g seeds e a h) (subst (λ (l : List ℕ). Contains l b) (e a) c)

pause_is : (k : Todo) → todo_pause k ≡ pause_of (next_statement k)
pause_is [] = refl
pause_is (perform s ∷ rest) = refl
pause_is (turns n s ∷ rest) = refl

-- the pause of a place
pub pause_here : (body : Statement) (stops : List Stop) (start : ℕ) (t : IsText body stops start) (p : ℕ) → todo_pause (t.at p) ≡ pause_of (stop_statement (stop_at stops p))
pause_here body stops start t p = pause_is (t.at p) ∙ ap pause_of (t.says p)

turns_is : (k : Todo) → todo_turns k ≡ statement_turns (next_statement k)
turns_is [] = refl
turns_is (perform s ∷ rest) = refl
turns_is (turns n s ∷ rest) = refl

-- whether there surely is a turn
pub turns_here : (body : Statement) (stops : List Stop) (start : ℕ) (t : IsText body stops start) (p : ℕ) → todo_turns (t.at p) ≡ statement_turns (stop_statement (stop_at stops p))
turns_here body stops start t p = turns_is (t.at p) ∙ ap statement_turns (t.says p)

pub along_is : (body : Statement) (stops : List Stop) (start : ℕ) (t : IsText body stops start) (along : Along) (p : ℕ) →
    stops_along along stops p ≡ tos_along (is_turned along) (passes along) t.at (stops_tos stops) p
along_is body stops start t along p =
    ap (λ (x : Pause). if passes along x then tos_by_turn (is_turned along && statement_turns (stop_statement (stop_at stops p))) (stops_tos stops p) else []) (sym (pause_here body stops start t p))
    ∙ ap (λ (x : Bool). if passes along (todo_pause (t.at p)) then tos_by_turn (is_turned along && x) (stops_tos stops p) else []) (sym (turns_here body stops start t p))

-- which ways of a text count
abbrev pub ok_of : Along → Next → Bool
ok_of Any = any_way
ok_of (Plain by_turn) = is_plain
ok_of (ZeroTime by_turn) = is_zero_time

pub alike : (along : Along) → Alike (ok_of along) (passes along)
alike Any none l = refl
alike Any (delay number ticks) l = refl
alike Any (event number terms) l = refl
alike (Plain by_turn) none l = refl
alike (Plain by_turn) (delay number ticks) l = refl
alike (Plain by_turn) (event number terms) l = refl
alike (ZeroTime by_turn) none l = refl
alike (ZeroTime by_turn) (delay number ticks) l = refl
alike (ZeroTime by_turn) (event number terms) l = refl

-- ---- walks and paths

-- a path along the ways that count
abbrev pub PathAlong : Along → Todo → Todo → Type 0
PathAlong along k l = PathBy (nexts_by (is_turned along)) (ok_of along) k l

pub walk_back : (body : Statement) (stops : List Stop) (start : ℕ) (t : IsText body stops start) (along : Along) (p q : ℕ) → Reached (stops_along along stops) (p ∷ []) q →
    PathAlong along (t.at p) (t.at q)
walk_back body stops start t along p q h =
    let y = path_back (flat body) t.at start (stops_next stops) (stops_tos stops) (is_turned along) (ok_of along) (passes along) t.is_map (alike along) (p ∷ []) q
    (reached_same (stops_along along stops) (tos_along (is_turned along) (passes along) t.at (stops_tos stops)) (p ∷ []) (along_is body stops start t along) q h) in
    subst (λ (a : ℕ). PathAlong along (t.at a) (t.at q)) (sym (only p y.0 y.1)) y.2

pub walk_on : (body : Statement) (stops : List Stop) (start : ℕ) (t : IsText body stops start) (along : Along) (p : ℕ) (l : Todo) → PathAlong along (t.at p) l →
    (q : ℕ) × Reached (stops_along along stops) (p ∷ []) q × (t.at q ≡ l)
walk_on body stops start t along p l h =
    let y = path_on (flat body) t.at start (stops_next stops) (stops_tos stops) (is_turned along) (ok_of along) (passes along) t.is_map (alike along) (p ∷ []) p (head_in p []) l h in
    (y.0, reached_same (tos_along (is_turned along) (passes along) t.at (stops_tos stops)) (stops_along along stops) (p ∷ []) (λ p. sym (along_is body stops start t along p)) y.0 y.1, y.2)

-- ---- of a process

pub place_of : (d : Parts) (i : ℕ) (q : Process) (stops : List Stop) (start : ℕ) (t : IsText q.body stops start) → slice_get d.processes i ≡ Some q → (k : Todo) → IsPoint d i k →
    (p : ℕ) × IsPlace (record { stops = stops; start = start }) p × (t.at p ≡ k)
place_of d i q stops start t is k h =
    point_on (flat q.body) t.at start (stops_next stops) (stops_tos stops) t.is_map k (subst (λ (f : Todo). Point f k) (begins_with d i q is) h)

pub place_back : (d : Parts) (i : ℕ) (q : Process) (stops : List Stop) (start : ℕ) (t : IsText q.body stops start) → slice_get d.processes i ≡ Some q → (p : ℕ) →
    IsPlace (record { stops = stops; start = start }) p → IsPoint d i (t.at p)
place_back d i q stops start t is p h =
    subst (λ (f : Todo). Point f (t.at p)) (sym (begins_with d i q is)) (point_back (flat q.body) t.at start (stops_next stops) (stops_tos stops) t.is_map p h)

-- from the start, along some ways
pub from_on : (d : Parts) (i : ℕ) (q : Process) (stops : List Stop) (start : ℕ) (t : IsText q.body stops start) → slice_get d.processes i ≡ Some q → (along : Along) (k : Todo) →
    PathAlong along (first_todo d i) k → (p : ℕ) × Reached (stops_along along stops) (start ∷ []) p × (t.at p ≡ k)
from_on d i q stops start t is along k h =
    walk_on q.body stops start t along start k (subst (λ (f : Todo). PathAlong along f k) (begins_with d i q is ∙ sym t.is_map.start_is) h)

pub from_back : (d : Parts) (i : ℕ) (q : Process) (stops : List Stop) (start : ℕ) (t : IsText q.body stops start) → slice_get d.processes i ≡ Some q → (along : Along) (p : ℕ) →
    Reached (stops_along along stops) (start ∷ []) p → PathAlong along (first_todo d i) (t.at p)
from_back d i q stops start t is along p h =
    subst (λ (f : Todo). PathAlong along f (t.at p)) (t.is_map.start_is ∙ sym (begins_with d i q is)) (walk_back q.body stops start t along start p h)

-- ---- one step

pub step_on : (body : Statement) (stops : List Stop) (start : ℕ) (t : IsText body stops start) (p : ℕ) (next : Next) → Goes (t.at p) next →
    (to : ℕ) × Contains (stops_tos stops p) to × (next_by (pause_of (stop_statement (stop_at stops p))) (t.at to) ≡ next)
step_on body stops start t p next h =
    let y = go (flat body) t.at start (stops_next stops) (stops_tos stops) t.is_map p next h in
    (y.0, y.1, ap (λ (x : Pause). next_by x (t.at y.0)) (sym (pause_here body stops start t p)) ∙ y.2)

pub step_back : (body : Statement) (stops : List Stop) (start : ℕ) (t : IsText body stops start) (p to : ℕ) → Contains (stops_tos stops p) to →
    Goes (t.at p) (next_by (pause_of (stop_statement (stop_at stops p))) (t.at to))
step_back body stops start t p to h =
    subst (λ (x : Pause). Goes (t.at p) (next_by x (t.at to))) (pause_here body stops start t p) (gone (flat body) t.at start (stops_next stops) (stops_tos stops) t.is_map p to h)

-- ---- a control has a way

abbrev is_pause : Pause → Bool
is_pause none = false
is_pause (delay number ticks) = true
is_pause (event number terms) = true

statement_goes : (s : Statement) (f : Statement-F Statement) (rest : Todo) → is_pause (statement_pause f) ≡ true → (next : Next) × Among next (statement_nexts s f rest)
statement_goes s (Statement-F.Delay n ticks body) rest h = (after n ticks.count (flat body.value ++ rest), Among.first [])
statement_goes s (Statement-F.Event n terms body) rest h = (wait n terms.items (flat body.value ++ rest), Among.first [])
statement_goes s (Statement-F.Null n) rest h = absurd (false≢true h)
statement_goes s (Statement-F.Assign n t e) rest h = absurd (false≢true h)
statement_goes s (Statement-F.Later n ticks t e) rest h = absurd (false≢true h)
statement_goes s (Statement-F.Call n c) rest h = absurd (false≢true h)
statement_goes s (Statement-F.Finish n) rest h = absurd (false≢true h)
statement_goes s (Statement-F.Block all) rest h = absurd (false≢true h)
statement_goes s (Statement-F.If n e a b) rest h = absurd (false≢true h)
statement_goes s (Statement-F.Case n kind e items) rest h = absurd (false≢true h)
statement_goes s (Statement-F.While n e body) rest h = absurd (false≢true h)
statement_goes s (Statement-F.Repeat n signed e body) rest h = absurd (false≢true h)
statement_goes s (Statement-F.Forever n body) rest h = absurd (false≢true h)

todo_goes : (k : Todo) → is_pause (todo_pause k) ≡ true → (next : Next) × Goes k next
todo_goes [] h = absurd (false≢true h)
todo_goes (perform s ∷ rest) h = statement_goes s (out-Statement s) rest h
todo_goes (turns n s ∷ rest) h = absurd (false≢true h)

pub control_on : (body : Statement) (stops : List Stop) (start : ℕ) (t : IsText body stops start) (p : ℕ) (pause : Pause) → pause_of (stop_statement (stop_at stops p)) ≡ pause → is_pause pause ≡ true →
    (to : ℕ) × Contains (stops_tos stops p) to
control_on body stops start t p pause e h =
    let g = todo_goes (t.at p) (ap is_pause (pause_here body stops start t p ∙ e) ∙ h) in
    let s = step_on body stops start t p g.0 g.1 in
    (s.0, s.1)

-- what is left after a way is that of its place
pub behind_step : (pause : Pause) (l : Todo) (next : Next) → next_by pause l ≡ next → todo_after next ≡ l
behind_step pause l next e = sym (ap todo_after e) ∙ behind_next pause l
