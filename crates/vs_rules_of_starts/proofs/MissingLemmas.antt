-- Walks on which nothing of a sort is done, by marks, and by paths of a text.
use Rattle.std.proofs.Common.{◌≡◌, ◌↔◌, ◌++◌, ℕ, zero, suc, ◌<◌, not, Bool, true, false, IsTrue, Option, Some, List, [], ◌∷◌, map, slice_get, slice_index_or, refl, sym, ◌∙◌, ap, subst, arith, if◌then◌else◌, ◌==◌, eqb-true}
use Rattle.std.specs.List.{Contains}
use Rattle.std.proofs.lemmas.Bool.{false≢true, true≢false, false_from_ne_true, or_left, or_right, or_from}
use Rattle.std.proofs.lemmas.Option.{none-some}
use Rattle.vs_design.specs.declared.design.Process.{Process}
use Rattle.vs_design.specs.declared.statement.EventTerm.{EventTerm}
use Rattle.vs_design.specs.declared.expression.Typed.{Typed}
use Rattle.vs_design.specs.declared.statement.Statement.{Statement}
use Rattle.vs_design.specs.declared.statement.Statement.TheOpen.{Statement-F}
use Rattle.vs_design.specs.declared.statement.Statement.TheViews.{out-Statement}
use Rattle.vs_design.specs.declared.statement.Target.{Target}
use Rattle.vs_design.specs.Parts.{Parts}
use Rattle.vs_rules_of_starts.specs.vs_process.specs.Places.{perform, turns, Todo, flat}
use Rattle.vs_rules_of_starts.specs.vs_process.specs.Nexts.{nexts}
use Rattle.vs_rules_of_starts.specs.vs_process.specs.Steps.{Next, on, after, wait}
use Rattle.vs_rules_of_starts.specs.vs_process.specs.Ways.{Pause, none, delay, event, next_by}
use Rattle.vs_rules_of_starts.specs.vs_process.specs.Maps.{statement_pause, todo_pause}
use Rattle.vs_rules_of_starts.specs.vs_process.specs.Stops.{LeadsIn, Stop, stops_tos, next_statement, IsText}
use Rattle.vs_graph.specs.Reached.{Reached, AreReached, begins, goes_on}
use Rattle.vs_drivers.specs.vs_maps.specs.declared.along.Along.TheVariants.{ZeroTime}
use Rattle.vs_drivers.specs.vs_maps.specs.Reaches.{Chart, InSlot0, passes, pause_at, places}
use Rattle.vs_drivers.specs.vs_maps.specs.Inside.{along_in}
use Rattle.vs_drivers.specs.vs_maps.specs.Ranges.{statement_at}
use Rattle.vs_drivers.specs.vs_maps.specs.Walks.{AreMarked}
use Rattle.vs_drivers.specs.vs_maps.proofs.Join.{only, head_in}
use Rattle.vs_rules.proofs.Texts.{begins_with}
use Rattle.vs_drivers.specs.vs_maps.proofs.Texts.{pause_here, step_on, step_back, control_on}
use Rattle.vs_rules.specs.Points.{Goes}
use Rattle.vs_rules.specs.Blocks.{Begins, Missing, statement_update, todo_update}
use Rattle.vs_rules_of_starts.specs.Missing.{MissingAt, unmarked, is_end, is_one, stops_here, IsSure}
use Rattle.vs_rules_of_starts.specs.Inside.{unmarked_in}
use Rattle.vs_rules_of_starts.specs.Started.{EndsNowhere}

-- ---- by marks

pub is_true : (b : Bool) → IsTrue b → b ≡ true
is_true true h = refl
is_true false h = absurd (let e : false ≡ true = grind (arith, h) in false≢true e)

pub true_is : (b : Bool) → b ≡ true → IsTrue b
true_is b e = subst IsTrue (sym e) (grind arith)

leads : (marked passing : Bool) (tos : List ℕ) (q : ℕ) → Contains (if marked then [] else (if passing then tos else [])) q → (marked ≡ false) × (passing ≡ true) × Contains tos q
leads true passing tos q h = absurd (omega (arith, h.1))
leads false false tos q h = absurd (omega (arith, h.1))
leads false true tos q h = (refl, refl, h)

led : (marked passing : Bool) (tos : List ℕ) (q : ℕ) → marked ≡ false → passing ≡ true → Contains tos q → Contains (if marked then [] else (if passing then tos else [])) q
led marked passing tos q m p h =
    subst (λ (x : Bool). Contains (if x then [] else (if passing then tos else [])) q) (sym m) (subst (λ (x : Bool). Contains (if x then tos else []) q) (sym p) h)

-- marks of all places say what is done there
record AreMarksOf (t : Chart) (sort : ℕ → Type 0) (marks : List Bool) : Type 0 where
  starts_in : t.start < places t
  leads_in : LeadsIn (places t) t.stops
  marked : AreMarked sort (places t) marks

reached_below : (t : Chart) (sort : ℕ → Type 0) (marks : List Bool) → AreMarksOf t sort marks → (p : ℕ) → Reached (unmarked marks t.stops) (t.start ∷ []) p → p < places t
reached_below t sort marks told _ (begins a h) = subst (λ (n : ℕ). n < places t) (only t.start a h) told.starts_in
reached_below t sort marks told _ (goes_on a b r h) = unmarked_in marks (places t) t.stops told.leads_in a b h

to_missing : (t : Chart) (sort : ℕ → Type 0) (marks : List Bool) → AreMarksOf t sort marks → (p : ℕ) → Reached (unmarked marks t.stops) (t.start ∷ []) p → MissingAt t sort p
to_missing t sort marks told _ (begins a h) = subst (MissingAt t sort) (only t.start a h) MissingAt.begins
to_missing t sort marks told _ (goes_on a b r h) =
    let l = leads (slice_index_or marks a false) (passes (ZeroTime false) (pause_at t a)) (stops_tos t.stops a) b h in
    MissingAt.goes_on a b (to_missing t sort marks told a r)
    (λ done. true≢false (sym (is_true (slice_index_or marks a false) ((told.marked a (reached_below t sort marks told a r)).1 done)) ∙ l.0)) l.1 l.2

missing_below : (t : Chart) (sort : ℕ → Type 0) (marks : List Bool) → AreMarksOf t sort marks → (p : ℕ) → MissingAt t sort p → p < places t
missing_below t sort marks told _ MissingAt.begins = told.starts_in
missing_below t sort marks told _ (MissingAt.goes_on p q h free passing to) = told.leads_in.ways p q to

from_missing : (t : Chart) (sort : ℕ → Type 0) (marks : List Bool) → AreMarksOf t sort marks → (p : ℕ) → MissingAt t sort p → Reached (unmarked marks t.stops) (t.start ∷ []) p
from_missing t sort marks told _ MissingAt.begins = begins t.start (head_in t.start [])
from_missing t sort marks told _ (MissingAt.goes_on p q h free passing to) =
    goes_on p q (from_missing t sort marks told p h)
    (led (slice_index_or marks p false) (passes (ZeroTime false) (pause_at t p)) (stops_tos t.stops p) q
    (false_from_ne_true (slice_index_or marks p false) (λ m. free ((told.marked p (missing_below t sort marks told p h)).0 (true_is (slice_index_or marks p false) m)))) passing to)

-- whether each walk is sure to have it, by the places that walks from the start lead to
pub sure_is : (t : Chart) (sort : ℕ → Type 0) (marks reached : List Bool) → t.start < places t → LeadsIn (places t) t.stops → AreMarked sort (places t) marks →
    (n : ℕ) → n ≡ places t → AreReached (unmarked marks t.stops) (t.start ∷ []) (places t) reached → (b : Bool) →
    (IsTrue b ↔ ((p : ℕ) → p < n → IsTrue (slice_index_or reached p false) → stops_here t p ≡ false)) → (IsTrue b ↔ IsSure t sort)
sure_is t sort marks reached starts leads_in marked n long exact b told = (
  λ h p m.
      let lt : p < places t = missing_below t sort marks all p m in
      told.0 h p (subst (λ (m : ℕ). p < m) (sym long) lt) ((exact p lt).1 (from_missing t sort marks all p m)),
  λ sure. told.1 (λ p lt mark. sure p (to_missing t sort marks all p ((exact p (subst (λ (m : ℕ). p < m) long lt)).0 mark))),
)
  where
    all : AreMarksOf t sort marks
    all = record { starts_in = starts; leads_in = leads_in; marked = marked }

-- ---- by paths of a text

abbrev chart : List Stop → ℕ → Chart
chart stops start = record { stops = stops; start = start }

by_none : (pause : Pause) (l m : Todo) → next_by pause l ≡ on m → (pause ≡ none) × (l ≡ m)
by_none none l m e = (refl, let f : l ≡ m = cc in f)
by_none (delay number ticks) l m e = cc
by_none (event number terms) l m e = cc

by_delay : (pause : Pause) (l m : Todo) (number ticks : ℕ) → next_by pause l ≡ after number ticks m → (pause ≡ delay number ticks) × (l ≡ m)
by_delay none l m number ticks e = cc
by_delay (delay n u) l m number ticks e = (let f : delay n u ≡ delay number ticks = cc in f, let f : l ≡ m = cc in f)
by_delay (event n terms) l m number ticks e = cc

by_event : (pause : Pause) (l m : Todo) (number : ℕ) (terms : List EventTerm) → next_by pause l ≡ wait number terms m → pause ≡ event number terms
by_event none l m number terms e = cc
by_event (delay n u) l m number terms e = cc
by_event (event n ts) l m number terms e = cc

-- what is no update pauses nowhere
still : (f : Statement-F Statement) (x : ℕ × Target × Typed) → statement_update f ≡ Some x → statement_pause f ≡ none
still (Statement-F.Delay n ticks body) x e = absurd (none-some x e)
still (Statement-F.Event n terms body) x e = absurd (none-some x e)
still _ x e = refl

still_todo : (k : Todo) (x : ℕ × Target × Typed) → todo_update k ≡ Some x → todo_pause k ≡ none
still_todo [] x e = refl
still_todo (perform s ∷ rest) x e = still (out-Statement s) x e
still_todo (turns n s ∷ rest) x e = refl

suc_not : (n : ℕ) → (suc n == 0) ≡ false
suc_not n = false_from_ne_true (suc n == 0) (λ e. let f : suc n ≡ 0 = eqb-true (suc n) 0 e in omega (arith, f))

-- a step of a walk as one of a path
by_pause : (d : Parts) (w b g : ℕ) (k l : Todo) (pause : Pause) → Missing d b g w k → (Begins d b g k → ⊥) → passes (ZeroTime false) pause ≡ true → Goes k (next_by pause l) → Missing d b g w l
by_pause d w b g k l none m free passing goes = Missing.goes_on k l m free goes
by_pause d w b g k l (delay number zero) m free passing goes = Missing.waits k l number m goes
by_pause d w b g k l (delay number (suc ticks)) m free passing goes = absurd (true≢false (sym passing ∙ suc_not ticks))
by_pause d w b g k l (event number terms) m free passing goes = absurd (false≢true passing)

-- a path of the text by a walk on its map
path_on : (d : Parts) (w b g : ℕ) (q : Process) (stops : List Stop) (start : ℕ) (t : IsText q.body stops start) → slice_get d.processes w ≡ Some q → (k : Todo) → Missing d b g w k →
    (p : ℕ) × MissingAt (chart stops start) (λ p. Begins d b g (t.at p)) p × (t.at p ≡ k)
path_on d w b g q stops start t is _ Missing.begins = (start, MissingAt.begins, t.is_map.start_is ∙ sym (begins_with d w q is))
path_on d w b g q stops start t is _ (Missing.goes_on k l h free goes) =
    let y = path_on d w b g q stops start t is k h in
    let s = step_on q.body stops start t y.0 (on l) (subst (λ (x : Todo). Goes x (on l)) (sym y.2) goes) in
    let e = by_none (pause_at (chart stops start) y.0) (t.at s.0) l s.2 in (
      s.0,
      MissingAt.goes_on y.0 s.0 y.1 (λ x. free (subst (Begins d b g) y.2 x)) (ap (passes (ZeroTime false)) e.0) s.1,
      e.1,
    )
path_on d w b g q stops start t is _ (Missing.waits k l number h goes) =
    let y = path_on d w b g q stops start t is k h in
    let s = step_on q.body stops start t y.0 (after number 0 l) (subst (λ (x : Todo). Goes x (after number 0 l)) (sym y.2) goes) in
    let e = by_delay (pause_at (chart stops start) y.0) (t.at s.0) l number 0 s.2 in (
      s.0,
      MissingAt.goes_on y.0 s.0 y.1
          (λ x. let f : none ≡ delay number 0 = sym (still_todo (t.at y.0) (0, x.target, x.value) x.is) ∙ pause_here q.body stops start t y.0 ∙ e.0 in cc)
          (ap (passes (ZeroTime false)) e.0) s.1,
      e.1,
    )

path_back : (d : Parts) (w b g : ℕ) (q : Process) (stops : List Stop) (start : ℕ) (t : IsText q.body stops start) → slice_get d.processes w ≡ Some q → (p : ℕ) →
    MissingAt (chart stops start) (λ p. Begins d b g (t.at p)) p → Missing d b g w (t.at p)
path_back d w b g q stops start t is _ MissingAt.begins = subst (Missing d b g w) (begins_with d w q is ∙ sym t.is_map.start_is) Missing.begins
path_back d w b g q stops start t is _ (MissingAt.goes_on p to h free passing leads) =
    by_pause d w b g (t.at p) (t.at to) (pause_at (chart stops start) p) (path_back d w b g q stops start t is p h) free passing (step_back q.body stops start t p to leads)

-- ---- where walks end

is_one_of : (f : ℕ → Next) (x : Next) (tos : List ℕ) → x ∷ [] ≡ map f tos → is_one tos ≡ true
is_one_of f x [] e = cc
is_one_of f x (to ∷ []) e = refl
is_one_of f x (to ∷ more ∷ tos) e = cc

not_one_of : (f : ℕ → Next) (x y : Next) (tos : List ℕ) → x ∷ y ∷ [] ≡ map f tos → is_one tos ≡ false
not_one_of f x y [] e = cc
not_one_of f x y (to ∷ []) e = cc
not_one_of f x y (to ∷ more ∷ tos) e = refl

end_is : (body : Statement) (stops : List Stop) (start : ℕ) (t : IsText body stops start) (p : ℕ) → t.at p ≡ [] → is_end (statement_at (chart stops start) p) (stops_tos stops p) ≡ true
end_is body stops start t p e =
    ap (λ (o : Option Statement). is_end o (stops_tos stops p)) (sym (t.says p) ∙ ap next_statement e)
    ∙ is_one_of (λ to. next_by (todo_pause (t.at p)) (t.at to)) (on []) (stops_tos stops p) (sym (ap nexts e) ∙ t.is_map.ways p)

is_the_end : (body : Statement) (stops : List Stop) (start : ℕ) (t : IsText body stops start) (p : ℕ) → is_end (statement_at (chart stops start) p) (stops_tos stops p) ≡ true → t.at p ≡ []
is_the_end body stops start t p h = by_todo (t.at p) refl
  where
    by_todo : (k : Todo) → t.at p ≡ k → t.at p ≡ []
    by_todo [] e = e
    by_todo (perform s ∷ rest) e = absurd (false≢true (ap (λ (o : Option Statement). is_end o (stops_tos stops p)) (sym (ap next_statement e) ∙ t.says p) ∙ h))
    by_todo (turns n s ∷ rest) e =
        absurd (false≢true (sym (not_one_of (λ to. next_by (todo_pause (t.at p)) (t.at to)) (on (flat s ++ turns 0 s ∷ rest)) (on rest) (stops_tos stops p) (sym (ap nexts e) ∙ t.is_map.ways p))
        ∙ ap (λ (o : Option Statement). is_end o (stops_tos stops p)) (sym (ap next_statement e) ∙ t.says p) ∙ h))

pub sure_ends : (d : Parts) (w b g : ℕ) (q : Process) (stops : List Stop) (start : ℕ) (t : IsText q.body stops start) → slice_get d.processes w ≡ Some q →
    (IsSure (chart stops start) (λ p. Begins d b g (t.at p)) ↔ EndsNowhere d b g w)
sure_ends d w b g q stops start t is = (there, back)
  where
    there : IsSure (chart stops start) (λ p. Begins d b g (t.at p)) → EndsNowhere d b g w
    there sure = record {
      before_end = λ m.
          let y = path_on d w b g q stops start t is [] m in
          true≢false (sym (or_left (is_end (statement_at (chart stops start) y.0) (stops_tos stops y.0)) _ (end_is q.body stops start t y.0 y.2)) ∙ sure y.0 y.1);
      before_delay = λ k l number ticks m goes.
          let y = path_on d w b g q stops start t is k m in
          let s = step_on q.body stops start t y.0 (after number (suc ticks) l) (subst (λ (x : Todo). Goes x (after number (suc ticks) l)) (sym y.2) goes) in
          true≢false (sym (or_right (is_end (statement_at (chart stops start) y.0) (stops_tos stops y.0)) _
          (ap (λ (x : Pause). not (passes (ZeroTime false) x)) (by_delay (pause_at (chart stops start) y.0) (t.at s.0) l number (suc ticks) s.2).0 ∙ ap not (suc_not ticks))) ∙ sure y.0 y.1);
      before_wait = λ k l number terms m goes.
          let y = path_on d w b g q stops start t is k m in
          let s = step_on q.body stops start t y.0 (wait number terms l) (subst (λ (x : Todo). Goes x (wait number terms l)) (sym y.2) goes) in
          true≢false (sym (or_right (is_end (statement_at (chart stops start) y.0) (stops_tos stops y.0)) _
          (ap (λ (x : Pause). not (passes (ZeroTime false) x)) (by_event (pause_at (chart stops start) y.0) (t.at s.0) l number terms s.2))) ∙ sure y.0 y.1);
    }

    back : EndsNowhere d b g w → IsSure (chart stops start) (λ p. Begins d b g (t.at p))
    back ends p m =
        or_from (is_end (statement_at (chart stops start) p) (stops_tos stops p)) _
        (false_from_ne_true (is_end (statement_at (chart stops start) p) (stops_tos stops p)) (λ h. ends.before_end (subst (Missing d b g w) (is_the_end q.body stops start t p h) missing)))
        (goes_through (pause_at (chart stops start) p) refl)
      where
        missing : Missing d b g w (t.at p)
        missing = path_back d w b g q stops start t is p m

        goes_through : (pause : Pause) → pause_at (chart stops start) p ≡ pause → not (passes (ZeroTime false) pause) ≡ false
        goes_through none e = refl
        goes_through (delay number zero) e = refl
        goes_through (delay number (suc ticks)) e =
            let to = control_on q.body stops start t p (delay number (suc ticks)) e refl in
            absurd (ends.before_delay (t.at p) (t.at to.0) number ticks missing (subst (λ (x : Pause). Goes (t.at p) (next_by x (t.at to.0))) e (step_back q.body stops start t p to.0 to.1)))
        goes_through (event number terms) e =
            let to = control_on q.body stops start t p (event number terms) e refl in
            absurd (ends.before_wait (t.at p) (t.at to.0) number terms missing (subst (λ (x : Pause). Goes (t.at p) (next_by x (t.at to.0))) e (step_back q.body stops start t p to.0 to.1)))

-- of two sorts that are one
pub same_missing : (t : Chart) (one other : ℕ → Type 0) → ((p : ℕ) → other p → one p) → (p : ℕ) → MissingAt t one p → MissingAt t other p
same_missing t one other same _ MissingAt.begins = MissingAt.begins
same_missing t one other same _ (MissingAt.goes_on p q h free passing to) = MissingAt.goes_on p q (same_missing t one other same p h) (λ x. free (same p x)) passing to

-- what is done in the first slot is done at places of the map
pub slot0_below : (t : Chart) → t.start < places t → LeadsIn (places t) t.stops → (p : ℕ) → InSlot0 false t p → p < places t
slot0_below t starts leads_in _ (begins a h) = subst (λ (n : ℕ). n < places t) (only t.start a h) starts
slot0_below t starts leads_in _ (goes_on a b r h) = along_in (ZeroTime false) (places t) t.stops leads_in a b h
