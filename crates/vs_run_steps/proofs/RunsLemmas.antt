-- Lemmas on what a run holds.
use Rattle.std.proofs.Common.{◌≡◌, ◌≢◌, ℕ, zero, suc, ◌^◌, ◌<◌, ◌≤◌, ◌⊎◌, inl, inr, ⊎_elim, Bool, true, false, Option, Some, None, List, [], ◌∷◌, ◌++◌, map, length, slice_get, get_or, if◌then◌else◌, refl, sym, ◌∙◌, ap, ap₂, subst, arith}
use Rattle.std.specs.Prelude.{option_map, slice_set}
use Rattle.std.specs.declared.alloc.Global.{Global}
use Rattle.std.specs.declared.vec.Vec.{Vec}
use Rattle.std.proofs.lemmas.Bool.{false≢true}
use Rattle.std.proofs.lemmas.List.{length-map, length-set}
use Rattle.std.proofs.lemmas.Option.{none-some, same_Some, slice_get-map, slice_get_past, slice_get_within}
use Rattle.vs_design.specs.declared.signal.Signal.{Signal}
use Rattle.vs_design.specs.declared.statement.EventTerm.{EventTerm}
use Rattle.vs_design.specs.InOrder.{word_sizes}
use Rattle.vs_design.specs.Parts.{Parts}
use Rattle.vs_design.specs.Stores.{Store, put}
use Rattle.vs_design.specs.Writes.{Write}
use Rattle.vs_design.specs.vs_logic4.specs.declared.digit.Digit.{Digit}
use Rattle.vs_design.specs.vs_logic4.specs.PlaneLaws.{digits_of_planes-of, unknown_plane-lt, value_plane-lt}
use Rattle.vs_design.specs.vs_logic4.specs.Planes.{ArePlanes, digits_of_planes, unknown_plane, value_plane}
use Rattle.vs_design.specs.vs_logic4.proofs.Basics.{set_here as set_there}
use Rattle.vs_run_steps.specs.vs_eval.specs.Waking.{wake_any}
use Rattle.vs_run_regions.specs.vs_time_wheel.specs.Bag.{SameBag}
use Rattle.vs_run_regions.specs.vs_time_wheel.specs.declared.timing.Timed.{Timed}
use Rattle.vs_process.specs.declared.changes.Change.{Change}
use Rattle.vs_process.specs.declared.gait.Gait.{Gait}
use Rattle.vs_process.specs.declared.spot.Spot.{Spot}
use Rattle.vs_process.specs.declared.gait.Gait.TheVariants.{Woken}
use Rattle.vs_process.specs.Places.{Place, Todo, active_at, going, sleeping, inactive, waiting, ended, is_going, is_inactive}
use Rattle.vs_process.specs.Scripts.{todo_on}
use Rattle.vs_process.specs.Spots.{spot_write}
use Rattle.vs_process.specs.Texts.{HasControl, Text}
use Rattle.vs_run_active.specs.vs_process.specs.Executions.{if_some}
use Rattle.vs_run_active.specs.vs_process.specs.States.{AssignState, Called, State, Update, wakened, written}
use Rattle.vs_run_active.specs.vs_process.proofs.Stores.{shape-put}
use Rattle.vs_run_active.specs.declared.process.Process.{Process}
use Rattle.vs_run_active.specs.declared.process.Wait.{Wait}
use Rattle.vs_run_active.specs.declared.process.Wait.TheVariants.{Nothing, Until, Inactive, Terms}
use Rattle.vs_run_active.specs.ProcessPlaces.{GoneOn, HasGone, gone_on, place_by, place_in, waits_some}
use Rattle.vs_run_active.specs.Taken.{placed}
use Rattle.vs_run_active.specs.Timelines.{AreKept, AreKeptBut, sleeps_until}
use Rattle.vs_run_active.proofs.GoneLemmas.{gone_none}
use Rattle.vs_run_active.proofs.ProcessPlacesLemmas.{active_due, active_still, active_told, none_past}
use Rattle.vs_run_active.proofs.TimelinesLemmas.{kept_but, kept_inactive, kept_other, kept_sleeping, same_bag}
use Rattle.vs_run_active.proofs.WatchedLemmas.{set_each}
use Rattle.vs_run_active.proofs.MarkingLemmas.{changes_none}
use Rattle.vs_run_steps.specs.vs_run_active.specs.declared.watchers.ProcessTerm.{ProcessTerm}
use Rattle.vs_run_steps.specs.vs_run_active.specs.declared.tables.Tables.{Tables}
use Rattle.vs_run_steps.specs.vs_run_active.specs.Waiting.{IsWaiting, places_of}
use Rattle.vs_run_steps.specs.vs_run_active.specs.Wakes.{AreWatched}
use Rattle.vs_run_steps.specs.vs_run_active.proofs.WatchedLemmas.{watched_put}
use Rattle.vs_run_regions.specs.Regions.{Waiting}
use Rattle.vs_run_regions.specs.Updates.{SlotView}
use Rattle.vs_run_steps.specs.vs_run_active.specs.Changes.{MarkChanges}
use Rattle.vs_run_steps.specs.declared.writes.Watched.{Watched}
use Rattle.vs_run_steps.specs.Writes.{IsMade, Makes}
use Rattle.vs_run_steps.specs.declared.run.RunState.{RunState}
use Rattle.vs_run_steps.specs.Runs.{Agrees, AreScriptsIn, IsRun, IsRunOf, IsScriptIn, Keeps, Plan, counters_at, counters_of, plan_of, state_of}
use Rattle.vs_run_steps.specs.Stepping.{Enters, IsLater, IsValidWait, Noted, IsMovedFrom}

-- ---- its design and its terms

pub plan_in : {Q : Type 0} (d : Parts) (r : RunState Q) → IsRunOf d r → IsRun (plan_of r).design (plan_of r).terms r
plan_in d r h = subst (λ (p : Plan). IsRun p.design p.terms r) (sym h.1.agrees.plan) h.1

pub plan_out : {Q : Type 0} (d : Parts) (r new : RunState Q) → IsRunOf d r → IsRun (plan_of r).design (plan_of r).terms new → IsRunOf d new
plan_out d r new h k = (h.0, subst (λ (p : Plan). IsRun p.design p.terms new) h.1.agrees.plan k)

pub signals_of : {Q : Type 0} (d : Parts) (terms : List ProcessTerm) (r : RunState Q) → Agrees d terms r → r.design.now.signals ≡ d.signals
signals_of d terms r h = ap (λ (p : Plan). p.design.signals) h.plan

-- ---- where processes are

-- the place of the process of a number
pub place_there : (css : List (List ℕ)) (ps : List Process) (i : ℕ) (p : Process) → slice_get ps i ≡ Some p →
    slice_get (places_of css ps) i ≡ Some (place_in p (get_or css i []))
place_there css [] i p at = absurd (none-some p at)
place_there [] (x ∷ xs) zero p at = ap (λ (y : Process). Some (place_in y [])) (same_Some x p at)
place_there [] (x ∷ xs) (suc i) p at = place_there [] xs i p at
place_there (c ∷ css) (x ∷ xs) zero p at = ap (λ (y : Process). Some (place_in y c)) (same_Some x p at)
place_there (c ∷ css) (x ∷ xs) (suc i) p at = place_there css xs i p at

pub place_past : (css : List (List ℕ)) (ps : List Process) (i : ℕ) → slice_get ps i ≡ None → slice_get (places_of css ps) i ≡ None
place_past css [] i at = refl
place_past [] (x ∷ xs) zero at = absurd (none-some x (sym at))
place_past [] (x ∷ xs) (suc i) at = place_past [] xs i at
place_past (c ∷ css) (x ∷ xs) zero at = absurd (none-some x (sym at))
place_past (c ∷ css) (x ∷ xs) (suc i) at = place_past css xs i at

-- one process stands elsewhere
pub places_set : (css : List (List ℕ)) (ps : List Process) (i : ℕ) (p : Process) → places_of css (slice_set ps i p) ≡ slice_set (places_of css ps) i (place_in p (get_or css i []))
places_set css [] i p = refl
places_set [] (x ∷ xs) zero p = refl
places_set [] (x ∷ xs) (suc i) p = ap (λ (l : List Place). place_in x [] ∷ l) (places_set [] xs i p)
places_set (c ∷ css) (x ∷ xs) zero p = refl
places_set (c ∷ css) (x ∷ xs) (suc i) p = ap (λ (l : List Place). place_in x c ∷ l) (places_set css xs i p)

-- where the counters of one process change, all others are where they were
pub places_but : (css : List (List ℕ)) (ps : List Process) (i : ℕ) (cs : List ℕ) (place : Place) → slice_set (places_of (slice_set css i cs) ps) i place ≡ slice_set (places_of css ps) i place
places_but css [] i cs place = refl
places_but [] (x ∷ xs) i cs place = refl
places_but (c ∷ css) (x ∷ xs) zero cs place = refl
places_but (c ∷ css) (x ∷ xs) (suc i) cs place = ap (λ (l : List Place). place_in x c ∷ l) (places_but css xs i cs place)

pub places_long : (css : List (List ℕ)) (ps : List Process) → length (places_of css ps) ≡ length ps
places_long css [] = refl
places_long [] (x ∷ xs) = ap suc (places_long [] xs)
places_long (c ∷ css) (x ∷ xs) = ap suc (places_long css xs)

-- ---- the counters of one process change

pub counters_there : (css : List (List ℕ)) (i : ℕ) (cs : List ℕ) → i < length css → get_or (slice_set css i cs) i [] ≡ cs
counters_there [] i cs h = absurd (omega arith)
counters_there (c ∷ css) zero cs h = refl
counters_there (c ∷ css) (suc i) cs h = counters_there css i cs (omega arith)

counters_long : (css : List (List ℕ)) (i number : ℕ) (cs : List ℕ) → length cs ≡ length (get_or css i []) → length (get_or (slice_set css i cs) number []) ≡ length (get_or css number [])
counters_long [] i number cs h = refl
counters_long (c ∷ css) zero zero cs h = h
counters_long (c ∷ css) zero (suc number) cs h = refl
counters_long (c ∷ css) (suc i) zero cs h = refl
counters_long (c ∷ css) (suc i) (suc number) cs h = counters_long css i number cs h

pub scripts_counted : (signals : List Signal) (terms : List ProcessTerm) (css : List (List ℕ)) (ps : List Process) (i : ℕ) (cs : List ℕ) → length cs ≡ length (get_or css i []) →
    AreScriptsIn signals terms css ps → AreScriptsIn signals terms (slice_set css i cs) ps
scripts_counted signals terms css ps i cs long h = record {
  each = λ number p at.
      let is : IsScriptIn signals terms number p.script.now (get_or css number []) = h.each number p at in
      record { signals_are = is.signals_are; counted = counters_long css i number cs long ∙ is.counted; listed = is.listed };
}

-- ---- inactive ones and sleepers

inactive_by : (w : Wait) (todo other : Todo) → is_inactive (place_by w todo) ≡ is_inactive (place_by w other)
inactive_by (Nothing gait) todo other = active_still gait todo ∙ sym (active_still gait other)
inactive_by (Until due) todo other = refl
inactive_by Inactive todo other = refl
inactive_by (Terms n terms) todo other = refl

active_sleeps : (time : ℕ) (gait : Gait) (todo : Todo) → sleeps_until time (active_at gait todo) ≡ false
active_sleeps time gait [] = refl
active_sleeps time gait (i ∷ rest) = refl

sleeps_by : (time : ℕ) (w : Wait) (todo other : Todo) → sleeps_until time (place_by w todo) ≡ sleeps_until time (place_by w other)
sleeps_by time (Nothing gait) todo other = active_sleeps time gait todo ∙ sym (active_sleeps time gait other)
sleeps_by time (Until due) todo other = refl
sleeps_by time Inactive todo other = refl
sleeps_by time (Terms n terms) todo other = refl

-- a test of places that the counters have no part in
tested : (test : Place → Bool) → ((w : Wait) (todo other : Todo) → test (place_by w todo) ≡ test (place_by w other)) → (css ds : List (List ℕ)) (ps : List Process) (i : ℕ) (o : Option Process) →
    slice_get ps i ≡ o → if_some test (slice_get (places_of ds ps) i) ≡ if_some test (slice_get (places_of css ps) i)
tested test by css ds ps i None at = ap (if_some test) (place_past ds ps i at ∙ sym (place_past css ps i at))
tested test by css ds ps i (Some p) at =
    ap (if_some test) (place_there ds ps i p at) ∙ by p.wait (todo_on p.script.now (get_or ds i []) p.index) (todo_on p.script.now (get_or css i []) p.index) ∙ sym (ap (if_some test) (place_there css ps i p at))

-- places that pass the same tests
kept_like : (ps qs : List Place) (ns : List ℕ) (bag : List (Timed ℕ)) → ((i : ℕ) → if_some is_inactive (slice_get qs i) ≡ if_some is_inactive (slice_get ps i)) →
    ((time i : ℕ) → if_some (sleeps_until time) (slice_get qs i) ≡ if_some (sleeps_until time) (slice_get ps i)) → AreKept ps ns bag → AreKept qs ns bag
kept_like ps qs ns bag still sleeps h = record {
  inactive_ones = record { each = λ i. h.inactive_ones.each i ∙ sym (still i) };
  sleeping_ones = λ time. record { each = λ i. (h.sleeping_ones time).each i ∙ sym (sleeps time i) };
}

pub kept_counters : (css ds : List (List ℕ)) (ps : List Process) (ns : List ℕ) (bag : List (Timed ℕ)) → AreKept (places_of css ps) ns bag → AreKept (places_of ds ps) ns bag
kept_counters css ds ps ns bag h = kept_like (places_of css ps) (places_of ds ps) ns bag
    (λ i. tested is_inactive inactive_by css ds ps i (slice_get ps i) refl)
    (λ time i. tested (sleeps_until time) (sleeps_by time) css ds ps i (slice_get ps i) refl) h

-- a change of the store wakes none of them

still_if : (b : Bool) (terms : List EventTerm) (todo : Todo) → is_inactive (if b then active_at Woken todo else waiting terms todo) ≡ false
still_if true terms todo = active_still Woken todo
still_if false terms todo = refl

wakened_still : (a b : Store) (o : Option Place) → if_some is_inactive (option_map (wakened a b) o) ≡ if_some is_inactive o
wakened_still a b None = refl
wakened_still a b (Some (waiting terms todo)) = still_if (wake_any terms a b) terms todo
wakened_still a b (Some (going gait todo)) = refl
wakened_still a b (Some (sleeping due todo)) = refl
wakened_still a b (Some (inactive todo)) = refl
wakened_still a b (Some ended) = refl

sleeps_if : (time : ℕ) (b : Bool) (terms : List EventTerm) (todo : Todo) → sleeps_until time (if b then active_at Woken todo else waiting terms todo) ≡ false
sleeps_if time true terms todo = active_sleeps time Woken todo
sleeps_if time false terms todo = refl

wakened_sleeps : (time : ℕ) (a b : Store) (o : Option Place) → if_some (sleeps_until time) (option_map (wakened a b) o) ≡ if_some (sleeps_until time) o
wakened_sleeps time a b None = refl
wakened_sleeps time a b (Some (waiting terms todo)) = sleeps_if time (wake_any terms a b) terms todo
wakened_sleeps time a b (Some (going gait todo)) = refl
wakened_sleeps time a b (Some (sleeping due todo)) = refl
wakened_sleeps time a b (Some (inactive todo)) = refl
wakened_sleeps time a b (Some ended) = refl

pub kept_wakened : (a b : Store) (ps : List Place) (ns : List ℕ) (bag : List (Timed ℕ)) → AreKept ps ns bag → AreKept (map (wakened a b) ps) ns bag
kept_wakened a b ps ns bag h = kept_like ps (map (wakened a b) ps) ns bag
    (λ i. ap (if_some is_inactive) (slice_get-map (wakened a b) ps i) ∙ wakened_still a b (slice_get ps i))
    (λ time i. ap (if_some (sleeps_until time)) (slice_get-map (wakened a b) ps i) ∙ wakened_sleeps time a b (slice_get ps i)) h

-- ---- processes that have gone on

-- where one came from
pub gone_from : (old new : List Process) (i : ℕ) (q : Process) (o : Option Process) → GoneOn old new → slice_get new i ≡ Some q → slice_get old i ≡ o →
    (p : Process) × (slice_get old i ≡ Some p) × (q.script.now ≡ p.script.now)
gone_from old new i q None h at was =
    let short : length old ≤ i = none_past old i was in
    absurd (none-some q (sym (slice_get_past new i (omega (arith, short, h.len))) ∙ at))
gone_from old new i q (Some p) h at was = ⊎_elim
    (λ stays. (p, was, ap (λ (x : Process). x.script.now) (same_Some q p (sym at ∙ stays))))
    (λ goes. (p, was, ap (λ (x : Process). x.script.now) (same_Some q (gone_on p) (sym at ∙ goes.1))))
    (h.each i p was)

pub scripts_gone : (signals : List Signal) (terms : List ProcessTerm) (css : List (List ℕ)) (old new : List Process) → GoneOn old new →
    AreScriptsIn signals terms css old → AreScriptsIn signals terms css new
scripts_gone signals terms css old new gone h = record {
  each = λ number q at.
      let from = gone_from old new number q (slice_get old number) gone at refl in
      subst (λ (c : Text). IsScriptIn signals terms number c (get_or css number [])) (sym from.2) (h.each number from.0 from.1);
}

-- one that waits at no event control stays
pub stays_there : (old new : List Process) (i : ℕ) (p : Process) → GoneOn old new → slice_get old i ≡ Some p → waits_some p.wait ≡ false → slice_get new i ≡ Some p
stays_there old new i p gone at active = ⊎_elim (λ stays. stays) (λ goes. absurd (false≢true (sym active ∙ goes.0))) (gone.each i p at)

-- ---- one process takes the place of another

pub scripts_set : (signals : List Signal) (terms : List ProcessTerm) (css : List (List ℕ)) (ps : List Process) (i : ℕ) (q : Process) →
    IsScriptIn signals terms i q.script.now (get_or css i []) → AreScriptsIn signals terms css ps → AreScriptsIn signals terms css (slice_set ps i q)
scripts_set signals terms css ps i q own h = record {
  each = set_each (λ k (x : Process). IsScriptIn signals terms k x.script.now (get_or css k [])) ps i q (λ k x at. h.each k x at) own;
}

-- ---- nothing is done, and what is done twice

pub keeps_none : {Q : Type 0} (d : Parts) (terms : List ProcessTerm) (r : RunState Q) → Agrees d terms r → Keeps d terms r r
keeps_none d terms r h = record { agrees = h; time = refl; gone = gone_none r.watched.events.processes; marked = changes_none r.watched.marks.items r.watched.store }

-- ---- a write

-- after a write the parts agree
pub wrote : {Q : Type 0} (d : Parts) (terms : List ProcessTerm) (r : RunState Q) (v : Watched) (room : Vec Change Global) (w : Write) → Agrees d terms r → v.store ≡ put r.watched.store w →
    v.tables ≡ r.watched.tables → Makes r.watched.tables r.watched.store w r.watched.events.assigns r.watched.events.processes v.events.assigns v.events.processes →
    MarkChanges r.watched.marks.items v.marks.items r.watched.store v.store → Keeps d terms r (record r { watched = v; changes = room })
wrote d terms r v room w h store tables makes marked =
    let made : IsMade d terms r.watched.tables r.watched.store w r.watched.events.assigns v.events.assigns r.watched.events.processes v.events.processes = makes d terms h.watched in
    let sizes : word_sizes v.store ≡ word_sizes r.watched.store = ap word_sizes store ∙ shape-put r.watched.store w in
    record {
      agrees = record {
        store = sizes ∙ h.store;
        watched = subst (λ (t : Tables). AreWatched d terms t v.events.assigns v.events.processes) (sym tables) made.watched;
        rows = h.rows ∙ ap (λ (t : Tables). length t.rows.items) (sym tables);
        kept =
            subst (λ (l : List Place). AreKept l r.regions.inactive r.regions.sleepers) (sym (made.places_are (counters_of r)))
            (kept_wakened r.watched.store (put r.watched.store w) (places_of (counters_of r) r.watched.events.processes) r.regions.inactive r.regions.sleepers h.kept);
        signals = h.signals;
        counted = h.counted ∙ sym made.gone.len;
        scripts = scripts_gone d.signals terms (counters_of r) r.watched.events.processes v.events.processes made.gone h.scripts;
        plan = h.plan;
      };
      time = refl;
      gone = made.gone;
      marked = marked;
    }

-- and the state is that of the definition
pub wrote_state : {Q : Type 0} (d : Parts) (terms : List ProcessTerm) (r : RunState Q) (v : Watched) (room : Vec Change Global) (w : Write) → Agrees d terms r → v.store ≡ put r.watched.store w →
    Makes r.watched.tables r.watched.store w r.watched.events.assigns r.watched.events.processes v.events.assigns v.events.processes →
    state_of (record r { watched = v; changes = room }) ≡ written (state_of r) w
wrote_state d terms r v room w h store makes =
    let made : IsMade d terms r.watched.tables r.watched.store w r.watched.events.assigns v.events.assigns r.watched.events.processes v.events.processes = makes d terms h.watched in
    ap (λ (s : Store). record (state_of r) { store = s; places = places_of (counters_of r) v.events.processes; assigns = v.events.assigns }) store
    ∙ ap₂ (λ (l : List Place) (x : List AssignState). record (state_of r) { store = put r.watched.store w; places = l; assigns = x }) (made.places_are (counters_of r)) made.assigns_are

-- ---- both planes of digits

pub planes_fit : (width value unknown : ℕ) (ds : List Digit) → 0 < width → width ≤ 64 → length ds ≡ width → value ≡ value_plane ds → unknown ≡ unknown_plane ds → ArePlanes width value unknown
planes_fit width value unknown ds some most long v u = record {
  some = some;
  most = most;
  value_below = subst (λ (n : ℕ). n < 2 ^ width) (sym v) (subst (λ (n : ℕ). value_plane ds < 2 ^ n) long (value_plane-lt ds));
  unknown_below = subst (λ (n : ℕ). n < 2 ^ width) (sym u) (subst (λ (n : ℕ). unknown_plane ds < 2 ^ n) long (unknown_plane-lt ds));
}

pub planes_hold : (width value unknown : ℕ) (ds : List Digit) → length ds ≡ width → value ≡ value_plane ds → unknown ≡ unknown_plane ds → digits_of_planes width value unknown ≡ ds
planes_hold width value unknown ds long v u =
    ap (λ (n : ℕ). digits_of_planes n value unknown) (sym long) ∙ ap₂ (digits_of_planes (length ds)) v u ∙ digits_of_planes-of ds

-- ---- what waits changes

pub keeps_regions : {Q : Type 0} (d : Parts) (terms : List ProcessTerm) (r : RunState Q) (v : Waiting) → Agrees d terms r → v.time ≡ r.regions.time → v.inactive ≡ r.regions.inactive →
    SameBag v.sleepers r.regions.sleepers → v.listed.signals ≡ r.regions.listed.signals → Keeps d terms r (record r { regions = v })
keeps_regions d terms r v h time still sleepers signals = record {
  agrees = record {
    store = h.store;
    watched = h.watched;
    rows = h.rows;
    kept = same_bag sleepers (subst (λ (l : List ℕ). AreKept (state_of r).places l r.regions.sleepers) (sym still) h.kept);
    signals = signals ∙ h.signals;
    counted = h.counted;
    scripts = h.scripts;
    plan = h.plan;
  };
  time = time;
  gone = gone_none r.watched.events.processes;
  marked = changes_none r.watched.marks.items r.watched.store;
}

-- so do the calls, or the run is finishing

pub keeps_calls : {Q : Type 0} (d : Parts) (terms : List ProcessTerm) (r : RunState Q) (calls : Vec Called Global) → Agrees d terms r → Keeps d terms r (record r { calls = calls })
keeps_calls d terms r calls h = record {
  agrees = record { store = h.store; watched = h.watched; rows = h.rows; kept = h.kept; signals = h.signals; counted = h.counted; scripts = h.scripts; plan = h.plan };
  time = refl;
  gone = gone_none r.watched.events.processes;
  marked = changes_none r.watched.marks.items r.watched.store;
}

pub keeps_finish : {Q : Type 0} (d : Parts) (terms : List ProcessTerm) (r : RunState Q) → Agrees d terms r → Keeps d terms r (record r { finishing = true })
keeps_finish d terms r h = record {
  agrees = record { store = h.store; watched = h.watched; rows = h.rows; kept = h.kept; signals = h.signals; counted = h.counted; scripts = h.scripts; plan = h.plan };
  time = refl;
  gone = gone_none r.watched.events.processes;
  marked = changes_none r.watched.marks.items r.watched.store;
}

-- so do counters

pub keeps_counters : {Q : Type 0} (d : Parts) (terms : List ProcessTerm) (r : RunState Q) (counters : Vec (Vec ℕ Global) Global) (i : ℕ) (cs : List ℕ) → Agrees d terms r →
    counters_of (record r { counters = counters }) ≡ slice_set (counters_of r) i cs → length cs ≡ length (get_or (counters_of r) i []) → Keeps d terms r (record r { counters = counters })
keeps_counters d terms r counters i cs h set long = record {
  agrees = record {
    store = h.store;
    watched = h.watched;
    rows = h.rows;
    kept =
        kept_counters (counters_of r) (counters_of (record r { counters = counters })) r.watched.events.processes r.regions.inactive r.regions.sleepers h.kept;
    signals = h.signals;
    counted = ap (λ (l : List (List ℕ)). length l) set ∙ length-set (counters_of r) i cs ∙ h.counted;
    scripts =
        subst (λ (l : List (List ℕ)). AreScriptsIn d.signals terms l r.watched.events.processes) (sym set)
        (scripts_counted d.signals terms (counters_of r) r.watched.events.processes i cs long h.scripts);
    plan = h.plan;
  };
  time = refl;
  gone = gone_none r.watched.events.processes;
  marked = changes_none r.watched.marks.items r.watched.store;
}

-- ---- a process stands elsewhere

entered_kept : (number : ℕ) (wait : Wait) (todo : Todo) (places : List Place) (x : Place) (old v : Waiting) → AreKept places old.inactive old.sleepers → slice_get places number ≡ Some x → is_going x ≡ true →
    Noted number wait old v → AreKept (slice_set places number (place_by wait todo)) v.inactive v.sleepers
entered_kept number (Nothing gait) todo places x old v h at active noted =
    let y : Place = active_at gait todo in
    let but : AreKeptBut (slice_set places number y) old.inactive old.sleepers number = kept_but h number x y at active refl in
    same_bag noted.1
    (subst (λ (l : List ℕ). AreKept (slice_set places number y) l old.sleepers) (sym noted.0)
    (kept_other number y but (set_there places number y (slice_get_within places number x at)) (active_still gait todo) (active_due gait todo)))
entered_kept number (Until due) todo places x old v h at active noted =
    let y : Place = sleeping due todo in
    let but : AreKeptBut (slice_set places number y) old.inactive old.sleepers number = kept_but h number x y at active refl in
    subst (λ (l : List ℕ). AreKept (slice_set places number y) l v.sleepers) (sym noted.0)
    (kept_sleeping number due y but (set_there places number y (slice_get_within places number x at)) refl refl noted.1)
entered_kept number Inactive todo places x old v h at active noted =
    let y : Place = inactive todo in
    let but : AreKeptBut (slice_set places number y) old.inactive old.sleepers number = kept_but h number x y at active refl in
    same_bag noted.1 (kept_inactive number y but (set_there places number y (slice_get_within places number x at)) refl refl noted.0)
entered_kept number (Terms n terms) todo places x old v h at active noted =
    let y : Place = waiting terms.now todo in
    let but : AreKeptBut (slice_set places number y) old.inactive old.sleepers number = kept_but h number x y at active refl in
    same_bag noted.1
    (subst (λ (l : List ℕ). AreKept (slice_set places number y) l old.sleepers) (sym noted.0)
    (kept_other number y but (set_there places number y (slice_get_within places number x at)) refl refl))

waits_listed : (signals : List Signal) (terms : List ProcessTerm) (number time : ℕ) (c : Text) (counters : List ℕ) (wait : Wait) → IsScriptIn signals terms number c counters → IsValidWait c time wait → IsWaiting terms number wait
waits_listed signals terms number time c counters (Nothing gait) is h = tt
waits_listed signals terms number time c counters (Until due) is h = tt
waits_listed signals terms number time c counters Inactive is h = tt
waits_listed signals terms number time c counters (Terms n ts) is h = is.listed n ts.now h

-- its own script
script_of : {Q : Type 0} (d : Parts) (terms : List ProcessTerm) (r : RunState Q) (number : ℕ) (q : Process) → Agrees d terms r → IsMovedFrom number q r.watched.events.processes →
    IsScriptIn d.signals terms number q.script.now (get_or (counters_of r) number [])
script_of d terms r number q h from =
    subst (λ (c : Text). IsScriptIn d.signals terms number c (get_or (counters_of r) number [])) from.script (h.scripts.each number from.old from.at)

-- the run after it stands there, and waits so
abbrev pub stood : {Q : Type 0} → RunState Q → Waiting → List Process → RunState Q
stood r v ps = record r { regions = v; watched = record r.watched { events = record r.watched.events { processes = ps } } }

pub stood_state : {Q : Type 0} (r : RunState Q) (v : Waiting) (ps : List Process) (number : ℕ) (q : Process) → ps ≡ slice_set r.watched.events.processes number q → Enters number q.wait r.regions v →
    state_of (stood r v ps) ≡ placed (state_of r) number (place_in q (counters_at number r))
stood_state r v ps number q set enters =
    ap (λ (l : List Process). record (state_of r) { places = places_of (counters_of r) l; updates = v.updates; time = v.time }) set
    ∙ ap₂ (λ (us : List Update) (n : ℕ). record (state_of r) { places = places_of (counters_of r) (slice_set r.watched.events.processes number q); updates = us; time = n }) enters.updates enters.time
    ∙ ap (λ (l : List Place). record (state_of r) { places = l }) (places_set (counters_of r) r.watched.events.processes number q)

pub stood_agrees : {Q : Type 0} (d : Parts) (terms : List ProcessTerm) (r : RunState Q) (v : Waiting) (ps : List Process) (number : ℕ) (q : Process) → Agrees d terms r → IsMovedFrom number q r.watched.events.processes →
    IsValidWait q.script.now r.regions.time q.wait → ps ≡ slice_set r.watched.events.processes number q → Enters number q.wait r.regions v → Agrees d terms (stood r v ps)
stood_agrees d terms r v ps number q h from stand set enters =
    let old : List Process = r.watched.events.processes in
    let own : IsScriptIn d.signals terms number q.script.now (get_or (counters_of r) number []) = script_of d terms r number q h from in
    record {
      store = h.store;
      watched =
          subst (λ (l : List Process). AreWatched d terms r.watched.tables r.watched.events.assigns l) (sym set)
          (watched_put d terms r.watched.tables r.watched.events.assigns old number q (waits_listed d.signals terms number r.regions.time q.script.now (get_or (counters_of r) number []) q.wait own stand) h.watched);
      rows = h.rows;
      kept =
          subst (λ (l : List Place). AreKept l v.inactive v.sleepers) (sym (ap (places_of (counters_of r)) set ∙ places_set (counters_of r) old number q))
          (entered_kept number q.wait (todo_on q.script.now (get_or (counters_of r) number []) q.index) (places_of (counters_of r) old) (place_in from.old (get_or (counters_of r) number [])) r.regions v h.kept
          (place_there (counters_of r) old number from.old from.at) (active_told from.old (get_or (counters_of r) number []) ∙ from.active) enters.noted);
      signals = ap (λ (l : SlotView). l.signals) enters.listed ∙ h.signals;
      counted = h.counted ∙ sym (ap (λ (l : List Process). length l) set ∙ length-set old number q);
      scripts =
          subst (λ (l : List Process). AreScriptsIn d.signals terms (counters_of r) l) (sym set) (scripts_set d.signals terms (counters_of r) old number q own h.scripts);
      plan = h.plan;
    }

-- a delay that ends later
pub stand_later : (c : Text) (time : ℕ) (wait : Wait) → IsValidWait c time wait → IsLater time wait
stand_later c time (Nothing gait) h = tt
stand_later c time (Until due) h = h
stand_later c time Inactive h = tt
stand_later c time (Terms n ts) h = tt

-- ---- a write of digits to bits of one word

digits_made : (tables : Tables) (store : Store) (spot : Spot) (ds es : List Digit) (x y : List AssignState) (p q : List Process) → ds ≡ es → Makes tables store (spot_write spot ds) x p y q → Makes tables store (spot_write spot es) x p y q
digits_made tables store spot ds es x y p q same h = subst (λ (l : List Digit). Makes tables store (spot_write spot l) x p y q) same h

pub wrote_spot : {Q : Type 0} (d : Parts) (terms : List ProcessTerm) (r : RunState Q) (v : Watched) (spot : Spot) (value unknown : ℕ) (ds : List Digit) → Agrees d terms r → length ds ≡ spot.width → value ≡ value_plane ds → unknown ≡ unknown_plane ds →
    v.store ≡ put r.watched.store (spot_write spot (digits_of_planes spot.width value unknown)) → v.tables ≡ r.watched.tables →
    Makes r.watched.tables r.watched.store (spot_write spot (digits_of_planes spot.width value unknown)) r.watched.events.assigns r.watched.events.processes v.events.assigns v.events.processes →
    MarkChanges r.watched.marks.items v.marks.items r.watched.store v.store → Keeps d terms r (record r { watched = v })
wrote_spot d terms r v spot value unknown ds h long is_value is_unknown store tables makes marked =
    let same : digits_of_planes spot.width value unknown ≡ ds = planes_hold spot.width value unknown ds long is_value is_unknown in
    wrote d terms r v r.changes (spot_write spot ds) h (store ∙ ap (λ (l : List Digit). put r.watched.store (spot_write spot l)) same) tables
    (digits_made r.watched.tables r.watched.store spot (digits_of_planes spot.width value unknown) ds r.watched.events.assigns v.events.assigns r.watched.events.processes v.events.processes same makes) marked

pub wrote_spot_state : {Q : Type 0} (d : Parts) (terms : List ProcessTerm) (r : RunState Q) (v : Watched) (spot : Spot) (value unknown : ℕ) (ds : List Digit) → Agrees d terms r → length ds ≡ spot.width → value ≡ value_plane ds →
    unknown ≡ unknown_plane ds → v.store ≡ put r.watched.store (spot_write spot (digits_of_planes spot.width value unknown)) →
    Makes r.watched.tables r.watched.store (spot_write spot (digits_of_planes spot.width value unknown)) r.watched.events.assigns r.watched.events.processes v.events.assigns v.events.processes →
    state_of (record r { watched = v }) ≡ written (state_of r) (spot_write spot ds)
wrote_spot_state d terms r v spot value unknown ds h long is_value is_unknown store makes =
    let same : digits_of_planes spot.width value unknown ≡ ds = planes_hold spot.width value unknown ds long is_value is_unknown in
    wrote_state d terms r v r.changes (spot_write spot ds) h (store ∙ ap (λ (l : List Digit). put r.watched.store (spot_write spot l)) same)
    (digits_made r.watched.tables r.watched.store spot (digits_of_planes spot.width value unknown) ds r.watched.events.assigns v.events.assigns r.watched.events.processes v.events.processes same makes)

-- the write that they make up
pub spot_same : (spot : Spot) (value unknown : ℕ) (ds : List Digit) (w : Write) → length ds ≡ spot.width → value ≡ value_plane ds → unknown ≡ unknown_plane ds → w ≡ spot_write spot ds →
    spot_write spot (digits_of_planes spot.width value unknown) ≡ w
spot_same spot value unknown ds w long is_value is_unknown is = ap (spot_write spot) (planes_hold spot.width value unknown ds long is_value is_unknown) ∙ sym is

pub made_same : (tables : Tables) (store : Store) (v w : Write) (x y : List AssignState) (p q : List Process) → v ≡ w → Makes tables store v x p y q → Makes tables store w x p y q
made_same tables store v w x y p q same h = subst (λ (z : Write). Makes tables store z x p y q) same h

-- ---- counters in memory

pub counter_set : (cs : List (Vec ℕ Global)) (i : ℕ) (new : Vec ℕ Global) (l : List ℕ) → new.items ≡ l → map (λ (c : Vec ℕ Global). c.items) (slice_set cs i new) ≡ slice_set (map (λ (c : Vec ℕ Global). c.items) cs) i l
counter_set [] i new l h = refl
counter_set (c ∷ cs) zero new l h = ap (λ (k : List ℕ). k ∷ map (λ (x : Vec ℕ Global). x.items) cs) h
counter_set (c ∷ cs) (suc i) new l h = ap (λ (k : List (List ℕ)). c.items ∷ k) (counter_set cs i new l h)

pub counter_read : (cs : List (Vec ℕ Global)) (i : ℕ) (now : Vec ℕ Global) → i < length (map (λ (c : Vec ℕ Global). c.items) cs) → now ≡ get_or cs i now → now.items ≡ get_or (map (λ (c : Vec ℕ Global). c.items) cs) i []
counter_read [] i now below h = absurd (omega (arith, below))
counter_read (c ∷ cs) zero now below h = ap (λ (x : Vec ℕ Global). x.items) h
counter_read (c ∷ cs) (suc i) now below h = counter_read cs i now (omega (arith, below)) h
