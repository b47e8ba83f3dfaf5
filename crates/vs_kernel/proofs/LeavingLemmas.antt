-- Moves between events.
use Rattle.std.proofs.Common.{◌≡◌, ◌≢◌, ◌==◌, ℕ, zero, suc, ◌≤◌, ◌||◌, not, Bool, true, false, Option, Some, None, List, [], ◌∷◌, ◌++◌, map, length, slice_get, get_or, is_some, if◌then◌else◌, refl, sym, ◌∙◌, ap, ap₂, subst, arith}
use Rattle.std.specs.declared.alloc.Global.{Global}
use Rattle.std.specs.declared.vec.Vec.{Vec}
use Rattle.std.specs.List.{list_any}
use Rattle.std.specs.Option.{ForSome}
use Rattle.std.specs.Prelude.{is_none}
use Rattle.std.proofs.lemmas.Bool.{and_parts, or_parts, not-true}
use Rattle.std.proofs.lemmas.Option.{none-some, same_Some}
use Rattle.vs_design.specs.Parts.{Parts}
use Rattle.vs_design.specs.Stores.{changed_at}
use Rattle.vs_run_regions.specs.vs_process.specs.declared.gait.Gait.TheVariants.{Woken}
use Rattle.vs_run_regions.specs.vs_process.specs.Places.{Place, is_going}
use Rattle.vs_run_regions.specs.vs_process.specs.Texts.{Text}
use Rattle.vs_run_regions.specs.vs_process.specs.declared.moves.Move.TheVariants.{Rouse, Activate, EndSlot}
use Rattle.vs_run_regions.specs.vs_process.specs.Executions.{apply, ends, has_due, is_busy, is_enabled, next_time, next_update, places_at, time_at}
use Rattle.vs_run_regions.specs.vs_process.specs.States.{AssignState, Called, State, Update, activated, is_due, roused, woken_at}
use Rattle.vs_run_regions.specs.vs_time_wheel.proofs.Bags.{SameBag-from_eq}
use Rattle.vs_run_regions.specs.vs_time_wheel.specs.Bag.{events_at, least_time}
use Rattle.vs_run_active.specs.declared.process.Process.{Process}
use Rattle.vs_run_active.specs.declared.process.Wait.{Wait}
use Rattle.vs_run_active.specs.declared.process.Wait.TheVariants.{Nothing, Until, Inactive, Terms}
use Rattle.vs_run_active.specs.ProcessPlaces.{place_in, roused_in, roused_wait, woken_in, woken_wait}
use Rattle.vs_run_active.specs.Timelines.{AreKept}
use Rattle.vs_run_active.specs.Triggers.{changed_all}
use Rattle.vs_run_active.proofs.ProcessPlacesLemmas.{roused_told, woken_told}
use Rattle.vs_run_active.proofs.TimelinesLemmas.{all_roused, all_woken_at, kept_all_roused, kept_all_woken, least_wake}
use Rattle.vs_run_steps.specs.declared.run.RunState.{RunState}
use Rattle.vs_run_steps.specs.Runs.{Agrees, AreScriptsIn, IsRunOf, IsScriptIn, counters_of, plan_of, state_of}
use Rattle.vs_run_steps.proofs.RunsLemmas.{keeps_regions, plan_in}
use Rattle.vs_run_steps.specs.vs_run_active.specs.declared.events.Events.{Events}
use Rattle.vs_run_steps.specs.vs_run_active.specs.declared.watchers.ProcessTerm.{ProcessTerm}
use Rattle.vs_run_steps.specs.vs_run_active.specs.Waiting.{AreWaiting, IsWaiting, places_of}
use Rattle.vs_run_regions.specs.Active.{is_active}
use Rattle.vs_run_regions.specs.Regions.{Waiting}
use Rattle.vs_run_active.specs.Touches.{AreOf}
use Rattle.vs_kernel.specs.Leaving.{changed_each}
use Rattle.vs_kernel.proofs.RunLemmas.{run_after}

-- ---- processes that go on, one after another

places_changed : (f : Process → Process) (g : Place → Place) → ((p : Process) (cs : List ℕ) → place_in (f p) cs ≡ g (place_in p cs)) → (css : List (List ℕ)) (n : ℕ) (ps : List Process) →
    places_of css (changed_at f n ps) ≡ changed_at g n (places_of css ps)
places_changed f g told css n [] = refl
places_changed f g told [] zero (p ∷ ps) = ap (λ (x : Place). x ∷ places_of [] ps) (told p [])
places_changed f g told [] (suc n) (p ∷ ps) = ap (λ (l : List Place). place_in p [] ∷ l) (places_changed f g told [] n ps)
places_changed f g told (cs ∷ css) zero (p ∷ ps) = ap (λ (x : Place). x ∷ places_of css ps) (told p cs)
places_changed f g told (cs ∷ css) (suc n) (p ∷ ps) = ap (λ (l : List Place). place_in p cs ∷ l) (places_changed f g told css n ps)

places_each : (f : Process → Process) (g : Place → Place) → ((p : Process) (cs : List ℕ) → place_in (f p) cs ≡ g (place_in p cs)) → (css : List (List ℕ)) (ns : List ℕ) (ps : List Process) →
    places_of css (changed_each f ns ps) ≡ changed_all g ns (places_of css ps)
places_each f g told css [] ps = refl
places_each f g told css (n ∷ ns) ps = places_each f g told css ns (changed_at f n ps) ∙ ap (changed_all g ns) (places_changed f g told css n ps)

changed_long : (f : Process → Process) (n : ℕ) (ps : List Process) → length (changed_at f n ps) ≡ length ps
changed_long f n [] = refl
changed_long f zero (p ∷ ps) = refl
changed_long f (suc n) (p ∷ ps) = ap suc (changed_long f n ps)

each_long : (f : Process → Process) (ns : List ℕ) (ps : List Process) → length (changed_each f ns ps) ≡ length ps
each_long f [] ps = refl
each_long f (n ∷ ns) ps = each_long f ns (changed_at f n ps) ∙ changed_long f n ps

changed_holds : (P : ℕ → Process → Type 0) (f : Process → Process) → ((k : ℕ) (p : Process) → P k p → P k (f p)) → (n : ℕ) (ps : List Process) → ((k : ℕ) (p : Process) → slice_get ps k ≡ Some p → P k p) →
    (k : ℕ) (p : Process) → slice_get (changed_at f n ps) k ≡ Some p → P k p
changed_holds P f still n [] h k p here = absurd (none-some p here)
changed_holds P f still zero (x ∷ xs) h zero p here = subst (P 0) (same_Some (f x) p here) (still 0 x (h 0 x refl))
changed_holds P f still zero (x ∷ xs) h (suc k) p here = h (suc k) p here
changed_holds P f still (suc n) (x ∷ xs) h zero p here = h 0 p here
changed_holds P f still (suc n) (x ∷ xs) h (suc k) p here = changed_holds (λ j q. P (suc j) q) f (λ j q. still (suc j) q) n xs (λ j q e. h (suc j) q e) k p here

each_holds : (P : ℕ → Process → Type 0) (f : Process → Process) → ((k : ℕ) (p : Process) → P k p → P k (f p)) → (ns : List ℕ) (ps : List Process) → ((k : ℕ) (p : Process) → slice_get ps k ≡ Some p → P k p) →
    (k : ℕ) (p : Process) → slice_get (changed_each f ns ps) k ≡ Some p → P k p
each_holds P f still [] ps h = h
each_holds P f still (n ∷ ns) ps h = each_holds P f still ns (changed_at f n ps) (changed_holds P f still n ps h)

-- ---- the run after it

-- with these processes, and this that waits
abbrev pub left_run : {Q : Type 0} → RunState Q → Waiting → Events → Vec Called Global → Vec ℕ Global → RunState Q
left_run r v ev calls room = record r { regions = v; watched = record r.watched { events = ev }; calls = calls; woken = room }

left_agrees : {Q : Type 0} (d : Parts) (terms : List ProcessTerm) (r : RunState Q) (v : Waiting) (ev : Events) (calls : Vec Called Global) (room : Vec ℕ Global) (f : Process → Process) (ns : List ℕ) →
    ((p : Process) → (f p).script.now ≡ p.script.now) → ((k : ℕ) (p : Process) → IsWaiting terms k p.wait → IsWaiting terms k (f p).wait) → Agrees d terms r →
    ev.processes ≡ changed_each f ns r.watched.events.processes → ev.assigns ≡ r.watched.events.assigns → v.listed.signals ≡ r.regions.listed.signals →
    AreKept (places_of (counters_of r) ev.processes) v.inactive v.sleepers → Agrees d terms (left_run r v ev calls room)
left_agrees d terms r v ev calls room f ns same still h processes assigns signals kept =
    let old : List Process = r.watched.events.processes in
    record {
      store = h.store;
      watched = record {
        rows = h.watched.rows;
        sources = subst (AreOf d) (sym assigns) h.watched.sources;
        waiting = subst (AreWaiting terms) (sym processes) (record { each = each_holds (λ k (p : Process). IsWaiting terms k p.wait) f still ns old h.watched.waiting.each });
      };
      rows = h.rows;
      kept = kept;
      signals = signals ∙ h.signals;
      counted = h.counted ∙ sym (ap (λ (l : List Process). length l) processes ∙ each_long f ns old);
      scripts =
          subst (AreScriptsIn d.signals terms (counters_of r)) (sym processes)
          (record {
            each = each_holds (λ k (p : Process). IsScriptIn d.signals terms k p.script.now (get_or (counters_of r) k [])) f
                (λ k p is. subst (λ (c : Text). IsScriptIn d.signals terms k c (get_or (counters_of r) k [])) (sym (same p)) is) ns old h.scripts.each;
          });
      plan = h.plan;
    }

left_places : {Q : Type 0} (r : RunState Q) (ev : Events) (f : Process → Process) (g : Place → Place) (ns : List ℕ) → ((p : Process) (cs : List ℕ) → place_in (f p) cs ≡ g (place_in p cs)) →
    ev.processes ≡ changed_each f ns r.watched.events.processes → changed_all g ns (state_of r).places ≡ map g (state_of r).places → places_of (counters_of r) ev.processes ≡ map g (state_of r).places
left_places r ev f g ns told processes all = ap (places_of (counters_of r)) processes ∙ places_each f g told (counters_of r) ns r.watched.events.processes ∙ all

-- ---- the inactive processes go on

roused_still : (terms : List ProcessTerm) (k : ℕ) (w : Wait) → IsWaiting terms k w → IsWaiting terms k (roused_wait w)
roused_still terms k (Nothing gait) h = h
roused_still terms k (Until due) h = h
roused_still terms k Inactive h = tt
roused_still terms k (Terms n ts) h = h

roused_place : (p : Process) (cs : List ℕ) → place_in (roused_in p) cs ≡ roused (place_in p cs)
roused_place p cs = roused_told p.wait _

rouse_places : {Q : Type 0} (d : Parts) (r : RunState Q) (ev : Events) (ns : List ℕ) → IsRunOf d r → ns ≡ r.regions.inactive → ev.processes ≡ changed_each roused_in ns r.watched.events.processes →
    places_of (counters_of r) ev.processes ≡ map roused (state_of r).places
rouse_places d r ev ns h handed processes =
    left_places r ev roused_in roused ns roused_place processes
    (ap (λ (l : List ℕ). changed_all roused l (state_of r).places) handed ∙ all_roused (state_of r).places r.regions.inactive r.regions.sleepers h.1.agrees.kept)

pub rouse_made : {Q : Type 0} (d : Parts) (r : RunState Q) (v : Waiting) (ev : Events) (room : Vec ℕ Global) (ns : List ℕ) → IsRunOf d r → ns ≡ r.regions.inactive → v ≡ record r.regions { inactive = [] } →
    ev.processes ≡ changed_each roused_in ns r.watched.events.processes → ev.assigns ≡ r.watched.events.assigns → state_of (left_run r v ev r.calls room) ≡ apply Rouse (state_of r)
rouse_made d r v ev room ns h handed left processes assigns =
    ap (λ (w : Waiting). record (state_of r) { places = places_of (counters_of r) ev.processes; assigns = ev.assigns; updates = w.updates; time = w.time }) left
    ∙ ap₂ (λ (l : List Place) (x : List AssignState). record (state_of r) { places = l; assigns = x }) (rouse_places d r ev ns h handed processes) assigns

pub rouse_run : {Q : Type 0} (d : Parts) (r : RunState Q) (v : Waiting) (ev : Events) (room : Vec ℕ Global) (ns : List ℕ) → IsRunOf d r → ns ≡ r.regions.inactive → v ≡ record r.regions { inactive = [] } →
    ev.processes ≡ changed_each roused_in ns r.watched.events.processes → ev.assigns ≡ r.watched.events.assigns → IsRunOf d (left_run r v ev r.calls room)
rouse_run d r v ev room ns h handed left processes assigns =
    let made = rouse_made d r v ev room ns h handed left processes assigns in (
      h.0,
      record {
        reached = (Rouse ∷ h.1.reached.0, ap (apply Rouse) h.1.reached.1 ∙ sym made);
        agrees =
            left_agrees d h.0 r v ev r.calls room roused_in ns (λ p. refl) (λ k p. roused_still h.0 k p.wait) h.1.agrees processes assigns (ap (λ (w : Waiting). w.listed.signals) left)
            (subst (λ (w : Waiting). AreKept (places_of (counters_of r) ev.processes) w.inactive w.sleepers) (sym left)
            (kept_all_roused h.1.agrees.kept (rouse_places d r ev ns h handed processes) refl));
      },
    )

-- ---- the updates are activated

idle_updates : (s : State) → is_busy s ≡ false → list_any is_active s.updates ≡ false
idle_updates s idle =
    (or_parts (list_any is_going s.places || list_any (λ (x : AssignState). x.needs || is_some x.pending) s.assigns) (list_any is_active s.updates) idle).1

pub activate_idle : (s : State) → is_enabled s Activate ≡ true → list_any is_active s.updates ≡ false
activate_idle s h = idle_updates s (not-true (is_busy s) (and_parts _ _ (and_parts _ _ h).0).0)

pub activate_made : {Q : Type 0} (r : RunState Q) (v : Waiting) → v.updates ≡ map (activated r.regions.time) r.regions.updates → v.time ≡ r.regions.time →
    state_of (record r { regions = v }) ≡ apply Activate (state_of r)
activate_made r v updates time = ap₂ (λ (l : List Update) (n : ℕ). record (state_of r) { updates = l; time = n }) updates time

pub activate_run : {Q : Type 0} (d : Parts) (r : RunState Q) (v : Waiting) → IsRunOf d r → v.updates ≡ map (activated r.regions.time) r.regions.updates → v.time ≡ r.regions.time →
    v.inactive ≡ r.regions.inactive → v.sleepers ≡ r.regions.sleepers → v.listed.signals ≡ r.regions.listed.signals → IsRunOf d (record r { regions = v })
activate_run d r v h updates time still sleepers signals =
    run_after d r (record r { regions = v }) Activate h
    (keeps_regions (plan_of r).design (plan_of r).terms r v (plan_in d r h).agrees time still (SameBag-from_eq sleepers) signals).agrees (activate_made r v updates time)

-- ---- the slot ends

pub end_idle : (s : State) → is_enabled s EndSlot ≡ true → (list_any is_active s.updates ≡ false) × (list_any (is_due s.time) s.updates ≡ false)
end_idle s h =
    let both = and_parts _ _ h in
    let first = and_parts _ _ both.0 in
    (idle_updates s (not-true (is_busy s) first.0), not-true (has_due s) both.1)

pub end_over : (s : State) → ends s ≡ true → record s { calls = []; over = true } ≡ apply EndSlot s
end_over s over = ap (λ (b : Bool). record s { places = places_at b (next_time s) s.places; calls = []; time = time_at b (next_time s) s.time; over = b }) (sym over)

pub end_goes : (s : State) (t : ℕ) → s.over ≡ false → ends s ≡ false → next_time s ≡ Some t → record s { places = map (woken_at t) s.places; calls = []; time = t } ≡ apply EndSlot s
end_goes s t going goes next =
    ap (λ (b : Bool). record s { places = map (woken_at t) s.places; calls = []; time = t; over = b }) going
    ∙ ap₂ (λ (b : Bool) (o : Option ℕ). record s { places = places_at b o s.places; calls = []; time = time_at b o s.time; over = b }) (sym goes) (sym next)

pub ends_finishing : (s : State) → s.finishing ≡ true → ends s ≡ true
ends_finishing s is = ap (λ (b : Bool). b || is_none (next_time s)) is

pub ends_none : (s : State) → s.finishing ≡ false → next_time s ≡ None → ends s ≡ true
ends_none s not none = ap₂ (λ (b : Bool) (o : Option ℕ). b || is_none o) not none

ends_not : (s : State) (t : ℕ) → s.finishing ≡ false → next_time s ≡ Some t → ends s ≡ false
ends_not s t not next = ap₂ (λ (b : Bool) (o : Option ℕ). b || is_none o) not next

-- the next time, as it is kept
pub time_told : {Q : Type 0} (d : Parts) (r : RunState Q) (o : Option ℕ) → IsRunOf d r → o ≡ next_update (least_time r.regions.sleepers) r.regions.updates → o ≡ next_time (state_of r)
time_told d r o h told =
    told ∙ ap (λ (x : Option ℕ). next_update x r.regions.updates) (least_wake (state_of r).places r.regions.inactive r.regions.sleepers h.1.agrees.kept)

least_some : (o : Option ℕ) (t : ℕ) → o ≡ Some t → ForSome o (λ next. t ≤ next)
least_some o t h = λ next is. let same : t ≡ next = same_Some t next (sym h ∙ is) in omega (arith, same)

pub none_before : {Q : Type 0} (d : Parts) (r : RunState Q) (t : ℕ) → IsRunOf d r → next_time (state_of r) ≡ Some t → ForSome (next_update (least_time r.regions.sleepers) r.regions.updates) (λ next. t ≤ next)
none_before d r t h next =
    least_some (next_update (least_time r.regions.sleepers) r.regions.updates) t (time_told d r _ h refl ∙ next)

-- it is over
pub stop_run : {Q : Type 0} (d : Parts) (r : RunState Q) (calls : Vec Called Global) → IsRunOf d r → calls.items ≡ [] → ends (state_of r) ≡ true → IsRunOf d (record r { calls = calls; over = true })
stop_run d r calls h none over =
    let a = h.1.agrees in
    let made : state_of (record r { calls = calls; over = true }) ≡ apply EndSlot (state_of r) =
    ap (λ (l : List Called). record (state_of r) { calls = l; over = true }) none ∙ end_over (state_of r) over
    in (
      h.0,
      record {
        reached = (EndSlot ∷ h.1.reached.0, ap (apply EndSlot) h.1.reached.1 ∙ sym made);
        agrees = record { store = a.store; watched = a.watched; rows = a.rows; kept = a.kept; signals = a.signals; counted = a.counted; scripts = a.scripts; plan = a.plan };
      },
    )

pub stop_made : {Q : Type 0} (r : RunState Q) (calls : Vec Called Global) → calls.items ≡ [] → ends (state_of r) ≡ true → state_of (record r { calls = calls; over = true }) ≡ apply EndSlot (state_of r)
stop_made r calls none over = ap (λ (l : List Called). record (state_of r) { calls = l; over = true }) none ∙ end_over (state_of r) over

-- time goes on

woken_if : (terms : List ProcessTerm) (k due : ℕ) (b : Bool) → IsWaiting terms k (if b then Nothing Woken else Until due)
woken_if terms k due true = tt
woken_if terms k due false = tt

woken_still : (time : ℕ) (terms : List ProcessTerm) (k : ℕ) (w : Wait) → IsWaiting terms k w → IsWaiting terms k (woken_wait time w)
woken_still time terms k (Nothing gait) h = h
woken_still time terms k (Until due) h = woken_if terms k due (due == time)
woken_still time terms k Inactive h = h
woken_still time terms k (Terms n ts) h = h

woken_place : (time : ℕ) (p : Process) (cs : List ℕ) → place_in (woken_in time p) cs ≡ woken_at time (place_in p cs)
woken_place time p cs = woken_told time p.wait _

-- the run after it
pub record IsAdvanced {Q : Type 0} (r : RunState Q) (time : ℕ) (v : Waiting) (ev : Events) (calls : Vec Called Global) (room : Vec ℕ Global) : Type 0 where
  pub others : List ℕ
  pub woken : room.items ≡ others ++ events_at time r.regions.sleepers
  pub processes : ev.processes ≡ changed_each (woken_in time) room.items r.watched.events.processes
  pub assigns : ev.assigns ≡ r.watched.events.assigns
  pub calls_none : calls.items ≡ []
  pub updates : v.updates ≡ r.regions.updates
  pub time_is : v.time ≡ time
  pub inactive : v.inactive ≡ r.regions.inactive
  pub signals : v.listed.signals ≡ r.regions.listed.signals
  pub taken : events_at time v.sleepers ≡ []
  pub later : (t : ℕ) → time ≢ t → events_at t v.sleepers ≡ events_at t r.regions.sleepers

advance_places : {Q : Type 0} (d : Parts) (r : RunState Q) (time : ℕ) (v : Waiting) (ev : Events) (calls : Vec Called Global) (room : Vec ℕ Global) → IsRunOf d r → IsAdvanced r time v ev calls room →
    places_of (counters_of r) ev.processes ≡ map (woken_at time) (state_of r).places
advance_places d r time v ev calls room h a =
    left_places r ev (woken_in time) (woken_at time) room.items (woken_place time) a.processes
    (all_woken_at (state_of r).places r.regions.inactive r.regions.sleepers time a.others room.items h.1.agrees.kept a.woken)

pub advance_made : {Q : Type 0} (d : Parts) (r : RunState Q) (time : ℕ) (v : Waiting) (ev : Events) (calls : Vec Called Global) (room : Vec ℕ Global) → IsRunOf d r → (state_of r).over ≡ false →
    (state_of r).finishing ≡ false → next_time (state_of r) ≡ Some time → IsAdvanced r time v ev calls room → state_of (left_run r v ev calls room) ≡ apply EndSlot (state_of r)
advance_made d r time v ev calls room h going goes next a =
    ap₂ (λ (l : List Place) (x : List AssignState). record (state_of r) { places = l; assigns = x; updates = v.updates; calls = calls.items; time = v.time })
    (advance_places d r time v ev calls room h a) a.assigns
    ∙ ap₂ (λ (us : List Update) (n : ℕ). record (state_of r) { places = map (woken_at time) (state_of r).places; updates = us; calls = calls.items; time = n }) a.updates a.time_is
    ∙ ap (λ (l : List Called). record (state_of r) { places = map (woken_at time) (state_of r).places; calls = l; time = time }) a.calls_none
    ∙ end_goes (state_of r) time going (ends_not (state_of r) time goes next) next

pub advance_run : {Q : Type 0} (d : Parts) (r : RunState Q) (time : ℕ) (v : Waiting) (ev : Events) (calls : Vec Called Global) (room : Vec ℕ Global) → IsRunOf d r → (state_of r).over ≡ false →
    (state_of r).finishing ≡ false → next_time (state_of r) ≡ Some time → IsAdvanced r time v ev calls room → IsRunOf d (left_run r v ev calls room)
advance_run d r time v ev calls room h going goes next a =
    let made = advance_made d r time v ev calls room h going goes next a in (
      h.0,
      record {
        reached = (EndSlot ∷ h.1.reached.0, ap (apply EndSlot) h.1.reached.1 ∙ sym made);
        agrees =
            left_agrees d h.0 r v ev calls room (woken_in time) room.items (λ p. refl) (λ k p. woken_still time h.0 k p.wait) h.1.agrees a.processes a.assigns a.signals
            (subst (λ (l : List ℕ). AreKept (places_of (counters_of r) ev.processes) l v.sleepers) (sym a.inactive)
            (kept_all_woken time h.1.agrees.kept (advance_places d r time v ev calls room h a) a.taken a.later));
      },
    )
