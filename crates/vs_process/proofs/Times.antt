-- The slots of an execution end at rising times.
use Rattle.std.proofs.Common.{◌≡◌, ℕ, zero, suc, ◌+◌, ◌<◌, ◌≤◌, ◌^◌, ◌||◌, ◌&&◌, not, Bool, true, false, Option, Some, None, List, [], ◌∷◌, ◌++◌, map, slice_get, slice_set, leb, refl, sym, ◌∙◌, subst, ⊎_elim, arith}
use Rattle.std.specs.Prelude.{filter, is_none, is_some, if◌then◌else◌}
use Rattle.std.specs.List.{list_any}
use Rattle.std.proofs.lemmas.Bool.{cond_both, leb-true, or_parts, and_parts, not-true}
use Rattle.std.proofs.lemmas.Bool.Decides.{eqb_tells}
use Rattle.std.proofs.lemmas.List.{append-nil}
use Rattle.std.proofs.lemmas.List.Elements.{filter-append}
use Rattle.vs_design.specs.vs_logic4.specs.declared.digit.Digit.{Digit}
use Rattle.vs_design.specs.declared.design.Process.{Process}
use Rattle.vs_design.specs.Parts.{Parts}
use Rattle.vs_design.specs.Traces.{Slot, AreRising, AreRisingAfter}
use Rattle.vs_design.specs.Stores.{Store, put}
use Rattle.vs_design.specs.Writes.{Write}
use Rattle.vs_eval.specs.Waking.{wake_any}
use Rattle.vs_eval.specs.Targets.{assigned}
use Rattle.vs_process.specs.declared.gait.Gait.{Gait}
use Rattle.vs_process.specs.declared.gait.Gait.TheVariants.{Fresh, Woken}
use Rattle.vs_process.specs.declared.moves.Grain.{Grain}
use Rattle.vs_process.specs.declared.moves.Move.{Move}
use Rattle.vs_process.specs.declared.moves.Move.TheVariants.{Step, Evaluate, Propagate, Make, Rouse, Activate, EndSlot}
use Rattle.vs_process.specs.Executions.{after, apply, Legal, allowed, is_enabled, is_free, is_busy, has_inactive, has_due, earlier, next_wake, next_update, next_time, ends, places_at, time_at, after_slot, slots, ended_slot, is_by, trace}
use Rattle.vs_process.specs.Places.{Todo, Place, going, sleeping, inactive, waiting, ended, active_at, is_going, start_place, flat}
use Rattle.vs_process.specs.States.{State, AssignState, Update, stepped, performed, evaluate, propagate, propagate_value, make, without, roused, woken_at, is_due, activated, paused, place_after_step, updates_after, wakened, written_after}
use Rattle.vs_process.specs.Places.{todo_of}
use Rattle.vs_process.specs.Steps.{Next, on, Out, step}
use Rattle.vs_process.specs.Steps as steps
use Rattle.vs_design.specs.vs_logic4.proofs.Basics.{past_due}

-- ---- a fact of each element

abbrev pub Each : {A : Type 0} → (A → Type 0) → List A → Type 0
Each P [] = Unit {0}
Each P (x ∷ xs) = P x × Each P xs

each-set : {A : Type 0} (P : A → Type 0) (xs : List A) (i : ℕ) (y : A) → Each P xs → P y → Each P (slice_set xs i y)
each-set P [] i y h p = tt
each-set P (x ∷ xs) zero y h p = (p, h.1)
each-set P (x ∷ xs) (suc i) y h p = (h.0, each-set P xs i y h.1 p)

each-append : {A : Type 0} (P : A → Type 0) (xs ys : List A) → Each P xs → Each P ys → Each P (xs ++ ys)
each-append P [] ys h k = k
each-append P (x ∷ xs) ys h k = (h.0, each-append P xs ys h.1 k)

each-map : {A B : Type 0} (P : A → Type 0) (Q : B → Type 0) (f : A → B) → ((x : A) → P x → Q (f x)) → (xs : List A) → Each P xs → Each Q (map f xs)
each-map P Q f to [] h = tt
each-map P Q f to (x ∷ xs) h = (to x h.0, each-map P Q f to xs h.1)

each-to : {A : Type 0} (P Q : A → Type 0) → ((x : A) → P x → Q x) → (xs : List A) → Each P xs → Each Q xs
each-to P Q to [] h = tt
each-to P Q to (x ∷ xs) h = (to x h.0, each-to P Q to xs h.1)

each-without : {A : Type 0} (P : A → Type 0) (xs : List A) (i : ℕ) → Each P xs → Each P (without i xs)
each-without P [] i h = tt
each-without P (x ∷ xs) zero h = h.1
each-without P (x ∷ xs) (suc i) h = (h.0, each-without P xs i h.1)

-- ---- what is due

-- a delay ends after a time
abbrev pub Later : ℕ → Place → Type 0
Later time (sleeping due todo) = time < due
Later time _ = Unit {0}

abbrev pub NotBefore : ℕ → Update → Type 0
NotBefore time u = time ≤ u.due

abbrev Past : ℕ → Update → Type 0
Past time u = time < u.due

-- delays end after a time, and updates are due at it or after it
pub record TimedAt (time : ℕ) (ps : List Place) (us : List Update) : Type 0 where
  pub places : Each (Later time) ps
  pub updates : Each (NotBefore time) us

abbrev pub Timed : State → Type 0
Timed s = TimedAt s.time s.places s.updates

later_active : (time : ℕ) (gait : Gait) (todo : Todo) → Later time (active_at gait todo)
later_active time gait [] = tt
later_active time gait (i ∷ rest) = tt

later_paused : (time ticks : ℕ) (todo : Todo) → Later time (paused time ticks todo)
later_paused time ticks todo =
    ⊎_elim
    (λ same. subst (λ (b : Bool). Later time (if b then inactive todo else sleeping (time + ticks) todo)) (sym same.0) tt)
    (λ other. let above : ticks ≡ 0 → ⊥ = other.1 in let late : time < time + ticks = omega (arith, above) in subst (λ (b : Bool). Later time (if b then inactive todo else sleeping (time + ticks) todo)) (sym other.0) late)
    (eqb_tells ticks 0)

later_behind : (place : Place) (time : ℕ) (next : Next) → Later time (place_after_step place time next)
later_behind (going gait todo) time (on rest) = later_active time _ rest
later_behind (sleeping due todo) time (on rest) = tt
later_behind (inactive todo) time (on rest) = tt
later_behind (waiting terms todo) time (on rest) = tt
later_behind ended time (on rest) = tt
later_behind (going gait todo) time (steps.after n ticks rest) = later_paused time ticks rest
later_behind (sleeping due todo) time (steps.after n ticks rest) = later_paused time ticks rest
later_behind (inactive todo) time (steps.after n ticks rest) = later_paused time ticks rest
later_behind (waiting terms todo) time (steps.after n ticks rest) = later_paused time ticks rest
later_behind ended time (steps.after n ticks rest) = later_paused time ticks rest
later_behind (going gait todo) time (steps.wait n terms rest) = tt
later_behind (sleeping due todo) time (steps.wait n terms rest) = tt
later_behind (inactive todo) time (steps.wait n terms rest) = tt
later_behind (waiting t todo) time (steps.wait n terms rest) = tt
later_behind ended time (steps.wait n terms rest) = tt

later_start : (ps : List Process) → Each (Later 0) (map (λ (p : Process). start_place p.body) ps)
later_start [] = tt
later_start (p ∷ ps) = (later_active 0 Fresh (flat p.body), later_start ps)

later_roused : (time : ℕ) (x : Place) → Later time x → Later time (roused x)
later_roused time (going gait todo) h = tt
later_roused time (sleeping due todo) h = h
later_roused time (inactive todo) h = later_active time Woken todo
later_roused time (waiting terms todo) h = tt
later_roused time ended h = tt

later_wakened : (time : ℕ) (old new : Store) (x : Place) → Later time x → Later time (wakened old new x)
later_wakened time old new (going gait todo) h = tt
later_wakened time old new (sleeping due todo) h = h
later_wakened time old new (inactive todo) h = tt
later_wakened time old new (waiting terms todo) h = cond_both (wake_any terms old new) (active_at Woken todo) (waiting terms todo) (Later time) (λ e. later_active time Woken todo) (λ e. tt)
later_wakened time old new ended h = tt

later_all_wakened : (time : ℕ) (old new : Store) (xs : List Place) → Each (Later time) xs → Each (Later time) (map (wakened old new) xs)
later_all_wakened time old new xs h = each-map (Later time) (Later time) (wakened old new) (later_wakened time old new) xs h

due_after : (by time : ℕ) (u : Option (ℕ × Write)) (us : List Update) → Each (NotBefore time) us → Each (NotBefore time) (updates_after by time u us)
due_after by time None us h = h
due_after by time (Some u) us h = each-append (NotBefore time) us _ h (omega arith, tt)

pub behind_time : (s : State) (w : Option Write) → (written_after s w).time ≡ s.time
behind_time s None = refl
behind_time s (Some w) = refl

behind_later : (s : State) (w : Option Write) → Each (Later s.time) s.places → Each (Later s.time) (written_after s w).places
behind_later s None h = h
behind_later s (Some w) h = later_all_wakened s.time s.store (put s.store w) s.places h

timed_performed : (s : State) (i : ℕ) (x : Place) (out : Out) → Timed s → Timed (performed s i x out)
timed_performed s i x out h =
    let us = updates_after i s.time out.update s.updates in
    let y = place_after_step x s.time out.next in
    subst (λ (t : ℕ). TimedAt t (slice_set (written_after s out.write).places i y) us) (sym (behind_time s out.write))
    (record {
      places = each-set (Later s.time) (written_after s out.write).places i y (behind_later s out.write h.places) (later_behind x s.time out.next);
      updates = due_after i s.time out.update s.updates h.updates;
    })

timed_stepped : (s : State) (i : ℕ) (o : Option Place) → Timed s → Timed (stepped s i o)
timed_stepped s i None h = h
timed_stepped s i (Some x) h = timed_performed s i x (step (todo_of x) s.store s.time) h

timed_evaluate : (s : State) (j : ℕ) (o : Option AssignState) → Timed s → Timed (evaluate s j o)
timed_evaluate s j None h = h
timed_evaluate s j (Some x) h = h

timed_value : (s : State) (j : ℕ) (x : AssignState) (o : Option (List Digit)) → Timed s → Timed (propagate_value s j x o)
timed_value s j x None h = h
timed_value s j x (Some v) h = record { places = later_all_wakened s.time s.store (put s.store (assigned x.target v s.store s.time)) s.places h.places; updates = h.updates }

timed_propagate : (s : State) (j : ℕ) (o : Option AssignState) → Timed s → Timed (propagate s j o)
timed_propagate s j None h = h
timed_propagate s j (Some x) h = timed_value s j x x.pending h

timed_make : (s : State) (i : ℕ) (o : Option Update) → Timed s → Timed (make s i o)
timed_make s i None h = h
timed_make s i (Some u) h = record { places = later_all_wakened s.time s.store (put s.store u.what) s.places h.places; updates = each-without (NotBefore s.time) s.updates i h.updates }

-- ---- the least due time

-- a time is after another, where there is one
abbrev pub Above : ℕ → Option ℕ → Type 0
Above time None = Unit {0}
Above time (Some t) = time < t

-- there is a time, at most another
abbrev AtMost : Option ℕ → ℕ → Type 0
AtMost None n = ⊥
AtMost (Some t) n = t ≤ n

-- no delay ends before a time
abbrev NotAfter : Option ℕ → Place → Type 0
NotAfter o (sleeping due todo) = AtMost o due
NotAfter o _ = Unit {0}

above_earlier : (time : ℕ) (best : Option ℕ) (t : ℕ) → Above time best → time < t → Above time (earlier best t)
above_earlier time None t h k = k
above_earlier time (Some u) t h k = omega arith

least_earlier : (best : Option ℕ) (t n : ℕ) → AtMost best n → AtMost (earlier best t) n
least_earlier None t n h = absurd h
least_earlier (Some u) t n h = omega arith

new_earlier : (best : Option ℕ) (t : ℕ) → AtMost (earlier best t) t
new_earlier None t = omega arith
new_earlier (Some u) t = omega arith

above_wake : (time : ℕ) (best : Option ℕ) (xs : List Place) → Above time best → Each (Later time) xs → Above time (next_wake best xs)
above_wake time best [] h k = h
above_wake time best (going gait todo ∷ xs) h k = above_wake time best xs h k.1
above_wake time best (sleeping due todo ∷ xs) h k = above_wake time (earlier best due) xs (above_earlier time best due h k.0) k.1
above_wake time best (inactive todo ∷ xs) h k = above_wake time best xs h k.1
above_wake time best (waiting terms todo ∷ xs) h k = above_wake time best xs h k.1
above_wake time best (ended ∷ xs) h k = above_wake time best xs h k.1

above_update : (time : ℕ) (best : Option ℕ) (us : List Update) → Above time best → Each (Past time) us → Above time (next_update best us)
above_update time best [] h k = h
above_update time best (u ∷ us) h k = above_update time (earlier best u.due) us (above_earlier time best u.due h k.0) k.1

least_wake : (best : Option ℕ) (xs : List Place) (n : ℕ) → AtMost best n → AtMost (next_wake best xs) n
least_wake best [] n h = h
least_wake best (going gait todo ∷ xs) n h = least_wake best xs n h
least_wake best (sleeping due todo ∷ xs) n h = least_wake (earlier best due) xs n (least_earlier best due n h)
least_wake best (inactive todo ∷ xs) n h = least_wake best xs n h
least_wake best (waiting terms todo ∷ xs) n h = least_wake best xs n h
least_wake best (ended ∷ xs) n h = least_wake best xs n h

least_update : (best : Option ℕ) (us : List Update) (n : ℕ) → AtMost best n → AtMost (next_update best us) n
least_update best [] n h = h
least_update best (u ∷ us) n h = least_update (earlier best u.due) us n (least_earlier best u.due n h)

each_wake : (best : Option ℕ) (xs : List Place) → Each (NotAfter (next_wake best xs)) xs
each_wake best [] = tt
each_wake best (going gait todo ∷ xs) = (tt, each_wake best xs)
each_wake best (sleeping due todo ∷ xs) = (least_wake (earlier best due) xs due (new_earlier best due), each_wake (earlier best due) xs)
each_wake best (inactive todo ∷ xs) = (tt, each_wake best xs)
each_wake best (waiting terms todo ∷ xs) = (tt, each_wake best xs)
each_wake best (ended ∷ xs) = (tt, each_wake best xs)

not_after_more : (o : Option ℕ) (us : List Update) (x : Place) → NotAfter o x → NotAfter (next_update o us) x
not_after_more o us (going gait todo) h = tt
not_after_more o us (sleeping due todo) h = least_update o us due h
not_after_more o us (inactive todo) h = tt
not_after_more o us (waiting terms todo) h = tt
not_after_more o us ended h = tt

each_update : (best : Option ℕ) (us : List Update) → Each (λ (u : Update). AtMost (next_update best us) u.due) us
each_update best [] = tt
each_update best (u ∷ us) = (least_update (earlier best u.due) us u.due (new_earlier best u.due), each_update (earlier best u.due) us)

-- ---- the end of a slot

-- where none is activated and none is due, all are due later
all_past : (time : ℕ) (us : List Update) → list_any (λ (u : Update). u.active) us ≡ false → list_any (is_due time) us ≡ false → Each (NotBefore time) us → Each (Past time) us
all_past time [] h k e = tt
all_past time (u ∷ us) h k e =
    let a = or_parts u.active (list_any (λ (u : Update). u.active) us) h in
    let b = or_parts (is_due time u) (list_any (is_due time) us) k in
    (past_due time u.due u.active a.0 b.0 e.0, all_past time us a.1 b.1 e.1)

later_woken : (t : ℕ) (x : Place) → NotAfter (Some t) x → Later t (woken_at t x)
later_woken t (going gait todo) h = tt
later_woken t (sleeping due todo) h =
    ⊎_elim
    (λ same. subst (λ (b : Bool). Later t (if b then active_at Woken todo else sleeping due todo)) (sym same.0) (later_active t Woken todo))
    (λ other. let apart : due ≡ t → ⊥ = other.1 in let late : t < due = omega (arith, h, apart) in subst (λ (b : Bool). Later t (if b then active_at Woken todo else sleeping due todo)) (sym other.0) late)
    (eqb_tells due t)
later_woken t (inactive todo) h = tt
later_woken t (waiting terms todo) h = tt
later_woken t ended h = tt

or_none : (f : Bool) {P : Type 0} → (f || true) ≡ false → P
or_none true h = cc
or_none false h = cc

timed_slot : (f b : Bool) (o : Option ℕ) (time : ℕ) (xs : List Place) (us : List Update) → (f || is_none o) ≡ b → TimedAt time xs us → Each (NotAfter o) xs → Each (λ (u : Update). AtMost o u.due) us →
    TimedAt (time_at b o time) (places_at b o xs) us
timed_slot f true o time xs us e h k l = h
timed_slot f false None time xs us e h k l = or_none f e
timed_slot f false (Some t) time xs us e h k l = record { places = each-map (NotAfter (Some t)) (Later t) (woken_at t) (later_woken t) xs k; updates = l }

rises : (f b : Bool) (o : Option ℕ) (time : ℕ) → (f || is_none o) ≡ b → b ≡ false → Above time o → time < time_at b o time
rises f true o time e h a = cc
rises f false None time e h a = or_none f e
rises f false (Some t) time e h a = a

timed_applied : (m : Move) (s : State) → is_enabled s m ≡ true → Timed s → Timed (apply m s)
timed_applied (Step i) s e h = timed_stepped s i (slice_get s.places i) h
timed_applied (Evaluate j) s e h = timed_evaluate s j (slice_get s.assigns j) h
timed_applied (Propagate j) s e h = timed_propagate s j (slice_get s.assigns j) h
timed_applied (Make i) s e h = timed_make s i (slice_get s.updates i) h
timed_applied Rouse s e h = record { places = each-map (Later s.time) (Later s.time) roused (later_roused s.time) s.places h.places; updates = h.updates }
timed_applied Activate s e h = record { places = h.places; updates = each-map (NotBefore s.time) (NotBefore s.time) (activated s.time) (λ u early. early) s.updates h.updates }
timed_applied EndSlot s e h =
    timed_slot s.finishing (ends s) (next_time s) s.time s.places s.updates refl h
    (each-to (NotAfter (next_wake None s.places)) (NotAfter (next_time s)) (not_after_more (next_wake None s.places) s.updates) s.places (each_wake None s.places))
    (each_update (next_wake None s.places) s.updates)

-- what an allowed move asks for
pub enabled_of : (grain : Grain) (d : Parts) (s : State) (m : Move) → allowed grain d s m ≡ true → (s.over ≡ false) × (is_enabled s m ≡ true)
enabled_of grain d s m h =
    let first = and_parts (not s.over && is_enabled s m) (is_free grain d s m) h in
    let second = and_parts (not s.over) (is_enabled s m) first.0 in
    (not-true s.over second.0, second.1)

pub timed : (grain : Grain) (d : Parts) (moves : List Move) → Legal grain d moves → Timed (after d moves)
timed grain d [] h = record { places = later_start d.processes; updates = tt }
timed grain d (m ∷ before) h = timed_applied m (after d before) (enabled_of grain d (after d before) m h.1).1 (timed grain d before h.0)

-- a slot ends before the next one
pub next_above : (s : State) → is_enabled s EndSlot ≡ true → Timed s → Above s.time (next_time s)
next_above s e h =
    let a = and_parts (not (is_busy s) && not (has_inactive s)) (not (has_due s)) e in
    let b = and_parts (not (is_busy s)) (not (has_inactive s)) a.0 in
    let quiet = or_parts (list_any is_going s.places || list_any (λ (x : AssignState). x.needs || is_some x.pending) s.assigns) (list_any (λ (u : Update). u.active) s.updates) (not-true (is_busy s) b.0) in
    above_update s.time (next_wake None s.places) s.updates (above_wake s.time None s.places tt h.places)
    (all_past s.time s.updates quiet.1 (not-true (has_due s) a.1) h.updates)

-- ---- the slots

abbrev Before : ℕ → Slot → Type 0
Before time x = x.time < time

rising_after : (t : ℕ) (xs : List Slot) (s : Slot) → AreRisingAfter t xs → t < s.time → Each (Before s.time) xs → s.time < 2 ^ 64 → AreRisingAfter t (xs ++ s ∷ [])
rising_after t [] s h above each short = (above, short, tt)
rising_after t (x ∷ xs) s h above each short = (h.0, h.1, rising_after x.time xs s h.2 each.0 each.1 short)

rising_more : (xs : List Slot) (s : Slot) → AreRising xs → Each (Before s.time) xs → s.time < 2 ^ 64 → AreRising (xs ++ s ∷ [])
rising_more [] s h each short = (short, tt)
rising_more (x ∷ xs) s h each short = (h.0, rising_after x.time xs s h.1 each.0 each.1 short)

-- slots that rise, and end before this time unless the execution is over
record Rises (xs : List Slot) (s : State) : Type 0 where
  rising : AreRising xs
  below : s.over ≡ false → Each (Before s.time) xs

-- a move that ends no slot
same_rise : (xs : List Slot) (s t : State) → t.over ≡ s.over → t.time ≡ s.time → Rises xs s → Rises (xs ++ []) t
same_rise xs s t over time r =
    subst (λ (l : List Slot). Rises l t) (sym (append-nil xs))
    (record { rising = r.rising; below = λ live. subst (λ (n : ℕ). Each (Before n) xs) (sym time) (r.below (sym over ∙ live)) })

pub stepped_over : (s : State) (i : ℕ) (o : Option Place) → (stepped s i o).over ≡ s.over
stepped_over s i None = refl
stepped_over s i (Some x) = over_behind s (step (todo_of x) s.store s.time).write
  where
    over_behind : (s : State) (w : Option Write) → (written_after s w).over ≡ s.over
    over_behind s None = refl
    over_behind s (Some w) = refl

pub stepped_time : (s : State) (i : ℕ) (o : Option Place) → (stepped s i o).time ≡ s.time
stepped_time s i None = refl
stepped_time s i (Some x) = behind_time s (step (todo_of x) s.store s.time).write

abbrev SameClock : State → State → Type 0
SameClock s t = (t.over ≡ s.over) × (t.time ≡ s.time)

clock_evaluate : (s : State) (j : ℕ) (o : Option AssignState) → SameClock s (evaluate s j o)
clock_evaluate s j None = (refl, refl)
clock_evaluate s j (Some x) = (refl, refl)

clock_value : (s : State) (j : ℕ) (x : AssignState) (o : Option (List Digit)) → SameClock s (propagate_value s j x o)
clock_value s j x None = (refl, refl)
clock_value s j x (Some v) = (refl, refl)

clock_propagate : (s : State) (j : ℕ) (o : Option AssignState) → SameClock s (propagate s j o)
clock_propagate s j None = (refl, refl)
clock_propagate s j (Some x) = clock_value s j x x.pending

clock_make : (s : State) (i : ℕ) (o : Option Update) → SameClock s (make s i o)
clock_make s i None = (refl, refl)
clock_make s i (Some u) = (refl, refl)

-- the end of a slot
end_rise : (xs : List Slot) (s t : State) (x : Slot) (until : ℕ) (b : Bool) → leb x.time until ≡ b → x.time ≡ s.time → until < 2 ^ 62 → s.over ≡ false → (t.over ≡ false → s.time < t.time) → Rises xs s →
    Rises (xs ++ (if b then x ∷ [] else [])) t
end_rise xs s t x until true e here short live next r =
    let by : x.time ≤ until = leb-true x.time until e in
    let each : Each (Before s.time) xs = r.below live in
    record {
      rising = rising_more xs x r.rising (subst (λ (n : ℕ). Each (Before n) xs) (sym here) each) (omega (arith, by, short));
      below = λ goes. let rise = next goes in each-append (Before t.time) xs (x ∷ []) (each-to (Before s.time) (Before t.time) (λ y early. omega (arith, early, rise)) xs each) (omega (arith, here, rise), tt);
    }
end_rise xs s t x until false e here short live next r =
    subst (λ (l : List Slot). Rises l t) (sym (append-nil xs))
    (record { rising = r.rising; below = λ goes. let rise = next goes in each-to (Before s.time) (Before t.time) (λ y early. omega (arith, early, rise)) xs (r.below live) })

rise_applied : (until : ℕ) (xs : List Slot) (m : Move) (s : State) → until < 2 ^ 62 → s.over ≡ false → is_enabled s m ≡ true → Timed s → Rises xs s → Rises (xs ++ filter (is_by until) (ended_slot m s)) (apply m s)
rise_applied until xs (Step i) s short live e h r = same_rise xs s (apply (Step i) s) (stepped_over s i (slice_get s.places i)) (stepped_time s i (slice_get s.places i)) r
rise_applied until xs (Evaluate j) s short live e h r = let c = clock_evaluate s j (slice_get s.assigns j) in same_rise xs s (apply (Evaluate j) s) c.0 c.1 r
rise_applied until xs (Propagate j) s short live e h r = let c = clock_propagate s j (slice_get s.assigns j) in same_rise xs s (apply (Propagate j) s) c.0 c.1 r
rise_applied until xs (Make i) s short live e h r = let c = clock_make s i (slice_get s.updates i) in same_rise xs s (apply (Make i) s) c.0 c.1 r
rise_applied until xs Rouse s short live e h r = same_rise xs s (apply Rouse s) refl refl r
rise_applied until xs Activate s short live e h r = same_rise xs s (apply Activate s) refl refl r
rise_applied until xs EndSlot s short live e h r =
    end_rise xs s (after_slot s) _ until (leb s.time until) refl refl short live (λ goes. rises s.finishing (ends s) (next_time s) s.time refl goes (next_above s e h)) r

rise : (grain : Grain) (d : Parts) (moves : List Move) (until : ℕ) → Legal grain d moves → until < 2 ^ 62 → Rises (filter (is_by until) (slots d moves)) (after d moves)
rise grain d [] until h short = record { rising = tt; below = λ live. tt }
rise grain d (m ∷ before) until h short =
    let s = after d before in
    let able = enabled_of grain d s m h.1 in
    subst (λ (l : List Slot). Rises l (apply m s)) (sym (filter-append (is_by until) (slots d before) (ended_slot m s)))
    (rise_applied until (filter (is_by until) (slots d before)) m s short able.0 able.1 (timed grain d before h.0) (rise grain d before until h.0 short))

-- the slots of the trace rise
pub trace_rises : (grain : Grain) (d : Parts) (moves : List Move) (until : ℕ) → Legal grain d moves → until < 2 ^ 62 → AreRising (trace d moves until).slots
trace_rises grain d moves until h short = (rise grain d moves until h short).rising
