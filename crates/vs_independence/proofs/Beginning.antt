-- Where a slot finds the processes.
use Rattle.std.proofs.Common.{◌≡◌, ℕ, zero, suc, ◌+◌, ◌%◌, ◌<◌, ◌≤◌, ◌==◌, ◌⊎◌, Bool, true, false, Option, Some, None, List, [], ◌∷◌, map, get_or, refl, sym, ◌∙◌, ap, subst, inl, inr, arith, leb-true}
use Rattle.std.proofs.Math.ListN.{get_or-map}
use Rattle.std.proofs.lemmas.Bool.{cond_both, eqb-true, eqb-false, false≢true}
use Rattle.vs_independence.specs.vs_process.specs.vs_eval.specs.Waking.{wake_any}
use Rattle.vs_design.specs.declared.design.Process.{Process}
use Rattle.vs_design.specs.Parts.{Parts}
use Rattle.vs_design.specs.Stores.{Store}
use Rattle.vs_process.specs.declared.gait.Gait.{Gait}
use Rattle.vs_process.specs.declared.gait.Gait.TheVariants.{Woken, Fresh}
use Rattle.vs_process.specs.Nexts.{erased, erased_next}
use Rattle.vs_process.specs.Landings.{todo_after}
use Rattle.vs_process.specs.Places.{Todo, Place, going, sleeping, inactive, waiting, ended, active_at, stepped_gait, start_place, flat, is_going, is_inactive, todo_of}
use Rattle.vs_process.specs.Steps.{Next, on, after, wait, step}
use Rattle.vs_independence.specs.vs_process.specs.States.{State, start, place_after_step, roused, woken_at, wakened}
use Rattle.vs_independence.specs.vs_process.specs.Executions.{ends, next_time, after_slot, places_at, time_at}
use Rattle.vs_rules.specs.vs_process.proofs.Threads.{is_stopped, stopped_from}
use Rattle.vs_independence.proofs.Making.{none_get}
use Rattle.vs_independence.proofs.InnerMoves.{AtEnd}
use Rattle.vs_independence.proofs.Times.{is_after, after_next, get_from_all}
use Rattle.vs_rules.specs.Points.{Goes, Point, first_todo, nexts_by}
use Rattle.vs_rules.proofs.Points.{by_goes, erased_flat, step_follows}
use Rattle.vs_rules.specs.Claims.{kind_of, Claims, Kind, IsEdge, IsDelay, HasMixedLists, WaitsForEdges, WaitsForTimes, IsSequential, is_wide}
use Rattle.vs_rules.specs.Paths.{PathBy, begins, goes, is_zero_time, IsPoint, IsSlot0, RunsFrom}
use Rattle.vs_rules.specs.Slots.{Ends, DelayEnds, EdgeEnds, RunsByDelays, RunsByEdges, HasSlot}
use Rattle.vs_rules.specs.Rules.{K7, K8}
use Rattle.vs_rules.specs.vs_process.specs.Threads.{is_timed}
use Rattle.vs_independence.proofs.Boundary.{IsSteady}
use Rattle.vs_independence.proofs.Walks.{point_on, at_zero, Heard, Delayed, delayed_here, IsAtPlace, Closed, stands_active, stands_step, stands_roused}

-- ---- paths lead to points

pub path_point : (d : Parts) (wide : Bool) (i : ℕ) (ok : Next → Bool) (from k : Todo) → IsPoint d i from → PathBy (nexts_by wide) ok from k → IsPoint d i k
path_point d wide i ok from k p begins = p
path_point d wide i ok from k p (goes j l next path g may is) = subst (IsPoint d i) is (point_on d i j next (path_point d wide i ok from j p path) (by_goes wide j next g))

pub slot0_point : (d : Parts) (wide : Bool) (i : ℕ) (k : Todo) → IsSlot0 d wide i k → IsPoint d i k
slot0_point d wide i k path = path_point d wide i is_zero_time (first_todo d i) k Point.begins path

pub runs_point : (d : Parts) (wide : Bool) (i : ℕ) (can_end : Next → ℕ → Type 0) (k : Todo) (r : ℕ) → RunsFrom d wide i can_end k r → IsPoint d i k
runs_point d wide i can_end k r h = path_point d wide i _ (todo_after h.next) k (point_on d i h.at h.next h.point h.goes) h.path

-- ---- residues are closed

-- a delay control of a process that waits for times ends where its list says
delay_ends : (d : Parts) (c : Claims) (i : ℕ) (lists : List (List ℕ)) → WaitsForTimes d c i lists → (next : Next) (r : ℕ) → DelayEnds d i lists next r → Ends d c i (kind_of d c i) next r
delay_ends d c i lists (inl e) next r h = subst (λ (kind : Option Kind). Ends d c i kind next r) (sym e) h
delay_ends d c i lists (inr e) next r h = subst (λ (kind : Option Kind). Ends d c i kind next r) (sym e) (inl h)

-- an event control of a process that waits for edges ends where a term of it fires
pub edge_ends : (d : Parts) (c : Claims) (i : ℕ) → WaitsForEdges d c i → (next : Next) (r : ℕ) → EdgeEnds d c next r → Ends d c i (kind_of d c i) next r
edge_ends d c i (inl e) next r h = subst (λ (kind : Option Kind). Ends d c i kind next r) (sym e) h
edge_ends d c i (inr m) next r h = subst (λ (kind : Option Kind). Ends d c i kind next r) (sym m.1) (inr h)

-- a run slot of a process that waits for times is one of its delay controls, or, where it is mixed, of its event controls
slot_sort : (d : Parts) (c : Claims) (i : ℕ) (lists : List (List ℕ)) → WaitsForTimes d c i lists → (k : Todo) (r : ℕ) → HasSlot d c i k r →
    RunsByDelays d (is_wide c) i lists k r ⊎ (HasMixedLists d c i lists × RunsByEdges d c i k r)
slot_sort d c i lists (inl e) k r h = inl (subst (λ (kind : Option Kind). RunsFrom d (is_wide c) i (Ends d c i kind) k r) e h)
slot_sort d c i lists (inr e) k r h = by_start (subst (λ (kind : Option Kind). RunsFrom d (is_wide c) i (Ends d c i kind) k r) e h)
  where
    by_start : RunsFrom d (is_wide c) i (Ends d c i (Some (Kind.mixed lists))) k r → RunsByDelays d (is_wide c) i lists k r ⊎ (HasMixedLists d c i lists × RunsByEdges d c i k r)
    by_start h = elim h.starts [
      | inl delay ↦ inl (record { at = h.at; next = h.next; point = h.point; goes = h.goes; starts = delay; path = h.path })
      | inr edge ↦ inr (e, record { at = h.at; next = h.next; point = h.point; goes = h.goes; starts = edge; path = h.path })
    ]

closed_times : (d : Parts) (c : Claims) (i : ℕ) (lists : List (List ℕ)) → WaitsForTimes d c i lists → K8 d c i → Closed d c i
closed_times d c i lists is r = record {
  from_start = λ k l number ticks s g up. delay_ends d c i lists is (after number ticks l) (ticks % c.modulus) (r.from_start lists k l number ticks is s g up);
  from_residue = λ k l number ticks q h g. delay_ends d c i lists is (after number ticks l) ((q + ticks) % c.modulus) (elim (slot_sort d c i lists is k q h) [
    | inl delays ↦ r.from_residue lists k l number ticks q is delays g
    | inr edges ↦ r.from_edge lists k l number ticks q edges.0 edges.1 g
  ]);
}

closed_edge : (d : Parts) (c : Claims) (i : ℕ) → IsEdge d c i → K7 d c i → Closed d c i
closed_edge d c i e r = record {
  from_start = λ k l number ticks s g up. absurd (r.no_delay k l number ticks e (slot0_point d (is_wide c) i k s) g);
  from_residue = λ k l number ticks q h g. absurd (r.no_delay k l number ticks e (runs_point d (is_wide c) i (Ends d c i (kind_of d c i)) k q h) g);
}

pub closed_of : (d : Parts) (c : Claims) (i : ℕ) → IsSequential d c i → K7 d c i → K8 d c i → Closed d c i
closed_of d c i (inl e) r7 r8 = closed_edge d c i e r7
closed_of d c i (inr (inl delay)) r7 r8 = closed_times d c i delay.0 (inl delay.1) r8
closed_of d c i (inr (inr mix)) r7 r8 = closed_times d c i mix.0 (inr mix.1) r8

-- ---- from slot to slot

-- a slot above time 0 finds a process stopped, or behind a delay control that has just ended
abbrev pub Resumes : Parts → Claims → ℕ → ℕ → Place → Type 0
Resumes d c i time (going gait k) = Delayed d c i time (erased k)
Resumes d c i time (inactive k) = ⊥
Resumes d c i time (sleeping due k) = Unit {0}
Resumes d c i time (waiting terms k) = Unit {0}
Resumes d c i time ended = Unit {0}

stopped_resumes : (d : Parts) (c : Claims) (i time : ℕ) (p : Place) → is_stopped p ≡ true → Resumes d c i time p
stopped_resumes d c i time (going gait k) still = absurd (false≢true still)
stopped_resumes d c i time (inactive k) still = absurd (false≢true still)
stopped_resumes d c i time (sleeping due k) still = tt
stopped_resumes d c i time (waiting terms k) still = tt
stopped_resumes d c i time ended still = tt

resumes_active : (d : Parts) (c : Claims) (i time : ℕ) (k : Todo) → Delayed d c i time (erased k) → Resumes d c i time (active_at Woken k)
resumes_active d c i time [] h = tt
resumes_active d c i time (x ∷ rest) h = h

-- what has stopped, at the next slot
woken_stands : (d : Parts) (c : Claims) (i time t : ℕ) (p : Place) → is_stopped p ≡ true → is_after t p ≡ true → IsAtPlace d c i time p → IsAtPlace d c i t (woken_at t p) × Resumes d c i t (woken_at t p)
woken_stands d c i time t (going gait k) still up h = absurd (false≢true still)
woken_stands d c i time t (inactive k) still up h = absurd (false≢true still)
woken_stands d c i time t (waiting terms k) still up h = (h, tt)
woken_stands d c i time t ended still up h = (tt, tt)
woken_stands d c i time t (sleeping due k) still up h =
    cond_both (due == t) (active_at Woken k) (sleeping due k) (λ p. IsAtPlace d c i t p × Resumes d c i t p)
    (λ e. let is : due ≡ t = eqb-true due t e in
    let less : time < due = h.up in
    let later : 0 < t = omega (arith, is, less) in
    let ended_now = subst (λ n. Delayed d c i n (erased k)) is h.delayed in
    (stands_active d c i t Woken k (delayed_here d c i t (erased k) later ended_now), resumes_active d c i t k ended_now))
    (λ e. let ne : due ≡ t → ⊥ = eqb-false due t e in
    let le : t ≤ due = leb-true t due up in
    (record { up = omega (arith, ne, le); delayed = h.delayed }, tt))

-- ---- a process of kind delay

-- it waits for no event
pub delay_timed : (d : Parts) (c : Claims) (i time : ℕ) → IsDelay d c i → K8 d c i → (p : Place) → IsAtPlace d c i time p → is_timed p ≡ true
delay_timed d c i time kind r (going gait k) h = refl
delay_timed d c i time kind r (inactive k) h = refl
delay_timed d c i time kind r (sleeping due k) h = refl
delay_timed d c i time kind r (waiting terms k) h = absurd (r.no_event h.control (erased k) h.number terms kind h.point h.way)
delay_timed d c i time kind r ended h = refl

-- so it stands where the rules say in every execution
pub delay_steady : (d : Parts) (c : Claims) (i : ℕ) → IsDelay d c i → Closed d c i → K8 d c i → IsSteady (IsAtPlace d c i)
delay_steady d c i kind closed r = record {
  steps = λ time gait k store h. stands_step d c i closed time gait k store h;
  rouses = λ time p h. stands_roused d c i time p h;
  wakes = λ time old new p h. wakes time old new p h;
  goes_on = λ time t p still up h. (woken_stands d c i time t p still up h).0;
}
  where
    wakes : (time : ℕ) (old new : Store) (p : Place) → IsAtPlace d c i time p → IsAtPlace d c i time (wakened old new p)
    wakes time old new (going gait k) h = h
    wakes time old new (inactive k) h = h
    wakes time old new (sleeping due k) h = h
    wakes time old new ended h = h
    wakes time old new (waiting terms k) h = absurd (r.no_event h.control (erased k) h.number terms kind h.point h.way)

-- ---- a process without delay controls

-- it is at a point of its text, and sleeps at no delay
abbrev pub Placed : Parts → ℕ → ℕ → Place → Type 0
Placed d i time (going gait k) = IsPoint d i (erased k)
Placed d i time (inactive k) = ⊥
Placed d i time (sleeping due k) = ⊥
Placed d i time (waiting terms k) = Heard d i terms (erased k)
Placed d i time ended = Unit {0}

placed_active : (d : Parts) (i time : ℕ) (gait : Gait) (k : Todo) → IsPoint d i (erased k) → Placed d i time (active_at gait k)
placed_active d i time gait [] p = tt
placed_active d i time gait (x ∷ rest) p = p

placed_behind : (d : Parts) (i time : ℕ) → ((k l : Todo) (number ticks : ℕ) → IsPoint d i k → Goes k (after number ticks l) → ⊥) →
    (gait : Gait) (k : Todo) (next : Next) → IsPoint d i (erased k) → Goes (erased k) (erased_next next) → Placed d i time (place_after_step (going gait k) time next)
placed_behind d i time no_delay gait k (on l) p g = placed_active d i time (stepped_gait gait) l (point_on d i (erased k) (on (erased l)) p g)
placed_behind d i time no_delay gait k (after number ticks l) p g = absurd (no_delay (erased k) (erased l) number ticks p g)
placed_behind d i time no_delay gait k (wait number terms l) p g = record { control = erased k; number = number; point = p; way = g }

placed_roused : (d : Parts) (i time : ℕ) (p : Place) → Placed d i time p → Placed d i time (roused p)
placed_roused d i time (going gait k) h = h
placed_roused d i time (inactive k) h = absurd h
placed_roused d i time (sleeping due k) h = absurd h
placed_roused d i time (waiting terms k) h = h
placed_roused d i time ended h = h

placed_wakened : (d : Parts) (i time : ℕ) (old new : Store) (p : Place) → Placed d i time p → Placed d i time (wakened old new p)
placed_wakened d i time old new (going gait k) h = h
placed_wakened d i time old new (inactive k) h = absurd h
placed_wakened d i time old new (sleeping due k) h = absurd h
placed_wakened d i time old new ended h = h
placed_wakened d i time old new (waiting terms k) h =
    cond_both (wake_any terms old new) (active_at Woken k) (waiting terms k) (Placed d i time)
    (λ e. placed_active d i time Woken k (point_on d i h.control (wait h.number terms (erased k)) h.point h.way)) (λ e. h)

placed_later : (d : Parts) (i time t : ℕ) (p : Place) → Placed d i time p → Placed d i t (woken_at t p)
placed_later d i time t (going gait k) h = h
placed_later d i time t (inactive k) h = absurd h
placed_later d i time t (sleeping due k) h = absurd h
placed_later d i time t (waiting terms k) h = h
placed_later d i time t ended h = h

pub placed_steady : (d : Parts) (i : ℕ) → ((k l : Todo) (number ticks : ℕ) → IsPoint d i k → Goes k (after number ticks l) → ⊥) → IsSteady (Placed d i)
placed_steady d i no_delay = record {
  steps = λ time gait k store h. placed_behind d i time no_delay gait k (step k store time).next h (step_follows k store time);
  rouses = λ time p h. placed_roused d i time p h;
  wakes = λ time old new p h. placed_wakened d i time old new p h;
  goes_on = λ time t p still up h. placed_later d i time t p h;
}

-- ---- the start

-- a place at which a process can start: no turns are left, and nothing is waited for
abbrev pub IsBeginning : Place → Type 0
IsBeginning (going gait todo) = erased todo ≡ todo
IsBeginning (sleeping due todo) = ⊥
IsBeginning (inactive todo) = ⊥
IsBeginning (waiting terms todo) = ⊥
IsBeginning ended = Unit {0}

active_begins : (gait : Gait) (k : Todo) → erased k ≡ k → IsBeginning (active_at gait k)
active_begins gait [] h = tt
active_begins gait (i ∷ rest) h = h

pub start_begins : (ps : List Process) (i : ℕ) → IsBeginning (get_or (map (λ (p : Process). start_place p.body) ps) i ended)
start_begins [] i = tt
start_begins (p ∷ ps) zero = active_begins Fresh (flat p.body) (erased_flat p.body)
start_begins (p ∷ ps) (suc i) = start_begins ps i

beginning_stands : (d : Parts) (c : Claims) (i : ℕ) (p : Place) → get_or (start d).places i ended ≡ p → IsBeginning p → IsAtPlace d c i 0 p
beginning_stands d c i (going gait k) e b =
    let first : first_todo d i ≡ erased k = ap todo_of e ∙ sym b in
    record { point = subst (IsPoint d i) first Point.begins; at = at_zero refl (subst (PathBy (nexts_by (is_wide c)) is_zero_time (first_todo d i)) first begins) }
beginning_stands d c i (sleeping due k) e b = absurd b
beginning_stands d c i (waiting terms k) e b = absurd b
beginning_stands d c i (inactive k) e b = absurd b
beginning_stands d c i ended e b = tt

beginning_timed : (p : Place) → IsBeginning p → is_timed p ≡ true
beginning_timed (going gait k) b = refl
beginning_timed (sleeping due k) b = absurd b
beginning_timed (waiting terms k) b = absurd b
beginning_timed (inactive k) b = absurd b
beginning_timed ended b = refl

beginning_placed : (d : Parts) (c : Claims) (i : ℕ) (p : Place) → IsAtPlace d c i 0 p → IsBeginning p → Placed d i 0 p
beginning_placed d c i (going gait k) h b = h.point
beginning_placed d c i (sleeping due k) h b = absurd b
beginning_placed d c i (waiting terms k) h b = absurd b
beginning_placed d c i (inactive k) h b = absurd b
beginning_placed d c i ended h b = tt

pub start_stands : (d : Parts) (c : Claims) (i : ℕ) → IsAtPlace d c i 0 (get_or (start d).places i ended)
start_stands d c i = beginning_stands d c i (get_or (start d).places i ended) refl (start_begins d.processes i)

first_of : (d : Parts) (i : ℕ) (gait : Gait) (k : Todo) → get_or (start d).places i ended ≡ going gait k → IsBeginning (going gait k) → first_todo d i ≡ erased k
first_of d i gait k e b = ap todo_of e ∙ sym b

-- what a process does first
pub start_first : (d : Parts) (i : ℕ) (gait : Gait) (k : Todo) → get_or (start d).places i ended ≡ going gait k → first_todo d i ≡ erased k
start_first d i gait k e = first_of d i gait k e (subst IsBeginning e (start_begins d.processes i))

pub start_placed : (d : Parts) (c : Claims) (i : ℕ) → Placed d i 0 (get_or (start d).places i ended)
start_placed d c i = beginning_placed d c i (get_or (start d).places i ended) (start_stands d c i) (start_begins d.processes i)

pub start_timed : (d : Parts) (i : ℕ) → is_timed (get_or (start d).places i ended) ≡ true
start_timed d i = beginning_timed (get_or (start d).places i ended) (start_begins d.processes i)

-- ---- where a slot begins

-- all processes have stopped
abbrev pub AllStopped : State → Type 0
AllStopped b = (i : ℕ) → is_stopped (get_or b.places i ended) ≡ true

pub record Beginning (d : Parts) (c : Claims) (b : State) : Type 0 where
  pub stands : (i : ℕ) → IsSequential d c i → IsAtPlace d c i b.time (get_or b.places i ended)
  -- it is the first slot, or a later one, or all have stopped for good
  pub first : (b ≡ start d) ⊎ ((0 < b.time) ⊎ AllStopped b)
  pub resumes : (i : ℕ) → IsSequential d c i → (b ≡ start d → ⊥) → Resumes d c i b.time (get_or b.places i ended)

pub first_beginning : (d : Parts) (c : Claims) → Beginning d c (start d)
first_beginning d c = record { stands = λ i seq. start_stands d c i; first = inl refl; resumes = λ i seq ne. absurd (ne refl) }

pub still_at_end : (s : State) → AtEnd s → AllStopped s
still_at_end s e i = stopped_from (get_or s.places i ended) (none_get is_going s.places i ended refl e.quiet.going) (none_get is_inactive s.places i ended refl e.inactive)

stopped_placed : (d : Parts) (i time : ℕ) (t : ℕ) (p : Place) → Placed d i time p → is_stopped p ≡ true → is_stopped (woken_at t p) ≡ true
stopped_placed d i time t (going gait k) h s = absurd (false≢true s)
stopped_placed d i time t (inactive k) h s = absurd h
stopped_placed d i time t (sleeping due k) h s = absurd h
stopped_placed d i time t (waiting terms k) h s = refl
stopped_placed d i time t ended h s = refl

pub end_rests : (d : Parts) (i : ℕ) (s : State) → AtEnd s → Placed d i s.time (get_or s.places i ended) → is_stopped (get_or (after_slot s).places i ended) ≡ true
end_rests d i s e h = at_next (ends s) (next_time s)
  where
    at_next : (over : Bool) (next : Option ℕ) → is_stopped (get_or (places_at over next s.places) i ended) ≡ true
    at_next true next = still_at_end s e i
    at_next false None = still_at_end s e i
    at_next false (Some t) =
        subst (λ p. is_stopped p ≡ true) (sym (get_or-map (woken_at t) s.places i ended)) (stopped_placed d i s.time t (get_or s.places i ended) h (still_at_end s e i))

first_behind : (s : State) → AtEnd s → ((t : ℕ) → next_time s ≡ Some t → s.time < t) → (0 < (after_slot s).time) ⊎ AllStopped (after_slot s)
first_behind s e up = at_next (ends s) (next_time s) refl
  where
    at_next : (over : Bool) (next : Option ℕ) → next_time s ≡ next → (0 < time_at over next s.time) ⊎ ((i : ℕ) → is_stopped (get_or (places_at over next s.places) i ended) ≡ true)
    at_next true next is = inr (still_at_end s e)
    at_next false None is = inr (still_at_end s e)
    at_next false (Some t) is = let less : s.time < t = up t is in inl (omega (arith, less))

-- where a slot has ended with each process where the rules say, the next one begins so
pub next_beginning : (d : Parts) (c : Claims) (s : State) → AtEnd s → ((t : ℕ) → next_time s ≡ Some t → s.time < t) → ((i : ℕ) → IsSequential d c i → IsAtPlace d c i s.time (get_or s.places i ended)) → Beginning d c (after_slot s)
next_beginning d c s e up h = record {
  stands = λ i seq. (at_next i (h i seq) (ends s) (next_time s) refl).0;
  first = inr (first_behind s e up);
  resumes = λ i seq ne. (at_next i (h i seq) (ends s) (next_time s) refl).1;
}
  where
    at_next : (i : ℕ) → IsAtPlace d c i s.time (get_or s.places i ended) → (over : Bool) (next : Option ℕ) → next_time s ≡ next →
        IsAtPlace d c i (time_at over next s.time) (get_or (places_at over next s.places) i ended) × Resumes d c i (time_at over next s.time) (get_or (places_at over next s.places) i ended)
    at_next i h true next is = (h, stopped_resumes d c i s.time (get_or s.places i ended) (still_at_end s e i))
    at_next i h false None is = (h, stopped_resumes d c i s.time (get_or s.places i ended) (still_at_end s e i))
    at_next i h false (Some t) is =
        subst (λ p. IsAtPlace d c i t p × Resumes d c i t p) (sym (get_or-map (woken_at t) s.places i ended))
        (woken_stands d c i s.time t (get_or s.places i ended) (still_at_end s e i) (get_from_all (is_after t) s.places ended refl (after_next s t is) i) h)
