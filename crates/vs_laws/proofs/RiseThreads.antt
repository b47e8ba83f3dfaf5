-- A design in which a process waits for an edge: its states, and its threads in a slot.
use Rattle.std.proofs.Common.{pos, eqb-true, ◌||◌, ◌+◌, ◌≡◌, ℕ, zero, suc, ◌==◌, ◌⊎◌, Bool, true, false, Option, Some, None, List, [], ◌∷◌, get_or, map, slice_get, slice_set, refl, sym, ◌∙◌, ap, subst, inl, inr, arith}
use Rattle.std.specs.declared.alloc.Global.{Global}
use Rattle.std.specs.List.{list_any, Contains}
use Rattle.std.proofs.lemmas.Bool.{cond_both, or_cases, false≢true, true≢false}
use Rattle.std.proofs.lemmas.Option.{none-some, same_Some}
use Rattle.vs_design.specs.vs_logic4.specs.declared.digit.Digit.TheVariants.{One}
use Rattle.vs_design.specs.declared.range.BitRange.{BitRange}
use Rattle.vs_design.specs.declared.statement.EventTerm.{EventTerm}
use Rattle.vs_design.specs.declared.statement.Statement.{Statement, out-Statement}
use Rattle.vs_design.specs.declared.statement.Statement.TheOpen as f
use Rattle.vs_design.specs.Uses.{whole}
use Rattle.vs_design.specs.Stores.{Store, put}
use Rattle.vs_independence.specs.vs_process.specs.declared.moves.Grain.{Grain}
use Rattle.vs_independence.specs.vs_process.specs.declared.moves.Move.{Move}
use Rattle.vs_independence.specs.vs_process.specs.declared.moves.Move.TheVariants.{Step, Evaluate, Propagate, Make, Rouse, Activate, EndSlot}
use Rattle.vs_independence.specs.vs_process.specs.Executions.{after as state_after, Legal, is_enabled, apply, ends, next_time, places_at}
use Rattle.vs_independence.specs.vs_process.specs.States.{start, touched, performed, updates_after, State, wakened, written_after, place_after_step, stepped, evaluate, propagate, make, roused, activated, woken_at, triggered}
use Rattle.vs_design.specs.Writes.{Write, names}
use Rattle.vs_independence.specs.vs_process.specs.vs_eval.specs.Waking.{wake_any}
use Rattle.vs_independence.specs.vs_process.specs.declared.gait.Gait.TheVariants.{Fresh, Woken}
use Rattle.vs_independence.specs.vs_process.specs.Places.{perform, Todo, Place, going, sleeping, waiting, ended, todo_of, is_going}
use Rattle.vs_independence.specs.vs_process.specs.Steps.{Out, goes, on, after, wait, step, assignment}
use Rattle.vs_independence.specs.vs_process.proofs.Times.{enabled_of}
use Rattle.vs_independence.specs.vs_process.specs.declared.gait.Gait.{Gait}
use Rattle.vs_independence.specs.Discipline.{IsAtStart}
use Rattle.vs_process.specs.Threads.{Fired, IsThread, IsTimed, MayOpen, Thread, iterate, place_reads, moved, opening, todo_reads, turn, turn_at, writes}
use Rattle.vs_independence.proofs.InnerMoves.{at_end}
use Rattle.vs_process.proofs.ThreadLists.{place_of}
use Rattle.vs_laws.specs.Race.{operand, set_to, target}
use Rattle.vs_process.specs.BlockDrivers.{no_blocks}
use Rattle.vs_laws.specs.Rise.{rise, sets_late, copies_bit, copies_then, rising}
use Rattle.vs_laws.proofs.Race.{value_number, reads_number, reads_operand}
use Rattle.vs_independence.proofs.Fire.{same_terms as same_waiting}

-- ---- places and steps

abbrev wakes_late : Global → Todo
wakes_late g = perform (set_to g 1 One) ∷ []

abbrev copies_now : Global → Todo
copies_now g = perform (copies_bit g) ∷ []

abbrev pub begins : Global → Place
begins g = going Fresh (perform (sets_late g) ∷ [])

abbrev pub sets_now : Global → Place
sets_now g = going Woken (wakes_late g)

abbrev pub listens_first : Global → Place
listens_first g = going Fresh (perform (copies_then g) ∷ [])

abbrev pub hears : Global → Place
hears g = waiting (rise ∷ []) (copies_now g)

abbrev pub copies : Global → Place
copies g = going Woken (copies_now g)

-- `a = 1` and `b = a`, evaluated
abbrev pub set_write : Write
set_write = record { signal = 0; word = 0; low = pos 0; digits = One ∷ [] } ∷ []

abbrev writes_now : Write → Out
writes_now w = record (goes (on [])) { write = Some w }

step_delay : (g : Global) (store : Store) (time : ℕ) → step (perform (sets_late g) ∷ []) store time ≡ goes (after 0 1 (wakes_late g))
unfolding out-Statement denote.Hole.Carrier.out
step_delay g store time = refl

step_set : (g : Global) (store : Store) (time : ℕ) → step (wakes_late g) store time ≡ writes_now set_write
unfolding out-Statement denote.Hole.Carrier.out
step_set g store time = simp value_number

step_event : (g : Global) (store : Store) (time : ℕ) → step (perform (copies_then g) ∷ []) store time ≡ goes (wait 0 (rise ∷ []) (copies_now g))
unfolding out-Statement denote.Hole.Carrier.out
step_event g store time = refl

step_copy : (g : Global) (store : Store) (time : ℕ) → step (copies_now g) store time ≡ writes_now (assignment (target g 1) (operand 0) store time)
unfolding out-Statement denote.Hole.Carrier.out
step_copy g store time = refl

reads_delay : (g : Global) → todo_reads (perform (sets_late g) ∷ []) ≡ []
unfolding out-Statement denote.Hole.Carrier.out
reads_delay g = refl

reads_set : (g : Global) → todo_reads (wakes_late g) ≡ []
unfolding out-Statement denote.Hole.Carrier.out
reads_set g = simp reads_number

reads_event : (g : Global) → todo_reads (perform (copies_then g) ∷ []) ≡ []
unfolding out-Statement denote.Hole.Carrier.out
reads_event g = refl

reads_copy : (g : Global) → todo_reads (copies_now g) ≡ whole 0 ∷ []
unfolding out-Statement denote.Hole.Carrier.out
reads_copy g = simp reads_operand

-- ---- where the processes stand

pub data First (g : Global) : Place → Type 0 where
  begins_at : First g (begins g)
  sleeps_at : (due : ℕ) → First g (sleeping due (wakes_late g))
  sets_at : First g (sets_now g)
  done : First g ended

pub data Second (g : Global) : Place → Type 0 where
  begins_at : Second g (listens_first g)
  hears_at : Second g (hears g)
  copies_at : Second g (copies g)
  done : Second g ended

pub record Good (g : Global) (s : State) : Type 0 where
  pub first : Place
  pub second : Place
  pub places : s.places ≡ first ∷ second ∷ []
  pub assigns : s.assigns ≡ []
  pub updates : s.updates ≡ []
  pub is_first : First g first
  pub is_second : Second g second

first_wakened : (g : Global) (old new : Store) (p : Place) → First g p → First g (wakened old new p)
first_wakened g old new p begins_at = begins_at
first_wakened g old new p (sleeps_at due) = sleeps_at due
first_wakened g old new p sets_at = sets_at
first_wakened g old new p done = done

second_wakened : (g : Global) (old new : Store) (p : Place) → Second g p → Second g (wakened old new p)
second_wakened g old new p begins_at = begins_at
second_wakened g old new p hears_at = cond_both (wake_any (rise ∷ []) old new) (copies g) (hears g) (Second g) (λ e. copies_at) (λ e. hears_at)
second_wakened g old new p copies_at = copies_at
second_wakened g old new p done = done

first_stepped : (g : Global) (p : Place) (store : Store) (time : ℕ) → First g p → First g (place_after_step p time (step (todo_of p) store time).next)
first_stepped g p store time begins_at = subst (λ (out : Out). First g (place_after_step (begins g) time out.next)) (sym (step_delay g store time)) (sleeps_at (time + 1))
first_stepped g p store time (sleeps_at due) = subst (λ (out : Out). First g (place_after_step (sleeping due (wakes_late g)) time out.next)) (sym (step_set g store time)) done
first_stepped g p store time sets_at = subst (λ (out : Out). First g (place_after_step (sets_now g) time out.next)) (sym (step_set g store time)) done
first_stepped g p store time done = done

second_stepped : (g : Global) (p : Place) (store : Store) (time : ℕ) → Second g p → Second g (place_after_step p time (step (todo_of p) store time).next)
second_stepped g p store time begins_at = subst (λ (out : Out). Second g (place_after_step (listens_first g) time out.next)) (sym (step_event g store time)) hears_at
second_stepped g p store time hears_at = subst (λ (out : Out). Second g (place_after_step (hears g) time out.next)) (sym (step_copy g store time)) done
second_stepped g p store time copies_at = subst (λ (out : Out). Second g (place_after_step (copies g) time out.next)) (sym (step_copy g store time)) done
second_stepped g p store time done = done

-- ---- every state of an execution is such

behind_places : (g : Global) (s : State) (o : Option Write) → Good g s → Good g (written_after s o)
behind_places g s None h = h
behind_places g s (Some w) h =
    let new = put s.store w in
    record {
      first = wakened s.store new h.first;
      second = wakened s.store new h.second;
      places = ap (map (wakened s.store new)) h.places;
      assigns = ap (map (touched s.store new)) h.assigns;
      updates = h.updates;
      is_first = first_wakened g s.store new h.first h.is_first;
      is_second = second_wakened g s.store new h.second h.is_second;
    }

-- what a step makes beside its write
no_update : (g : Global) (p : Place) (store : Store) (time : ℕ) → (First g p ⊎ Second g p) → (step (todo_of p) store time).update ≡ None
no_update g p store time (inl begins_at) = ap (λ (out : Out). out.update) (step_delay g store time)
no_update g p store time (inl (sleeps_at due)) = ap (λ (out : Out). out.update) (step_set g store time)
no_update g p store time (inl sets_at) = ap (λ (out : Out). out.update) (step_set g store time)
no_update g p store time (inl done) = refl
no_update g p store time (inr begins_at) = ap (λ (out : Out). out.update) (step_event g store time)
no_update g p store time (inr hears_at) = ap (λ (out : Out). out.update) (step_copy g store time)
no_update g p store time (inr copies_at) = ap (λ (out : Out). out.update) (step_copy g store time)
no_update g p store time (inr done) = refl

performed_good : (g : Global) (s : State) (i : ℕ) (p : Place) (out : Out) → Good g s → slice_get s.places i ≡ Some p → (i ≡ 0 → First g (place_after_step p s.time out.next)) → (i ≡ 1 → Second g (place_after_step p s.time out.next)) →
    updates_after i s.time out.update s.updates ≡ s.updates → Good g (performed s i p out)
performed_good g s i p out h is first second still = at_process i refl
  where
    next : Place
    next = place_after_step p s.time out.next

    t : Good g (written_after s out.write)
    t = behind_places g s out.write h

    past : (n : ℕ) → i ≡ suc (suc n) → ⊥
    past n e = none-some p (sym (ap (λ l. slice_get l i) h.places ∙ ap (slice_get (h.first ∷ h.second ∷ [])) e) ∙ is)

    at_process : (n : ℕ) → i ≡ n → Good g (performed s i p out)
    at_process zero e = record {
      first = next;
      second = t.second;
      places = ap (λ l. slice_set l i next) t.places ∙ ap (λ n. slice_set (t.first ∷ t.second ∷ []) n next) e;
      assigns = t.assigns;
      updates = still ∙ h.updates;
      is_first = first e;
      is_second = t.is_second;
    }
    at_process (suc zero) e = record {
      first = t.first;
      second = next;
      places = ap (λ l. slice_set l i next) t.places ∙ ap (λ n. slice_set (t.first ∷ t.second ∷ []) n next) e;
      assigns = t.assigns;
      updates = still ∙ h.updates;
      is_first = t.is_first;
      is_second = second e;
    }
    at_process (suc (suc n)) e = absurd (past n e)

-- who stands there
at_zero : (g : Global) (s : State) (h : Good g s) (i : ℕ) (p : Place) → slice_get s.places i ≡ Some p → i ≡ 0 → First g p
at_zero g s h i p is e = subst (First g) (same_Some h.first p (sym (ap (λ l. slice_get l i) h.places ∙ ap (slice_get (h.first ∷ h.second ∷ [])) e) ∙ is)) h.is_first

at_one : (g : Global) (s : State) (h : Good g s) (i : ℕ) (p : Place) → slice_get s.places i ≡ Some p → i ≡ 1 → Second g p
at_one g s h i p is e = subst (Second g) (same_Some h.second p (sym (ap (λ l. slice_get l i) h.places ∙ ap (slice_get (h.first ∷ h.second ∷ [])) e) ∙ is)) h.is_second

either_at : (g : Global) (s : State) (h : Good g s) (i : ℕ) (p : Place) → slice_get s.places i ≡ Some p → (n : ℕ) → i ≡ n → First g p ⊎ Second g p
either_at g s h i p is zero e = inl (at_zero g s h i p is e)
either_at g s h i p is (suc zero) e = inr (at_one g s h i p is e)
either_at g s h i p is (suc (suc n)) e = absurd (none-some p (sym (ap (λ l. slice_get l i) h.places ∙ ap (slice_get (h.first ∷ h.second ∷ [])) e) ∙ is))

stepped_good : (g : Global) (s : State) (i : ℕ) (o : Option Place) → slice_get s.places i ≡ o → Good g s → Good g (stepped s i o)
stepped_good g s i None is h = h
stepped_good g s i (Some p) is h =
    performed_good g s i p (step (todo_of p) s.store s.time) h is
    (λ e. first_stepped g p s.store s.time (at_zero g s h i p is e))
    (λ e. second_stepped g p s.store s.time (at_one g s h i p is e))
    (ap (λ u. updates_after i s.time u s.updates) (no_update g p s.store s.time (either_at g s h i p is i refl)))

first_roused : (g : Global) (p : Place) → First g p → First g (roused p)
first_roused g p begins_at = begins_at
first_roused g p (sleeps_at due) = sleeps_at due
first_roused g p sets_at = sets_at
first_roused g p done = done

second_roused : (g : Global) (p : Place) → Second g p → Second g (roused p)
second_roused g p begins_at = begins_at
second_roused g p hears_at = hears_at
second_roused g p copies_at = copies_at
second_roused g p done = done

first_woken : (g : Global) (t : ℕ) (p : Place) → First g p → First g (woken_at t p)
first_woken g t p begins_at = begins_at
first_woken g t p (sleeps_at due) = cond_both (due == t) (sets_now g) (sleeping due (wakes_late g)) (First g) (λ e. sets_at) (λ e. sleeps_at due)
first_woken g t p sets_at = sets_at
first_woken g t p done = done

second_woken : (g : Global) (t : ℕ) (p : Place) → Second g p → Second g (woken_at t p)
second_woken g t p begins_at = begins_at
second_woken g t p hears_at = hears_at
second_woken g t p copies_at = copies_at
second_woken g t p done = done

record Pair (g : Global) (places : List Place) : Type 0 where
  first : Place
  second : Place
  is : places ≡ first ∷ second ∷ []
  is_first : First g first
  is_second : Second g second

slot_pair : (g : Global) (over : Bool) (next : Option ℕ) (places : List Place) → Pair g places → Pair g (places_at over next places)
slot_pair g true next places h = h
slot_pair g false None places h = h
slot_pair g false (Some t) places h = record {
  first = woken_at t h.first;
  second = woken_at t h.second;
  is = ap (map (woken_at t)) h.is;
  is_first = first_woken g t h.first h.is_first;
  is_second = second_woken g t h.second h.is_second;
}

pair_of : (g : Global) (s : State) → Good g s → Pair g s.places
pair_of g s h = record { first = h.first; second = h.second; is = h.places; is_first = h.is_first; is_second = h.is_second }

good_with : (g : Global) (s : State) → Pair g s.places → s.assigns ≡ [] → s.updates ≡ [] → Good g s
good_with g s p a u = record { first = p.first; second = p.second; places = p.is; assigns = a; updates = u; is_first = p.is_first; is_second = p.is_second }

applied_good : (g : Global) (m : Move) (s : State) → Good g s → Good g (apply m s)
applied_good g (Step i) s h = stepped_good g s i (slice_get s.places i) refl h
applied_good g (Evaluate j) s h = subst (λ o. Good g (evaluate s j o)) (sym (ap (λ l. slice_get l j) h.assigns)) h
applied_good g (Propagate j) s h = subst (λ o. Good g (propagate s j o)) (sym (ap (λ l. slice_get l j) h.assigns)) h
applied_good g (Make i) s h = subst (λ o. Good g (make s i o)) (sym (ap (λ l. slice_get l i) h.updates)) h
applied_good g Rouse s h = record {
  first = roused h.first;
  second = roused h.second;
  places = ap (map roused) h.places;
  assigns = h.assigns;
  updates = h.updates;
  is_first = first_roused g h.first h.is_first;
  is_second = second_roused g h.second h.is_second;
}
applied_good g Activate s h = record {
  first = h.first;
  second = h.second;
  places = h.places;
  assigns = h.assigns;
  updates = ap (map (activated s.time)) h.updates;
  is_first = h.is_first;
  is_second = h.is_second;
}
applied_good g EndSlot s h = good_with g (apply EndSlot s) (slot_pair g (ends s) (next_time s) s.places (pair_of g s h)) h.assigns h.updates

start_good : (g : Global) → Good g (start (rising g))
start_good g = record { first = begins g; second = listens_first g; places = refl; assigns = refl; updates = refl; is_first = begins_at; is_second = begins_at }

pub all_good : (g : Global) (moves : List Move) → Good g (state_after (rising g) moves)
all_good g [] = start_good g
all_good g (m ∷ moves) = applied_good g m (state_after (rising g) moves) (all_good g moves)

-- ---- where a slot begins

pub record Rests (g : Global) (places : List Place) : Type 0 where
  pub first : Place
  pub second : Place
  pub is : places ≡ first ∷ second ∷ []
  pub is_first : First g first
  pub apart : first ≡ begins g → ⊥
  pub rests : (second ≡ hears g) ⊎ (second ≡ ended)

rests_of : (g : Global) (p q : Place) → First g p → Second g q → list_any is_going (p ∷ q ∷ []) ≡ false → (p ≡ begins g → ⊥) × ((q ≡ hears g) ⊎ (q ≡ ended))
rests_of g p q begins_at second h = absurd (true≢false h)
rests_of g p q sets_at second h = absurd (true≢false h)
rests_of g p q (sleeps_at due) hears_at h = ((λ e. cc), inl refl)
rests_of g p q (sleeps_at due) done h = ((λ e. cc), inr refl)
rests_of g p q (sleeps_at due) begins_at h = absurd (true≢false h)
rests_of g p q (sleeps_at due) copies_at h = absurd (true≢false h)
rests_of g p q done hears_at h = ((λ e. cc), inl refl)
rests_of g p q done done h = ((λ e. cc), inr refl)
rests_of g p q done begins_at h = absurd (true≢false h)
rests_of g p q done copies_at h = absurd (true≢false h)

woken_apart : (g : Global) (t : ℕ) (p : Place) → First g p → (p ≡ begins g → ⊥) → woken_at t p ≡ begins g → ⊥
woken_apart g t p begins_at ne e = ne refl
woken_apart g t p sets_at ne e = ne e
woken_apart g t p done ne e = ne e
woken_apart g t p (sleeps_at due) ne same = cond_both (due == t) (sets_now g) (sleeping due (wakes_late g)) (λ q. q ≡ begins g → ⊥) (λ e f. cc) (λ e f. cc) same

woken_rests : (g : Global) (t : ℕ) (q : Place) → ((q ≡ hears g) ⊎ (q ≡ ended)) → (woken_at t q ≡ hears g) ⊎ (woken_at t q ≡ ended)
woken_rests g t q (inl e) = inl (ap (woken_at t) e)
woken_rests g t q (inr e) = inr (ap (woken_at t) e)

slot_rests : (g : Global) (over : Bool) (next : Option ℕ) (places : List Place) → Rests g places → Rests g (places_at over next places)
slot_rests g true next places h = h
slot_rests g false None places h = h
slot_rests g false (Some t) places h = record {
  first = woken_at t h.first;
  second = woken_at t h.second;
  is = ap (map (woken_at t)) h.is;
  is_first = first_woken g t h.first h.is_first;
  apart = woken_apart g t h.first h.is_first h.apart;
  rests = woken_rests g t h.second h.rests;
}

rests_at : (g : Global) (s : State) → Good g s → is_enabled s EndSlot ≡ true → Rests g s.places
rests_at g s h enabled =
    let e = at_end s enabled in
    let r = rests_of g h.first h.second h.is_first h.is_second (ap (list_any is_going) (sym h.places) ∙ e.quiet.going) in
    record { first = h.first; second = h.second; is = h.places; is_first = h.is_first; apart = r.0; rests = r.1 }

-- a state in which a slot begins
pub data Begun (g : Global) (b : State) : Type 0 where
  at_start : b.places ≡ begins g ∷ listens_first g ∷ [] → Begun g b
  later : Rests g b.places → Begun g b

pub begun : (g : Global) (grain : Grain) (moves : List Move) → Legal grain (rising g) moves → IsAtStart moves → Begun g (state_after (rising g) moves)
begun g grain [] l first = at_start refl
begun g grain (EndSlot ∷ moves) l first =
    let s = state_after (rising g) moves in
    later (slot_rests g (ends s) (next_time s) s.places (rests_at g s (all_good g moves) (enabled_of grain (rising g) s EndSlot l.1).1))
begun g grain (Step i ∷ moves) l first = absurd first
begun g grain (Evaluate j ∷ moves) l first = absurd first
begun g grain (Propagate j ∷ moves) l first = absurd first
begun g grain (Make i ∷ moves) l first = absurd first
begun g grain (Rouse ∷ moves) l first = absurd first
begun g grain (Activate ∷ moves) l first = absurd first

-- ---- threads

-- where a thread has done nothing
pub data IsIdle (g : Global) (b : State) (i : ℕ) : Place → Type 0 where
  begins_at : IsIdle g b i (begins g)
  sleeps_at : (due : ℕ) → IsIdle g b i (sleeping due (wakes_late g))
  listens_at : get_or b.places i ended ≡ listens_first g → IsIdle g b i (listens_first g)
  hears_at : ((get_or b.places i ended ≡ listens_first g) ⊎ (get_or b.places i ended ≡ hears g)) → IsIdle g b i (hears g)
  nowhere : IsIdle g b i ended

pub data Shape (g : Global) (b : State) (i : ℕ) (o : Option Fired) (th : Thread) : Type 0 where
  idle : IsIdle g b i th.place → th.log ≡ [] → th.made ≡ [] → Shape g b i o th
  about : i ≡ 0 → get_or b.places 0 ended ≡ sets_now g → th.place ≡ sets_now g → th.view ≡ b.store → th.log ≡ [] → th.made ≡ [] → Shape g b i o th
  set : i ≡ 0 → get_or b.places 0 ended ≡ sets_now g → th.place ≡ ended → th.view ≡ put b.store set_write → th.log ≡ set_write ∷ [] → th.made ≡ [] → Shape g b i o th
  fired : (f : Fired) → i ≡ 1 → o ≡ Some f → th.place ≡ copies g → th.log ≡ [] → th.made ≡ [] → Shape g b i o th
  copied : (f : Fired) → i ≡ 1 → o ≡ Some f → th.place ≡ ended → ((v : ℕ) → writes th v ≡ true → v ≡ 1) → th.made ≡ [] → Shape g b i o th

-- a thread at a place, a turn later
turned_at : (b : State) (i : ℕ) (th : Thread) (p : Place) → th.place ≡ p → turn b.time i th ≡ turn_at b.time i p th
turned_at b i th p e = ap (λ q. turn_at b.time i q th) e

turned_out : (b : State) (i : ℕ) (th : Thread) (gait : Gait) (todo : Todo) (out : Out) → th.place ≡ going gait todo → step todo th.view b.time ≡ out → turn b.time i th ≡ moved b.time i (going gait todo) out th
turned_out b i th gait todo out e is = turned_at b i th (going gait todo) e ∙ ap (λ o. moved b.time i (going gait todo) o th) is

idle_turn : (g : Global) (b : State) (i : ℕ) (o : Option Fired) (th : Thread) (p : Place) → th.place ≡ p → IsIdle g b i p → th.log ≡ [] → th.made ≡ [] → Shape g b i o (turn b.time i th)
idle_turn g b i o th p e begins_at log made =
    subst (Shape g b i o) (sym (turned_out b i th Fresh (perform (sets_late g) ∷ []) (goes (after 0 1 (wakes_late g))) e (step_delay g th.view b.time))) (idle (sleeps_at (b.time + 1)) log made)
idle_turn g b i o th p e (sleeps_at due) log made = subst (Shape g b i o) (sym (turned_at b i th (sleeping due (wakes_late g)) e)) (idle (subst (IsIdle g b i) (sym e) (sleeps_at due)) log made)
idle_turn g b i o th p e (listens_at found) log made =
    subst (Shape g b i o) (sym (turned_out b i th Fresh (perform (copies_then g) ∷ []) (goes (wait 0 (rise ∷ []) (copies_now g))) e (step_event g th.view b.time))) (idle (hears_at (inl found)) log made)
idle_turn g b i o th p e (hears_at found) log made = subst (Shape g b i o) (sym (turned_at b i th (hears g) e)) (idle (subst (IsIdle g b i) (sym e) (hears_at found)) log made)
idle_turn g b i o th p e nowhere log made = subst (Shape g b i o) (sym (turned_at b i th ended e)) (idle (subst (IsIdle g b i) (sym e) nowhere) log made)

copy_names : (g : Global) (store : Store) (time v : ℕ) → names (assignment (target g 1) (operand 0) store time) v ≡ true → v ≡ 1
copy_names g store time v h = elim (or_cases (1 == v) false h) [
  | inl hit ↦ sym (eqb-true 1 v hit)
  | inr none ↦ absurd (false≢true none)
]

shape_turn : (g : Global) (b : State) (i : ℕ) (o : Option Fired) (th : Thread) → Shape g b i o th → Shape g b i o (turn b.time i th)
shape_turn g b i o th (idle at log made) = idle_turn g b i o th th.place refl at log made
shape_turn g b i o th (about zero_is found e view log made) =
    subst (Shape g b i o) (sym (turned_out b i th Woken (wakes_late g) (writes_now set_write) e (step_set g th.view b.time)))
    (set zero_is found refl (ap (λ s. put s set_write) view) (ap (λ l. set_write ∷ l) log) made)
shape_turn g b i o th (set zero_is found e view log made) = subst (Shape g b i o) (sym (turned_at b i th ended e)) (set zero_is found e view log made)
shape_turn g b i o th (fired f one_is is e log made) =
    subst (Shape g b i o) (sym (turned_out b i th Woken (copies_now g) (writes_now (assignment (target g 1) (operand 0) th.view b.time)) e (step_copy g th.view b.time)))
    (copied f one_is is refl (λ v h. copy_names g th.view b.time v (only_new (names (assignment (target g 1) (operand 0) th.view b.time) v) (writes th v) (ap (λ l. list_any (λ w. names w v) l) log) h)) made)
  where
    only_new : (x y : Bool) → y ≡ false → (x || y) ≡ true → x ≡ true
    only_new true y miss h = refl
    only_new false y miss h = absurd (true≢false (sym h ∙ miss))
shape_turn g b i o th (copied f one_is is e names_one made) = subst (Shape g b i o) (sym (turned_at b i th ended e)) (copied f one_is is e names_one made)

shape_iterate : (g : Global) (b : State) (i n : ℕ) (o : Option Fired) (th : Thread) → Shape g b i o th → Shape g b i o (iterate n (turn b.time i) th)
shape_iterate g b i zero o th h = h
shape_iterate g b i (suc n) o th h = shape_turn g b i o (iterate n (turn b.time i) th) (shape_iterate g b i n o th h)

place_get : (b : State) (p q : Place) → b.places ≡ p ∷ q ∷ [] → (i : ℕ) → get_or b.places i ended ≡ get_or (p ∷ q ∷ []) i ended
place_get b p q h i = ap (λ l. get_or l i ended) h

-- it opens so
first_opens : (g : Global) (b : State) (p : Place) → get_or b.places 0 ended ≡ p → First g p → Shape g b 0 None (opening no_blocks.blocks b 0 None)
first_opens g b p e begins_at = idle (subst (IsIdle g b 0) (sym e) begins_at) refl refl
first_opens g b p e (sleeps_at due) = idle (subst (IsIdle g b 0) (sym e) (sleeps_at due)) refl refl
first_opens g b p e sets_at = about refl e e refl refl refl
first_opens g b p e done = idle (subst (IsIdle g b 0) (sym e) nowhere) refl refl

unfired_opens : (g : Global) (b : State) → Begun g b → (i : ℕ) → Shape g b i None (opening no_blocks.blocks b i None)
unfired_opens g b (at_start is) zero = first_opens g b (begins g) (place_get b (begins g) (listens_first g) is 0) begins_at
unfired_opens g b (at_start is) (suc zero) = let e = place_get b (begins g) (listens_first g) is 1 in idle (subst (IsIdle g b 1) (sym e) (listens_at e)) refl refl
unfired_opens g b (at_start is) (suc (suc i)) = idle (subst (IsIdle g b (suc (suc i))) (sym (place_get b (begins g) (listens_first g) is (suc (suc i)))) nowhere) refl refl
unfired_opens g b (later r) zero = first_opens g b r.first (place_get b r.first r.second r.is 0) r.is_first
unfired_opens g b (later r) (suc zero) = at_second r.rests
  where
    at_second : ((r.second ≡ hears g) ⊎ (r.second ≡ ended)) → Shape g b 1 None (opening no_blocks.blocks b 1 None)
    at_second (inl e) = let at = place_get b r.first r.second r.is 1 ∙ e in idle (subst (IsIdle g b 1) (sym at) (hears_at (inr at))) refl refl
    at_second (inr e) = idle (subst (IsIdle g b 1) (sym (place_get b r.first r.second r.is 1 ∙ e)) nowhere) refl refl
unfired_opens g b (later r) (suc (suc i)) = idle (subst (IsIdle g b (suc (suc i))) (sym (place_get b r.first r.second r.is (suc (suc i)))) nowhere) refl refl

-- who waits where a slot begins
waits_first : (g : Global) (b : State) → Begun g b → (i : ℕ) (ts : List EventTerm) (todo : Todo) → get_or b.places i ended ≡ waiting ts todo → (i ≡ 1) × (get_or b.places i ended ≡ hears g)
waits_first g b begun i ts todo at = by_shape (unfired_opens g b begun i) begun i refl
  where
    by_shape : Shape g b i None (opening no_blocks.blocks b i None) → Begun g b → (n : ℕ) → i ≡ n → (i ≡ 1) × (get_or b.places i ended ≡ hears g)
    by_shape shape (at_start is) zero e = absurd (let no_way : begins g ≡ waiting ts todo = sym (place_get b (begins g) (listens_first g) is 0) ∙ ap (λ k. get_or b.places k ended) (sym e) ∙ at in cc)
    by_shape shape (at_start is) (suc zero) e = absurd (let no_way : listens_first g ≡ waiting ts todo = sym (place_get b (begins g) (listens_first g) is 1) ∙ ap (λ k. get_or b.places k ended) (sym e) ∙ at in cc)
    by_shape shape (at_start is) (suc (suc n)) e = absurd (let no_way : ended ≡ waiting ts todo = sym (place_get b (begins g) (listens_first g) is (suc (suc n))) ∙ ap (λ k. get_or b.places k ended) (sym e) ∙ at in cc)
    by_shape shape (later r) zero e = absurd (no_first r.first r.is_first (sym (place_get b r.first r.second r.is 0) ∙ ap (λ k. get_or b.places k ended) (sym e) ∙ at))
      where
        no_first : (p : Place) → First g p → p ≡ waiting ts todo → ⊥
        no_first p begins_at h = cc
        no_first p (sleeps_at due) h = cc
        no_first p sets_at h = cc
        no_first p done h = cc
    by_shape shape (later r) (suc zero) e = elim r.rests [
      | inl hit ↦ (e, ap (λ k. get_or b.places k ended) e ∙ place_get b r.first r.second r.is 1 ∙ hit)
      | inr none ↦ absurd (let no_way : ended ≡ waiting ts todo = sym none ∙ sym (place_get b r.first r.second r.is 1) ∙ ap (λ k. get_or b.places k ended) (sym e) ∙ at in cc)
    ]
    by_shape shape (later r) (suc (suc n)) e = absurd (let no_way : ended ≡ waiting ts todo = sym (place_get b r.first r.second r.is (suc (suc n))) ∙ ap (λ k. get_or b.places k ended) (sym e) ∙ at in cc)

opens : (g : Global) (b : State) → Begun g b → (i : ℕ) (o : Option Fired) → MayOpen (rising g) no_blocks.blocks b i o → Shape g b i o (opening no_blocks.blocks b i o)
opens g b begun i None may = unfired_opens g b begun i
opens g b begun i (Some f) may =
    let w = waits_first g b begun i may.terms may.todo may.at in
    fired f w.0 refl (ap triggered w.1) refl refl

pub shape_of : (g : Global) (b : State) → Begun g b → (i : ℕ) (th : Thread) (is : IsThread (rising g) no_blocks.blocks b i th) → Shape g b i is.input th
shape_of g b begun i th is = subst (Shape g b i is.input) is.is (shape_iterate g b i is.count is.input (opening no_blocks.blocks b i is.input) (opens g b begun i is.input is.may))

pub timed_shape : (g : Global) (b : State) → Begun g b → (i : ℕ) (th : Thread) → IsTimed no_blocks.blocks b i th → Shape g b i None th
timed_shape g b begun i th is = subst (Shape g b i None) is.is (shape_iterate g b i is.count None (opening no_blocks.blocks b i None) (unfired_opens g b begun i))

-- ---- what threads do

abbrev pub HasInput : Option Fired → Type 0
HasInput o = (f : Fired) × (o ≡ Some f)

pub record IsSet (g : Global) (b : State) (i v : ℕ) (th : Thread) : Type 0 where
  pub who : i ≡ 0
  pub what : v ≡ 0
  pub found : get_or b.places 0 ended ≡ sets_now g
  pub view : th.view ≡ put b.store set_write

pub record IsCopied (i v : ℕ) (o : Option Fired) : Type 0 where
  pub who : i ≡ 1
  pub what : v ≡ 1
  pub input : HasInput o

pub none_written : (th : Thread) (v : ℕ) → th.log ≡ [] → writes th v ≡ true → ⊥
none_written th v none h = false≢true (ap (λ l. list_any (λ w. names w v) l) (sym none) ∙ h)

pub wrote : (g : Global) (b : State) (i v : ℕ) (o : Option Fired) (th : Thread) → Shape g b i o th → writes th v ≡ true → IsSet g b i v th ⊎ IsCopied i v o
wrote g b i v o th (idle at log made) h = absurd (none_written th v log h)
wrote g b i v o th (about zero_is found e view log made) h = absurd (none_written th v log h)
wrote g b i v o th (set zero_is found e view log made) h = elim (or_cases (0 == v) false (or_last ((0 == v) || false) (ap (λ l. list_any (λ w. names w v) l) (sym log) ∙ h))) [
  | inl hit ↦ inl (record { who = zero_is; what = sym (eqb-true 0 v hit); found = found; view = view })
  | inr none ↦ absurd (false≢true none)
]
  where
    or_last : (x : Bool) → (x || false) ≡ true → x ≡ true
    or_last true h = refl
    or_last false h = h
wrote g b i v o th (fired f one_is is e log made) h = absurd (none_written th v log h)
wrote g b i v o th (copied f one_is is e names_one made) h = inr (record { who = one_is; what = names_one v h; input = (f, is) })

pub none_made : (g : Global) (b : State) (i : ℕ) (o : Option Fired) (th : Thread) → Shape g b i o th → th.made ≡ []
none_made g b i o th (idle at log made) = made
none_made g b i o th (about zero_is found e view log made) = made
none_made g b i o th (set zero_is found e view log made) = made
none_made g b i o th (fired f one_is is e log made) = made
none_made g b i o th (copied f one_is is e names_one made) = made

none_in : (r : BitRange) → Contains [] r → ⊥
none_in r h = let within = h.1 in omega (arith, within)

pub one_in : {A : Type 0} (x y : A) → Contains (x ∷ []) y → y ≡ x
one_in x y h = at_place (place_of (x ∷ []) y h)
  where
    at_place : ((n : ℕ) × (slice_get (x ∷ []) n ≡ Some y)) → y ≡ x
    at_place (zero, is) = same_Some y x (sym is)
    at_place (suc n, is) = absurd (none-some y is)

-- it reads the signal that fired it
pub record IsReading (i : ℕ) (o : Option Fired) (th : Thread) (r : BitRange) : Type 0 where
  pub range : r ≡ whole 0
  pub input : HasInput o
  pub log : th.log ≡ []

idle_blind : (g : Global) (b : State) (i : ℕ) (p : Place) (r : BitRange) → IsIdle g b i p → Contains (place_reads p) r → ⊥
idle_blind g b i p r begins_at h = none_in r (subst (λ rs. Contains rs r) (reads_delay g) h)
idle_blind g b i p r (sleeps_at due) h = none_in r h
idle_blind g b i p r (listens_at found) h = none_in r (subst (λ rs. Contains rs r) (reads_event g) h)
idle_blind g b i p r (hears_at found) h = none_in r h
idle_blind g b i p r nowhere h = none_in r h

pub reading : (g : Global) (b : State) (i : ℕ) (o : Option Fired) (th : Thread) (r : BitRange) → Shape g b i o th → Contains (place_reads th.place) r → IsReading i o th r
reading g b i o th r (idle at log made) h = absurd (idle_blind g b i th.place r at h)
reading g b i o th r (about zero_is found e view log made) h = absurd (none_in r (subst (λ rs. Contains rs r) (reads_set g) (subst (λ p. Contains (place_reads p) r) e h)))
reading g b i o th r (set zero_is found e view log made) h = absurd (none_in r (subst (λ p. Contains (place_reads p) r) e h))
reading g b i o th r (fired f one_is is e log made) h =
    record { range = one_in (whole 0) r (subst (λ rs. Contains rs r) (reads_copy g) (subst (λ p. Contains (place_reads p) r) e h)); input = (f, is); log = log }
reading g b i o th r (copied f one_is is e names_one made) h = absurd (none_in r (subst (λ p. Contains (place_reads p) r) e h))

pub record IsHearing (g : Global) (b : State) (i : ℕ) (ts : List EventTerm) : Type 0 where
  pub terms : ts ≡ rise ∷ []
  pub found : (get_or b.places i ended ≡ listens_first g) ⊎ (get_or b.places i ended ≡ hears g)

idle_hears : (g : Global) (b : State) (i : ℕ) (p : Place) (ts : List EventTerm) (todo : Todo) → IsIdle g b i p → p ≡ waiting ts todo → IsHearing g b i ts
idle_hears g b i p ts todo begins_at h = cc
idle_hears g b i p ts todo (sleeps_at due) h = cc
idle_hears g b i p ts todo (listens_at found) h = cc
idle_hears g b i p ts todo (hears_at found) h = record { terms = sym (same_waiting (rise ∷ []) ts (copies_now g) todo h); found = found }
idle_hears g b i p ts todo nowhere h = cc

pub hearing : (g : Global) (b : State) (i : ℕ) (o : Option Fired) (th : Thread) (ts : List EventTerm) (todo : Todo) → Shape g b i o th → th.place ≡ waiting ts todo → IsHearing g b i ts
hearing g b i o th ts todo (idle at log made) h = idle_hears g b i th.place ts todo at h
hearing g b i o th ts todo (about zero_is found e view log made) h = absurd (let no_way : sets_now g ≡ waiting ts todo = sym e ∙ h in cc)
hearing g b i o th ts todo (set zero_is found e view log made) h = absurd (let no_way : ended ≡ waiting ts todo = sym e ∙ h in cc)
hearing g b i o th ts todo (fired f one_is is e log made) h = absurd (let no_way : copies g ≡ waiting ts todo = sym e ∙ h in cc)
hearing g b i o th ts todo (copied f one_is is e names_one made) h = absurd (let no_way : ended ≡ waiting ts todo = sym e ∙ h in cc)

-- the two texts differ
abbrev is_delay_step : f.Statement-F Statement → Bool
is_delay_step (f.Delay n ticks body) = true
is_delay_step _ = false

abbrev is_delay : Place → Bool
is_delay (going gait (perform x ∷ rest)) = is_delay_step (out-Statement x)
is_delay _ = false

no_delay : (g : Global) → begins g ≡ listens_first g → ⊥
unfolding out-Statement denote.Hole.Carrier.out
no_delay g e = true≢false (ap is_delay e)

pub first_starts : (g : Global) (b : State) → Begun g b → (i : ℕ) → get_or b.places i ended ≡ listens_first g → get_or b.places 0 ended ≡ begins g
first_starts g b (at_start is) i h = place_get b (begins g) (listens_first g) is 0
first_starts g b (later r) i h = absurd (at_process i refl)
  where
    no_first : (p : Place) → First g p → p ≡ listens_first g → ⊥
    no_first p begins_at e = no_delay g e
    no_first p (sleeps_at due) e = cc
    no_first p sets_at e = cc
    no_first p done e = cc

    at_process : (n : ℕ) → i ≡ n → ⊥
    at_process zero e = no_first r.first r.is_first (sym (place_get b r.first r.second r.is 0) ∙ ap (λ k. get_or b.places k ended) (sym e) ∙ h)
    at_process (suc zero) e = elim r.rests [
      | inl hit ↦ let no_way : hears g ≡ listens_first g = sym hit ∙ sym (place_get b r.first r.second r.is 1) ∙ ap (λ k. get_or b.places k ended) (sym e) ∙ h in cc
      | inr none ↦ let no_way : ended ≡ listens_first g = sym none ∙ sym (place_get b r.first r.second r.is 1) ∙ ap (λ k. get_or b.places k ended) (sym e) ∙ h in cc
    ]
    at_process (suc (suc n)) e = let no_way : ended ≡ listens_first g = sym (place_get b r.first r.second r.is (suc (suc n))) ∙ ap (λ k. get_or b.places k ended) (sym e) ∙ h in cc
