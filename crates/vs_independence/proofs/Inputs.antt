-- Where a slot has come to a stop in two ways, the same processes were fired, and by the same: their threads are one.
use Rattle.std.proofs.Common.{Bool, ◌≡◌, ℕ, true, false, Option, Some, None, List, slice_get, refl, sym, ◌∙◌, ap, subst}
use Rattle.std.proofs.lemmas.Bool.{true≢false}
use Rattle.std.proofs.lemmas.Option.{same_Some as same_some}
use Rattle.vs_design.specs.declared.statement.EventTerm.{EventTerm}
use Rattle.vs_design.specs.Parts.{Parts}
use Rattle.vs_design.specs.Stores.{Store}
use Rattle.vs_process.specs.Places.{Place}
use Rattle.vs_process.specs.States.{State}
use Rattle.vs_process.specs.Edges.{shown, Copies, inverses, IsHeard, IsRoot}
use Rattle.vs_process.specs.Threads.{Thread, iterate, turn, Fired, found, given, opening, is_timed, IsTimed, Fires, Awaits, MayOpen, IsThread, writes}
use Rattle.vs_process.proofs.Threads.{is_stopped, stopped_unique, timed_of, timed_wrote, thread_opens}
use Rattle.vs_independence.proofs.Running.{Apart, AllPlaced, given_value}
use Rattle.vs_independence.proofs.Fire.{wakes_alike}

-- the threads of a slot whose processes have stopped, and whose signals with a root show their roots
pub record Stopped (d : Parts) (blocks : ℕ → Bool) (b : State) (store : Store) (th : ℕ → Thread) : Type 0 where
  pub stands : AllPlaced d blocks b store th
  pub own : (i v : ℕ) → writes (th i) v ≡ true → slice_get store v ≡ slice_get (th i).view v
  pub still : (i : ℕ) → is_stopped (th i).place ≡ true
  pub level : (root v : ℕ) (c : Copies d root v) → slice_get store v ≡ shown (inverses c) (slice_get store root)

-- what can fire a process comes from a root that is heard
fires_root : (d : Parts) (blocks : ℕ → Bool) (b : State) → Apart d blocks b → (i : ℕ) (f : Fired) (may : MayOpen d blocks b i (Some f)) → IsRoot d blocks may.fires.root
fires_root d blocks b apart i f may = record {
  signal = f.signal;
  heard = subst (IsHeard d blocks) may.fires.term (apart.heard i (opening blocks b i None) (thread_opens d blocks b i) may.terms may.todo may.at may.term may.is);
  copies = may.fires.copies;
}

-- what can fire a process is what the signal holds in the end
pub final_value : (d : Parts) (blocks : ℕ → Bool) (b : State) (store : Store) (th : ℕ → Thread) → Apart d blocks b → Stopped d blocks b store th → (i : ℕ) (f : Fired) → MayOpen d blocks b i (Some f) → slice_get store f.signal ≡ Some f.value
final_value d blocks b store th apart x i f may =
    let fires = may.fires in
    let w = fires.writer in
    let is = (x.stands w).is in
    let root = fires_root d blocks b apart i f may in
    let wrote : writes (th w) fires.root ≡ true = timed_wrote d blocks b w fires.root (th w) fires.by is (x.still w) fires.timed fires.writes in
    x.level fires.root f.signal fires.copies
    ∙ ap (shown (inverses fires.copies)) (x.own w fires.root wrote
    ∙ apart.keeps.root_once w fires.root (th w) fires.by root (timed_of d blocks b w (th w) is fires.timed.timed) fires.timed wrote fires.writes)
    ∙ fires.value

-- so a process that can be fired was
was_fired : (d : Parts) (blocks : ℕ → Bool) (b : State) (store : Store) (th : ℕ → Thread) → Apart d blocks b → (x : Stopped d blocks b store th) → (i : ℕ) (f : Fired) → MayOpen d blocks b i (Some f) → (x.stands i).is.input ≡ None → ⊥
was_fired d blocks b store th apart x i f may none =
    let value = final_value d blocks b store th apart x i f may in
    let t = may.term in
    let at_t : slice_get (given f b.store) t.range.signal ≡ slice_get store t.range.signal =
    subst (λ n. slice_get (given f b.store) n ≡ slice_get store n) (sym may.fires.term) (given_value d blocks b apart i f may ∙ sym value) in
    true≢false (sym may.fires.wakes ∙ wakes_alike b.store (given f b.store) b.store store t refl at_t ∙ (x.stands i).unfired none may.terms may.todo may.at t may.is)

pub same_fired : (f g : Fired) → f.signal ≡ g.signal → f.value ≡ g.value → f ≡ g
same_fired f g s v = ap (λ n. record { signal = n; value = f.value }) s ∙ ap (λ c. record { signal = g.signal; value = c }) v

-- the inputs are the same
pub same_input : (d : Parts) (blocks : ℕ → Bool) (b : State) → Apart d blocks b → (store other : Store) (th more : ℕ → Thread) (x : Stopped d blocks b store th) (y : Stopped d blocks b other more) → (i : ℕ) → (x.stands i).is.input ≡ (y.stands i).is.input
same_input d blocks b apart store other th more x y i = by_inputs (x.stands i).is.input (y.stands i).is.input refl refl
  where
    by_inputs : (o p : Option Fired) → (x.stands i).is.input ≡ o → (y.stands i).is.input ≡ p → (x.stands i).is.input ≡ (y.stands i).is.input
    by_inputs None None e g = e ∙ sym g
    by_inputs None (Some f) e g = absurd (was_fired d blocks b store th apart x i f (subst (MayOpen d blocks b i) g (y.stands i).is.may) e)
    by_inputs (Some f) None e g = absurd (was_fired d blocks b other more apart y i f (subst (MayOpen d blocks b i) e (x.stands i).is.may) g)
    by_inputs (Some f) (Some h) e g =
        let cf = subst (MayOpen d blocks b i) e (x.stands i).is.may in
        let ch = subst (MayOpen d blocks b i) g (y.stands i).is.may in
        let waits : is_timed (found blocks b i) ≡ false = ap is_timed cf.at in
        let signal : f.signal ≡ h.signal = apart.keeps.fired_by_one i (opening blocks b i None) (opening blocks b i None) f h waits (thread_opens d blocks b i) (thread_opens d blocks b i) cf ch in
        let value : f.value ≡ h.value = same_some f.value h.value (sym (final_value d blocks b store th apart x i f cf) ∙ ap (slice_get store) signal ∙ final_value d blocks b store th apart x i h ch) in
        e ∙ ap (λ z. Some z) (same_fired f h signal value) ∙ sym g

-- so are the threads
pub one_thread : (d : Parts) (blocks : ℕ → Bool) (b : State) → Apart d blocks b → (store other : Store) (th more : ℕ → Thread) → Stopped d blocks b store th → Stopped d blocks b other more → (i : ℕ) → th i ≡ more i
one_thread d blocks b apart store other th more x y i = stopped_unique d blocks b i (th i) (more i) (x.stands i).is (y.stands i).is (same_input d blocks b apart store other th more x y i) (x.still i) (y.still i)

-- ---- slots that begin alike

-- a state that begins a slot as another one does, with assignments and updates of its own
abbrev pub begins_as : State → State → State
begins_as b c = record c { store = b.store; places = b.places; time = b.time }

timed_from : (blocks : ℕ → Bool) (b c : State) (i : ℕ) (th : Thread) → IsTimed blocks (begins_as b c) i th → IsTimed blocks b i th
timed_from blocks b c i th h = record { count = h.count; timed = h.timed; is = h.is }

fires_from : (d : Parts) (blocks : ℕ → Bool) (b c : State) (t : EventTerm) (f : Fired) → Fires d blocks (begins_as b c) t f → Fires d blocks b t f
fires_from d blocks b c t f h = record {
  term = h.term;
  root = h.root;
  copies = h.copies;
  writer = h.writer;
  by = h.by;
  timed = timed_from blocks b c h.writer h.by h.timed;
  writes = h.writes;
  value = h.value;
  wakes = h.wakes;
}

awaits_from : (d : Parts) (blocks : ℕ → Bool) (b c : State) (th : Thread) (f : Fired) → Awaits d blocks (begins_as b c) th f → Awaits d blocks b th f
awaits_from d blocks b c th f h = record { terms = h.terms; todo = h.todo; at = h.at; term = h.term; is = h.is; fires = fires_from d blocks b c h.term f h.fires }

pub same_opening : (blocks : ℕ → Bool) (b c : State) (i : ℕ) (o : Option Fired) → opening blocks (begins_as b c) i o ≡ opening blocks b i o
same_opening blocks b c i None = refl
same_opening blocks b c i (Some f) = refl

pub may_from : (d : Parts) (blocks : ℕ → Bool) (b c : State) (i : ℕ) (o : Option Fired) → MayOpen d blocks (begins_as b c) i o → MayOpen d blocks b i o
may_from d blocks b c i None h = h
may_from d blocks b c i (Some f) h = awaits_from d blocks b c (opening blocks b i None) f h

abbrev pub thread_from : (d : Parts) (blocks : ℕ → Bool) (b c : State) (i : ℕ) (th : Thread) → IsThread d blocks (begins_as b c) i th → IsThread d blocks b i th
thread_from d blocks b c i th h = record {
  count = h.count;
  input = h.input;
  may = may_from d blocks b c i h.input h.may;
  is = ap (λ o. iterate h.count (turn b.time i) o) (sym (same_opening blocks b c i h.input)) ∙ h.is;
}

stopped_back : (d : Parts) (blocks : ℕ → Bool) (b c : State) (store : Store) (th : ℕ → Thread) → Stopped d blocks (begins_as b c) store th → Stopped d blocks b store th
stopped_back d blocks b c store th x = record {
  stands = λ i. record { is = thread_from d blocks b c i (th i) (x.stands i).is; unfired = (x.stands i).unfired; fired = (x.stands i).fired };
  own = x.own;
  still = x.still;
  level = x.level;
}

-- what has stopped in a slot that begins as another one, has stopped in that one
pub stopped_alike : (d : Parts) (blocks : ℕ → Bool) (b c : State) → b.store ≡ c.store → b.places ≡ c.places → b.time ≡ c.time → (store : Store) (th : ℕ → Thread) → Stopped d blocks c store th → Stopped d blocks b store th
stopped_alike d blocks b c stores places times store th x =
    stopped_back d blocks b c store th (subst (λ (s : State). Stopped d blocks s store th)
    (ap (λ (s : Store). record c { store = s }) (sym stores) ∙ ap (λ (p : List Place). record c { store = b.store; places = p }) (sym places) ∙ ap (λ t. record c { store = b.store; places = b.places; time = t }) (sym times)) x)
