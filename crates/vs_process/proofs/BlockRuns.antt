-- A combinational block alone, woken on a store: where it stands, and what it leaves.
use Rattle.std.proofs.Common.{◌≡◌, ℕ, zero, suc, ◌++◌, ◌⊎◌, false, Option, Some, None, List, [], ◌∷◌, slice_get, refl, sym, ◌∙◌, ap, subst, inl, inr}
use Rattle.std.specs.Prelude.{◌==◌, ◌+◌}
use Rattle.std.specs.List.{list_any}
use Rattle.std.proofs.lemmas.Bool.{cond_both, or_parts}
use Rattle.vs_design.specs.Parts.{Parts}
use Rattle.vs_design.specs.Stores.{Store, put, start_store}
use Rattle.vs_design.specs.Uses.{covers}
use Rattle.vs_design.specs.Writes.{Write, names}
use Rattle.vs_process.specs.vs_eval.specs.Laws.{digit_of}
use Rattle.vs_process.specs.declared.gait.Gait.{Gait}
use Rattle.vs_process.specs.declared.gait.Gait.TheVariants.{Woken, Inside}
use Rattle.vs_process.specs.Landings.{todo_after}
use Rattle.vs_process.specs.Places.{Todo, Place, perform, going, sleeping, inactive, waiting, ended, active_at, flat, stepped_gait, todo_of}
use Rattle.vs_process.specs.Steps.{Next, on, after, wait, Out, goes, step}
use Rattle.vs_process.specs.States.{Update, Called, calls_after, place_after_step, updates_after}
use Rattle.vs_process.proofs.Stores.{put_other, shape-put}
use Rattle.vs_process.specs.ThreadLaws.{LiesIn, IsLeft, start, behind}
use Rattle.vs_process.specs.Writes.{statement_writes}
use Rattle.vs_process.proofs.Named.{processes}
use Rattle.vs_process.specs.Threads.{Thread, iterate, moved, store_after, turn, turn_at}
use Rattle.vs_process.specs.BlockDrivers.{home, outputs, outputs_for, puts_out, sizes, woken_on, IsRun, IsBlock}
use Rattle.vs_process.proofs.Free.{flat_free}
use Rattle.vs_process.proofs.Texts.{Text, OnWay, within, GoesOrWaits, goes_on, arrives, stands_next}

-- what a process still has to do behind a step
pub todo_next : (gait : Gait) (todo : Todo) (time : ℕ) (next : Next) → todo_of (place_after_step (going gait todo) time next) ≡ todo_after next
todo_next gait todo time (on rest) = active_todo (stepped_gait gait) rest
  where
    active_todo : (gait : Gait) (rest : Todo) → todo_of (active_at gait rest) ≡ rest
    active_todo gait [] = refl
    active_todo gait (i ∷ rest) = refl
todo_next gait todo time (after n ticks rest) = cond_both (ticks == 0) (inactive rest) (sleeping (time + ticks) rest) (λ p. todo_of p ≡ rest) (λ e. refl) (λ e. refl)
todo_next gait todo time (wait n terms rest) = refl

outputs_is : (d : Parts) (k : ℕ) (t : Text d k) → outputs d k ≡ statement_writes t.process.body
outputs_is d k t = ap outputs_for t.is

-- what a step of it writes lies in what it writes
pub step_lies : (d : Parts) (k : ℕ) (t : Text d k) (todo : Todo) (store : Store) (time : ℕ) (w : Write) → IsLeft t.process.body todo → (step todo store time).write ≡ Some w → LiesIn (outputs d k) w
step_lies d k t todo store time w left is = subst (λ l. LiesIn l w) (sym (outputs_is d k t)) (processes.written t.process.body todo store time w left is)

-- a block that stands at its control still has to do its body
pub left_home : (d : Parts) (k : ℕ) (t : Text d k) → IsLeft t.process.body (todo_of (home d k))
left_home d k t =
    let body = t.process.body in
    let store : Store = start_store d in
    let one : IsLeft body (perform body ∷ []) = subst (IsLeft body) t.starts start in
    let two : IsLeft body (perform t.event ∷ perform body ∷ []) =
    subst (IsLeft body) (ap (λ (out : Out). todo_after out.next) (t.turn_is [] store 0) ∙ ap (λ l. l ++ perform body ∷ []) t.flat_event) (behind (perform body ∷ []) store 0 one) in
    subst (IsLeft body) (ap (λ (out : Out). todo_after out.next) (t.arrival_is (perform body ∷ []) store 0) ∙ ap todo_of (sym t.home_is)) (behind (perform t.event ∷ perform body ∷ []) store 0 two)

-- ---- a run

pub record RunFacts (d : Parts) (k : ℕ) (t : Text d k) (store : Store) (th : Thread) : Type 0 where
  pub stands : (th.place ≡ going Woken (todo_of (home d k))) ⊎ GoesOrWaits d k t Inside th.place
  pub left : IsLeft t.process.body (todo_of th.place)
  pub keeps : (v : ℕ) → puts_out d k v ≡ false → slice_get th.view v ≡ slice_get store v
  pub bare : (v w n : ℕ) → list_any (covers v w n) (outputs d k) ≡ false → digit_of th.view v w n ≡ digit_of store v w n
  pub sized : sizes th.view ≡ sizes store

-- on its way
pub on_way : (d : Parts) (k : ℕ) (t : Text d k) (gait : Gait) (todo : Todo) (p : Place) → p ≡ going gait todo → ((p ≡ going Woken (todo_of (home d k))) ⊎ GoesOrWaits d k t Inside p) → OnWay d k t todo × (stepped_gait gait ≡ Inside)
on_way d k t gait todo p is (inl first) =
    let e : going gait todo ≡ going Woken (todo_of (home d k)) = sym is ∙ first in
    let g : gait ≡ Woken = cc in
    let l : todo ≡ todo_of (home d k) = cc in
    (within (flat t.inner) (flat_free t.inner t.calm) (l ∙ ap todo_of t.home_is), ap stepped_gait g)
on_way d k t gait todo p is (inr (goes_on other way at)) =
    let e : going gait todo ≡ going Inside other = sym is ∙ at in
    let g : gait ≡ Inside = cc in
    let l : todo ≡ other = cc in
    (subst (OnWay d k t) (sym l) way, ap stepped_gait g)
on_way d k t gait todo p is (inr (arrives at)) =
    let e : going gait todo ≡ waiting t.terms _ = sym is ∙ at ∙ t.home_is in
    cc

view_keeps : (view store : Store) (o : Option Write) (v : ℕ) → ((w : Write) → o ≡ Some w → names w v ≡ false) → slice_get view v ≡ slice_get store v → slice_get (store_after view o) v ≡ slice_get store v
view_keeps view store None v free h = h
view_keeps view store (Some w) v free h = put_other view w v (free w refl) ∙ h

view_bare : (view store : Store) (o : Option Write) (v n i : ℕ) → ((w : Write) → o ≡ Some w → digit_of (put view w) v n i ≡ digit_of view v n i) → digit_of view v n i ≡ digit_of store v n i → digit_of (store_after view o) v n i ≡ digit_of store v n i
view_bare view store None v n i free h = h
view_bare view store (Some w) v n i free h = free w refl ∙ h

pub view_sized : (view : Store) (o : Option Write) → sizes (store_after view o) ≡ sizes view
view_sized view None = refl
view_sized view (Some w) = shape-put view w

facts_turn : (d : Parts) (k : ℕ) (t : Text d k) (time : ℕ) (store : Store) (th : Thread) (p : Place) → th.place ≡ p → RunFacts d k t store th → RunFacts d k t store (turn_at time k p th)
facts_turn d k t time store th (going gait todo) is f =
    let way = on_way d k t gait todo th.place is f.stands in
    let left : IsLeft t.process.body todo = subst (λ q. IsLeft t.process.body (todo_of q)) is f.left in
    record {
      stands = inr (subst (λ g. GoesOrWaits d k t g (place_after_step (going gait todo) time (step todo th.view time).next)) way.1 (stands_next d k t gait todo th.view time way.0));
      left = subst (IsLeft t.process.body) (sym (todo_next gait todo time (step todo th.view time).next)) (behind todo th.view time left);
      keeps = λ v other. view_keeps th.view store (step todo th.view time).write v (λ w e. (step_lies d k t todo th.view time w left e).signals v other) (f.keeps v other);
      bare = λ v n i none. view_bare th.view store (step todo th.view time).write v n i (λ w e. (step_lies d k t todo th.view time w left e).digits th.view v n i none) (f.bare v n i none);
      sized = view_sized th.view (step todo th.view time).write ∙ f.sized;
    }
facts_turn d k t time store th (sleeping due todo) is f = f
facts_turn d k t time store th (inactive todo) is f =
    elim f.stands [
      | inl first ↦ let e : inactive todo ≡ going Woken (todo_of (home d k)) = sym is ∙ first in cc
      | inr later ↦ elim later [
        | goes_on other way at ↦ let e : inactive todo ≡ going Inside other = sym is ∙ at in cc
        | arrives at ↦ let e : inactive todo ≡ waiting t.terms _ = sym is ∙ at ∙ t.home_is in cc
      ]
    ]
facts_turn d k t time store th (waiting terms todo) is f = f
facts_turn d k t time store th ended is f = f

facts_iterate : (d : Parts) (k : ℕ) (t : Text d k) (time : ℕ) (store : Store) (n : ℕ) → RunFacts d k t store (iterate n (turn time k) (woken_on d k store))
facts_iterate d k t time store zero = record {
  stands = inl refl;
  left = left_home d k t;
  keeps = λ v other. refl;
  bare = λ v w n none. refl;
  sized = refl;
}
facts_iterate d k t time store (suc n) =
    let th = iterate n (turn time k) (woken_on d k store) in
    facts_turn d k t time store th th.place refl (facts_iterate d k t time store n)

pub run_facts : (d : Parts) (k : ℕ) (t : Text d k) (time : ℕ) (store : Store) (th : Thread) → IsRun d k time store th → RunFacts d k t store th
run_facts d k t time store th run = subst (RunFacts d k t store) run.is (facts_iterate d k t time store run.count)

pub run_begins : (d : Parts) (k time : ℕ) (store : Store) → IsRun d k time store (woken_on d k store)
run_begins d k time store = record { count = 0; is = refl }

pub run_turns : (d : Parts) (k time : ℕ) (store : Store) (th : Thread) → IsRun d k time store th → IsRun d k time store (turn time k th)
run_turns d k time store th run = record { count = suc run.count; is = ap (turn time k) run.is }

-- ---- what a step of a block makes beside its write: nothing

pub record BlockStep (d : Parts) (k : ℕ) (out : Out) : Type 0 where
  pub lies : (w : Write) → out.write ≡ Some w → LiesIn (outputs d k) w
  pub update : out.update ≡ None
  pub call : out.call ≡ None
  pub finish : out.finish ≡ false

no_update : (i time : ℕ) (o : Option (ℕ × Write)) (us : List Update) → us ≡ [] → updates_after i time o us ≡ [] → o ≡ None
no_update i time None us none h = refl
no_update i time (Some u) us none h =
    let one : Update = record { by = i; due = time + u.0; active = false; what = u.1 } in
    let e : one ∷ [] ≡ [] = ap (λ (l : List Update). l ++ one ∷ []) (sym none) ∙ h in
    cc

no_call : (i : ℕ) (o : Option _) (cs : List Called) → cs ≡ [] → calls_after i o cs ≡ [] → o ≡ None
no_call i None cs none h = refl
no_call i (Some c) cs none h =
    let one : Called = record { by = i; call = c } in
    let e : one ∷ [] ≡ [] = ap (λ (l : List Called). l ++ one ∷ []) (sym none) ∙ h in
    cc

-- a step of a run
pub run_step : (d : Parts) (k : ℕ) (t : Text d k) (inputs : List _) → IsBlock d inputs k → (time : ℕ) (store : Store) (th : Thread) (gait : Gait) (todo : Todo) → IsRun d k time store th → th.place ≡ going gait todo →
    BlockStep d k (step todo th.view time)
run_step d k t inputs block time store th gait todo run is =
    let f = run_facts d k t time store th run in
    let out = step todo th.view time in
    let next : IsRun d k time store (moved time k (going gait todo) out th) = subst (λ p. IsRun d k time store (turn_at time k p th)) is (run_turns d k time store th run) in
    record {
      lies = λ w e. step_lies d k t todo th.view time w (subst (λ q. IsLeft t.process.body (todo_of q)) is f.left) e;
      update = no_update k time out.update th.made (block.makes time store th run) (block.makes time store _ next);
      call = no_call k out.call th.asked (block.asks time store th run) (block.asks time store _ next);
      finish = (or_parts th.fin out.finish (block.ends time store _ next)).1;
    }

-- a step of a fresh block
pub still_step : (d : Parts) (k : ℕ) (next : Next) (out : Out) → out ≡ goes next → BlockStep d k out
still_step d k next out is = record {
  lies = λ w e. let n : None ≡ Some w = sym (ap (λ (o : Out). o.write) is) ∙ e in cc;
  update = ap (λ (o : Out). o.update) is;
  call = ap (λ (o : Out). o.call) is;
  finish = ap (λ (o : Out). o.finish) is;
}
