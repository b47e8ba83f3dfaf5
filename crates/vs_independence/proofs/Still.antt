-- A change of the store that leaves all signals with a root: no process wakes, and what is said of firing stays.
use Rattle.std.proofs.Common.{◌≡◌, ℕ, Bool, false, Some, None, List, map, get_or, slice_get, refl, sym, ◌∙◌, ap, subst, inl, if◌then◌else◌}
use Rattle.std.proofs.Math.ListN.{get_or-map}
use Rattle.vs_design.specs.Parts.{Parts}
use Rattle.vs_design.specs.Stores.{Store, start_store}
use Rattle.vs_process.specs.vs_eval.specs.Waking.{wakes}
use Rattle.vs_process.specs.declared.gait.Gait.TheVariants.{Woken}
use Rattle.vs_process.specs.Places.{Place, going, sleeping, inactive, waiting, ended, active_at}
use Rattle.vs_process.specs.States.{State, wakened}
use Rattle.vs_process.proofs.ProcessLists.{none_from}
use Rattle.vs_process.proofs.Stores.{shape}
use Rattle.vs_process.specs.Edges.{Copies, through, IsHeard, IsRoot}
use Rattle.vs_process.specs.Threads.{Thread, Fired, is_timed, opening, MayOpen, IsThread}
use Rattle.vs_process.proofs.ThreadLists.{contains_at}
use Rattle.vs_process.proofs.Threads.{thread_opens, unmoved}
use Rattle.vs_process.proofs.ThreadLinks.{root_itself}
use Rattle.vs_independence.proofs.Running.{Apart, AllThreads, FiringAgrees, Follow, Sources}
use Rattle.vs_independence.proofs.Fire.{no_wake, wakes_alike}
use Rattle.vs_independence.proofs.Edges.{Advancing}

-- signals with a root are the same in two stores
abbrev pub SameEdges : Parts → (ℕ → Bool) → Store → Store → Type 0
SameEdges d blocks old new = (root v : ℕ) → IsRoot d blocks root → Copies d root v → slice_get new v ≡ slice_get old v

-- ---- no process wakes

asleep_at : (d : Parts) (blocks : ℕ → Bool) (b : State) (old new : Store) → Apart d blocks b → SameEdges d blocks old new → (i : ℕ) (th : Thread) → IsThread d blocks b i th → (p : Place) → th.place ≡ p → wakened old new p ≡ p
asleep_at d blocks b old new apart same i th is (waiting terms todo) at =
    ap (λ t. if t then active_at Woken todo else waiting terms todo) (none_from (wakes old new) terms (λ n t at_t.
    let heard = apart.heard i th is terms todo at t (contains_at terms n t at_t) in
    let r = apart.edges t.range.signal heard in
    no_wake old new t (same r.0 t.range.signal (record { signal = t.range.signal; heard = heard; copies = r.1 }) r.1)))
asleep_at d blocks b old new apart same i th is (going gait todo) at = refl
asleep_at d blocks b old new apart same i th is (sleeping due todo) at = refl
asleep_at d blocks b old new apart same i th is (inactive todo) at = refl
asleep_at d blocks b old new apart same i th is ended at = refl

-- a change that leaves all signals with a root wakes no process
pub asleep : (d : Parts) (blocks : ℕ → Bool) (b : State) (old new : Store) → Apart d blocks b → SameEdges d blocks old new → (places : List Place) (th : ℕ → Thread) → AllThreads d blocks b th → Follow blocks places th → (i : ℕ) → blocks i ≡ false → get_or (map (wakened old new) places) i ended ≡ get_or places i ended
asleep d blocks b old new apart same places th all follow i other =
    get_or-map (wakened old new) places i ended ∙ asleep_at d blocks b old new apart same i (th i) (all i) (get_or places i ended) (sym (follow i other))

-- the root of a heard signal
heard_root : (d : Parts) (blocks : ℕ → Bool) (b : State) → Apart d blocks b → (v : ℕ) → IsHeard d blocks v → (root : ℕ) × IsRoot d blocks root × Copies d root v
heard_root d blocks b apart v heard = let r = apart.edges v heard in (r.0, record { signal = v; heard = heard; copies = r.1 }, r.1)

-- what is said of firing
pub stands_still : (d : Parts) (blocks : ℕ → Bool) (b : State) (old new : Store) → Apart d blocks b → SameEdges d blocks old new → (i : ℕ) (th : Thread) → FiringAgrees d blocks b old i th → FiringAgrees d blocks b new i th
stands_still d blocks b old new apart same i th s = record {
  is = s.is;
  unfired = λ none terms todo at_b t among.
      let at : th.place ≡ waiting terms todo = ap (λ (x : Thread). x.place) (unmoved d blocks b i th s.is none (ap is_timed at_b)) ∙ at_b in
      let r = heard_root d blocks b apart t.range.signal (apart.heard i th s.is terms todo at t among) in
      wakes_alike b.store new b.store old t refl (same r.0 t.range.signal r.1 r.2) ∙ s.unfired none terms todo at_b t among;
  fired = λ f e. kept f (subst (MayOpen d blocks b i) e s.is.may) ∙ s.fired f e;
}
  where
    kept : (f : Fired) → MayOpen d blocks b i (Some f) → slice_get new f.signal ≡ slice_get old f.signal
    kept f may =
        let heard = apart.heard i (opening blocks b i None) (thread_opens d blocks b i) may.terms may.todo may.at may.term may.is in
        let r = heard_root d blocks b apart f.signal (subst (IsHeard d blocks) may.fires.term heard) in
        same r.0 f.signal r.1 r.2

-- chains
pub still_advances : (d : Parts) (blocks : ℕ → Bool) (b : State) (old new : Store) (th : ℕ → Thread) → Apart d blocks b → shape new ≡ shape (start_store d) → AllThreads d blocks b th → Sources d blocks b old th → Sources d blocks b new th →
    SameEdges d blocks old new → Advancing d blocks b old new th th
still_advances d blocks b old new th apart shaped all before behind same = record {
  apart = apart;
  shaped = shaped;
  threads = all;
  before = before;
  behind = behind;
  grows = λ root h. h;
  kept = λ root is written. same root root is (root_itself d root is.signal is.copies);
  root = λ root is. inl (same root root is (root_itself d root is.signal is.copies));
  net = λ root m n c. inl (same root n c.is_root (through m n c.before c.link c.bit));
}
