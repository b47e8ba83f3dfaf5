-- What a well formed design says of its continuous assignments and of its threads.
use Rattle.std.proofs.Common.{Bool, ◌≡◌, ℕ, zero, suc, get_or, true, Option, Some, None, List, refl, subst, inl, inr}
use Rattle.std.specs.List.{list_any, list_all}
use Rattle.std.proofs.lemmas.Bool.{cond_both, or_cases, false≢true}
use Rattle.vs_design.specs.declared.signal.Signal.{Signal}
use Rattle.vs_design.specs.Parts.{Parts}
use Rattle.vs_design.specs.WellFormed.{WellFormed}
use Rattle.vs_design.specs.Writes.{Write, names}
use Rattle.vs_process.specs.declared.gait.Gait.TheVariants.{Woken}
use Rattle.vs_process.specs.Places.{Place, going, sleeping, inactive, waiting, ended}
use Rattle.vs_process.specs.Steps.{step}
use Rattle.vs_process.specs.States.{State, triggered}
use Rattle.vs_process.proofs.WellFormed.{IsVariable, drives_apart, is_sound_place, sound_active, sound_next, sound_made, sound_place_behind, step_names}
use Rattle.vs_process.specs.Threads.{Thread, Fired, found, IsThread, log_after, turn_at, turn, iterate, opening, writes, any_names}
use Rattle.vs_process.proofs.ThreadAssigns.{DrivesWell}
use Rattle.vs_independence.proofs.Times.{get_from_all}

-- a well formed design
pub drives_well : (d : Parts) → WellFormed d → DrivesWell d
drives_well d formed = record { places = drives_apart d formed }

-- ---- threads

-- a thread whose process is at a sound place, and which has written and updated variables alone
pub record SoundThread (ss : List Signal) (th : Thread) : Type 0 where
  pub place : is_sound_place ss th.place ≡ true
  pub log : (v : ℕ) → writes th v ≡ true → IsVariable ss v
  pub made : (v : ℕ) → any_names th.made v ≡ true → IsVariable ss v

sound_log : (ss : List Signal) (log : List Write) (o : Option Write) → ((w : Write) → o ≡ Some w → (v : ℕ) → names w v ≡ true → IsVariable ss v) →
    ((v : ℕ) → list_any (λ w. names w v) log ≡ true → IsVariable ss v) → (v : ℕ) → list_any (λ w. names w v) (log_after log o) ≡ true → IsVariable ss v
sound_log ss log None new old v h = old v h
sound_log ss log (Some w) new old v h = elim (or_cases (names w v) (list_any (λ w. names w v) log) h) [
  | inl hit ↦ new w refl v hit
  | inr more ↦ old v more
]

sound_turn : (ss : List Signal) (time i : ℕ) (p : Place) (th : Thread) → is_sound_place ss p ≡ true → SoundThread ss th → SoundThread ss (turn_at time i p th)
sound_turn ss time i (going gait todo) th p h =
    let out = step todo th.view time in
    let named = step_names ss todo th.view time p in
    record {
      place = sound_place_behind ss (going gait todo) time out.next (sound_next ss todo th.view time p);
      log = sound_log ss th.log out.write named.write h.log;
      made = sound_made ss i time th.made out.update named.update h.made;
    }
sound_turn ss time i (inactive todo) th p h = record { place = sound_active ss Woken todo p; log = h.log; made = h.made }
sound_turn ss time i (sleeping due todo) th p h = h
sound_turn ss time i (waiting terms todo) th p h = h
sound_turn ss time i ended th p h = h

sound_iterate : (ss : List Signal) (time i n : ℕ) (o : Thread) → SoundThread ss o → SoundThread ss (iterate n (turn time i) o)
sound_iterate ss time i zero o h = h
sound_iterate ss time i (suc n) o h =
    let th = iterate n (turn time i) o in
    let r = sound_iterate ss time i n o h in
    sound_turn ss time i th.place th r.place r

sound_triggered : (ss : List Signal) (p : Place) → is_sound_place ss p ≡ true → is_sound_place ss (triggered p) ≡ true
sound_triggered ss (waiting terms todo) h = sound_active ss Woken todo h
sound_triggered ss (going gait todo) h = h
sound_triggered ss (sleeping due todo) h = h
sound_triggered ss (inactive todo) h = h
sound_triggered ss ended h = h

sound_opening : (ss : List Signal) (blocks : ℕ → Bool) (b : State) (i : ℕ) (o : Option Fired) → is_sound_place ss (found blocks b i) ≡ true → SoundThread ss (opening blocks b i o)
sound_opening ss blocks b i None h = record { place = h; log = λ v w. absurd (false≢true w); made = λ v w. absurd (false≢true w) }
sound_opening ss blocks b i (Some f) h = record { place = sound_triggered ss (found blocks b i) h; log = λ v w. absurd (false≢true w); made = λ v w. absurd (false≢true w) }

-- the threads of a slot that begins with processes at sound places
pub sound_thread : (ss : List Signal) (d : Parts) (blocks : ℕ → Bool) (b : State) (i : ℕ) (th : Thread) → list_all (is_sound_place ss) b.places ≡ true → IsThread d blocks b i th → SoundThread ss th
sound_thread ss d blocks b i th h is =
    subst (SoundThread ss) is.is
    (sound_iterate ss b.time i is.count (opening blocks b i is.input) (sound_opening ss blocks b i is.input (cond_both (blocks i) ended (get_or b.places i ended) (λ p. is_sound_place ss p ≡ true) (λ e. refl) (λ e. get_from_all (is_sound_place ss) b.places ended refl h i))))
