-- Each move within a slot keeps what holds there of processes, assignments and blocks.
use Rattle.vs_process.specs.BlockDrivers.{starter, StartsMoved, cold, sources, Roles, StartsAs, IsSource, control, puts_out}
use Rattle.vs_independence.proofs.Starters.{Level, Shown, SameBit, level_behind, source_shown, block_shown, shifted_bit, goes_ran}
use Rattle.vs_independence.proofs.FirstQuiet.{Unstarted}
use Rattle.vs_independence.proofs.Moves.{log_names}
use Rattle.std.proofs.Common.{◌≡◌, ℕ, ◌||◌, ◌⊎◌, Bool, true, false, Option, Some, None, List, [], ◌∷◌, map, get_or, slice_get, zero, refl, sym, ◌∙◌, ap, subst, inl, inr, suc}
use Rattle.vs_design.specs.declared.design.Process.{Process}
use Rattle.vs_process.specs.declared.gait.Gait.TheVariants.{Fresh}
use Rattle.vs_design.specs.Parts.{Parts}
use Rattle.vs_design.specs.Stores.{Store}
use Rattle.vs_design.specs.declared.range.BitRange.{BitRange}
use Rattle.vs_process.specs.States.{State, start, performed, activated}
use Rattle.vs_process.specs.declared.gait.Gait.{Gait}
use Rattle.vs_process.specs.Places.{active_at, flat, start_place, Todo, Place, going, ended, is_going, is_inside, todo_of}
use Rattle.vs_process.specs.Steps.{Out, step, goes}
use Rattle.vs_process.specs.Threads.{Thread, found, is_timed, IsThread, IsEarly, early_turn, turn, writes}
use Rattle.vs_independence.specs.Discipline.{Reaches, IsOrdered}
use Rattle.vs_independence.proofs.Running.{Apart, Running}
use Rattle.vs_process.proofs.BlockRuns.{BlockStep}
use Rattle.vs_independence.proofs.BlocksAt.{Blocked, BlocksAt, IsFree, NoneInside, block_made, blocks_own, blocks_stepped, performed_own, performed_place, place_after, text_at, woken_more}
use Rattle.std.specs.List.{Contains, list_any}
use Rattle.vs_process.proofs.ThreadAssigns.{DrivesWell}
use Rattle.vs_independence.proofs.FirstQuiet.{FirstWrites}
use Rattle.vs_independence.proofs.History.{History, history_still}
use Rattle.vs_independence.proofs.Making.{Making, block_makes, stopped_at, GoesOn}
use Rattle.vs_independence.proofs.Owed.{Owed, StartSources, owed_still}
use Rattle.vs_independence.proofs.ThreadSteps.{ThreadStep, thread_step}
use Rattle.vs_design.specs.Writes.{Write, names}
use Rattle.vs_process.proofs.ThreadLists.{at_each, at}
use Rattle.vs_independence.proofs.Awake.{awake_own, awake_ran, history_like, history_written, quiet_written}
use Rattle.vs_independence.proofs.BlockSteps.{block_runs, lies_free, lies_other, source_behind, updates_same}
use Rattle.std.proofs.lemmas.Bool.{cond_both, cases_eq, or_cases, true≢false, false_from_ne_true}
use Rattle.std.proofs.lemmas.Option.{get_or_from_slice_get}
use Rattle.vs_process.proofs.ThreadsNamed.{named}
use Rattle.vs_process.proofs.Fares.{or_some, is_awake, Fares}
use Rattle.vs_independence.proofs.Moves.{RunsOn, runs_as, performed_is, source_free, step_runs}
use Rattle.vs_process.proofs.Threads.{not_going}
use Rattle.vs_process.specs.vs_eval.specs.Laws.{digit_of}

-- what the proof takes of drivers
pub record Setting (d : Parts) (roles : Roles) : Type 0 where
  pub well : DrivesWell d
  pub z : Blocked d roles
  pub order : IsOrdered d roles
  pub unstarted : Unstarted d roles
  pub starts : (k : ℕ) → roles.blocks k ≡ true → StartsAs d roles.blocks k (roles.start k)
  pub first : (i k u : ℕ) (r : BitRange) (th : Thread) → IsEarly roles.blocks (start d) i th → roles.blocks k ≡ true → Contains (control d k) r → writes th u ≡ true → Reaches d roles.blocks u r → ⊥

pub only_sources : (d : Parts) (roles : Roles) → Setting d roles → StartSources d roles
only_sources d roles set k is s = subst (StartsAs d roles.blocks k) s (set.starts k is)

-- before the first quiet moment of all
pub record FirstEra (d : Parts) (roles : Roles) (b : State) (ran0 : ℕ → Bool) (late : Bool) (th : ℕ → Thread) : Type 0 where
  pub early : late ≡ false
  pub begin : b ≡ start d
  pub none : (k : ℕ) → ran0 k ≡ false
  pub threads : (i : ℕ) → IsEarly roles.blocks b i (th i)

-- behind it
abbrev pub AllCold : Roles → (ℕ → Bool) → Type 0
AllCold roles ran = (k : ℕ) → roles.blocks k ≡ true → roles.start k ≡ cold → ran k ≡ true

pub record LateEra (roles : Roles) (late : Bool) (ran : ℕ → Bool) : Type 0 where
  pub is_late : late ≡ true
  pub cold : AllCold roles ran

-- blocks with a starter have been woken where a slot begins, but for the first
abbrev pub AllStarted : Roles → (ℕ → Bool) → Type 0
AllStarted roles ran = (k : ℕ) → roles.blocks k ≡ true → roles.start k ≡ starter → ran k ≡ true

-- before the updates of the slot are activated
pub record Before (d : Parts) (roles : Roles) (b s : State) (ran0 : ℕ → Bool) (late : Bool) (ran : ℕ → Bool) : Type 0 where
  pub th : ℕ → Thread
  pub runs : Running d roles.blocks b s th
  pub history : History d roles b th ran0 ran
  pub grown : (k : ℕ) → ran0 k ≡ true → ran k ≡ true
  pub level : b ≡ start d → Level d roles s.store s.assigns
  pub era : FirstEra d roles b ran0 late th ⊎ LateEra roles late ran

-- once they are
pub record LateBlocks (d : Parts) (roles : Roles) (b s : State) (ran0 : ℕ → Bool) (late : Bool) (ran : ℕ → Bool) : Type 0 where
  pub making : Making d roles.blocks b s
  pub mid : ℕ → Bool
  pub past : History d roles b making.th ran0 mid
  pub owed : Owed d roles making.before.store (map (activated b.time) making.before.updates) mid ran s.store s.updates
  pub era : LateEra roles late ran
  pub grown : (k : ℕ) → ran0 k ≡ true → ran k ≡ true
  pub bits : b ≡ start d → (k : ℕ) → roles.blocks k ≡ true → roles.start k ≡ starter → (m : StartsMoved d roles.blocks k) → (ran k ≡ true) ⊎ SameBit d roles.blocks k m s.store

pub record Moment (d : Parts) (roles : Roles) (set : Setting d roles) (b s : State) (ran0 : ℕ → Bool) (late : Bool) (ran : ℕ → Bool) : Type 0 where
  pub blocks : BlocksAt d roles set.z late ran s.time s.store s.places
  pub phase : Before d roles b s ran0 late ran ⊎ LateBlocks d roles b s ran0 late ran
  pub begun : (b ≡ start d) ⊎ AllStarted roles ran0

-- ---- eras

pub first_writes : (d : Parts) (roles : Roles) → Setting d roles → (b : State) (th : ℕ → Thread) → b ≡ start d → ((i : ℕ) → IsEarly roles.blocks b i (th i)) → FirstWrites d roles.blocks th
first_writes d roles set b th begin early i k u r is named wrote reach = set.first i k u r (th i) (subst (λ b. IsEarly roles.blocks b i (th i)) begin (early i)) is named wrote reach

early_more : (blocks : ℕ → Bool) (b : State) (i : ℕ) (th next : Thread) → IsEarly blocks b i th → early_turn b.time i th ≡ next → IsEarly blocks b i next
early_more blocks b i th next h e = record { count = suc h.count; is = ap (early_turn b.time i) h.is ∙ e }

pub late_more : (roles : Roles) (late : Bool) (ran new : ℕ → Bool) → ((k : ℕ) → ran k ≡ true → new k ≡ true) → LateEra roles late ran → LateEra roles late new
late_more roles late ran new up h = record { is_late = h.is_late; cold = λ k is s. up k (h.cold k is s) }

era_more : (d : Parts) (roles : Roles) (b : State) (ran0 : ℕ → Bool) (late : Bool) (th : ℕ → Thread) (ran new : ℕ → Bool) → ((k : ℕ) → ran k ≡ true → new k ≡ true) → (FirstEra d roles b ran0 late th ⊎ LateEra roles late ran) → FirstEra d roles b ran0 late th ⊎ LateEra roles late new
era_more d roles b ran0 late th ran new up (inl first) = inl first
era_more d roles b ran0 late th ran new up (inr later) = inr (late_more roles late ran new up later)

pub more_up : (ran : ℕ → Bool) (places : List Place) (k : ℕ) → ran k ≡ true → woken_more ran places k ≡ true
more_up ran places k h = or_some (ran k) (is_awake (get_or places k ended)) h

-- ---- threads that are the same but for what fired them

history_logs : (d : Parts) (roles : Roles) (b : State) (th more : ℕ → Thread) (ran0 ran : ℕ → Bool) → ((i : ℕ) → (more i).log ≡ (th i).log) → History d roles b th ran0 ran → History d roles b more ran0 ran
history_logs d roles b th more ran0 ran same h = history_still d roles b th more ran0 ran ran same (λ k run. run) (λ k is s run. run) h

pub timed_active : (gait : Gait) (todo : Todo) → is_timed (active_at gait todo) ≡ true
timed_active gait [] = refl
timed_active gait (i ∷ rest) = refl

timed_starts : (ps : List Process) (i : ℕ) → is_timed (get_or (map (λ (p : Process). start_place p.body) ps) i ended) ≡ true
timed_starts [] i = refl
timed_starts (p ∷ ps) zero = timed_active Fresh (flat p.body)
timed_starts (p ∷ ps) (suc i) = timed_starts ps i

-- nothing waits where all begins
timed_start : (d : Parts) (blocks : ℕ → Bool) (i : ℕ) → is_timed (found blocks (start d) i) ≡ true
timed_start d blocks i = cond_both (blocks i) ended (get_or (start d).places i ended) (λ p. is_timed p ≡ true) (λ e. refl) (λ e. timed_starts d.processes i)

era_on : (d : Parts) (roles : Roles) (b : State) (ran0 : ℕ → Bool) (late : Bool) (th more : ℕ → Thread) (ran : ℕ → Bool) → ((k : ℕ) → is_timed (found roles.blocks b k) ≡ true → more k ≡ th k) →
    (FirstEra d roles b ran0 late th ⊎ LateEra roles late ran) → FirstEra d roles b ran0 late more ⊎ LateEra roles late ran
era_on d roles b ran0 late th more ran same (inr later) = inr later
era_on d roles b ran0 late th more ran same (inl first) = inl (record {
  early = first.early;
  begin = first.begin;
  none = first.none;
  threads = λ i. subst (IsEarly roles.blocks b i) (sym (same i (subst (λ s. is_timed (found roles.blocks s i) ≡ true) (sym first.begin) (timed_start d roles.blocks i)))) (first.threads i);
})

-- ---- a step of a process that is no block

pub thread_moment : (d : Parts) (roles : Roles) (set : Setting d roles) (b s : State) (ran0 : ℕ → Bool) (late : Bool) (ran : ℕ → Bool) → Apart d roles.blocks b → NoneInside roles s.places →
    (i : ℕ) → roles.blocks i ≡ false → (p : Place) → slice_get s.places i ≡ Some p → is_going p ≡ true → Moment d roles set b s ran0 late ran →
    Moment d roles set b (performed s i p (step (todo_of p) s.store s.time)) ran0 late (woken_more ran (performed s i p (step (todo_of p) s.store s.time)).places)
thread_moment d roles set b s ran0 late ran apart none i other p is goes m = by_phase m.phase
  where
    out : Out
    out = step (todo_of p) s.store s.time

    t : State
    t = performed s i p out

    not_this : (k : ℕ) → roles.blocks k ≡ true → k ≡ i → ⊥
    not_this k at_k e = true≢false (sym at_k ∙ ap roles.blocks e ∙ other)

    by_phase : (Before d roles b s ran0 late ran ⊎ LateBlocks d roles b s ran0 late ran) → Moment d roles set b t ran0 late (woken_more ran t.places)
    by_phase (inr x) = absurd (not_going p (stopped_at d roles.blocks b s x.making i other p is) goes)
    by_phase (inl x) = record {
      blocks = subst (λ n. BlocksAt d roles set.z late (woken_more ran t.places) n t.store t.places) (sym (ap (λ (u : State). u.time) (performed_is s i p out)))
          (blocks_stepped d roles set.z late ran s i p out other free none m.blocks);
      phase = inl (record {
        th = on.th;
        runs = on.runs;
        history = history_logs d roles b (at x.th i tn) on.th ran0 (woken_more ran t.places) on.logs (history_like d roles b (at x.th i tn) ran0 (λ k. ran k || is_awake (place_after s.store out.write (get_or s.places k ended))) (woken_more ran t.places)
            (λ k at_k. ap (λ q. ran k || is_awake q) (sym (performed_place s i p out k (not_this k at_k))))
            (history_written d roles set.z b x.th i tn out.write s.store s.places s.time ran0 ran late m.blocks facts.log facts.view facts.agree free (not_first x.era) x.history));
        era = era_on d roles b ran0 late (at x.th i tn) on.th (woken_more ran t.places) on.same (era_at x.era);
        grown = λ k old. more_up ran t.places k (x.grown k old);
        level = λ e. subst (λ (u : State). Level d roles u.store u.assigns) (sym (performed_is s i p out))
            (level_behind d roles s.store s.assigns out.write (λ w at_w n shown. source_shown d roles w (facts.sources w at_w) (untouched e w at_w) n shown) (x.level e));
      });
      begun = m.begun;
    }
      where
        tn : Thread
        tn = turn b.time i (x.th i)

        on : RunsOn d roles.blocks b t (at x.th i tn)
        on = step_runs d roles.blocks (text_at d roles set.z) b s apart x.th x.runs i other p is goes

        facts : ThreadStep d roles.blocks b s x.th i p
        facts = thread_step d roles.blocks b s apart x.th x.runs i other p is goes

        untouched : b ≡ start d → (w : Write) → out.write ≡ Some w → (n : ℕ) (shown : Shown d roles n) → names w shown.moved.root ≡ false
        untouched e w at_w n shown = false_from_ne_true (names w shown.moved.root) (λ hit.
            true≢false (sym (ap (λ l. list_any (λ w. names w shown.moved.root) l) facts.log ∙ log_names (x.th i).log out.write w shown.moved.root at_w hit)
            ∙ shown.moved.untouched i tn shown.stops.last (subst (λ b. IsThread d roles.blocks b i tn) e facts.turned) shown.stops.is shown.stops.going shown.stops.resting))

        free : (w : Write) → out.write ≡ Some w → IsFree d roles w
        free w e = source_free d roles.blocks w (facts.sources w e)

        threads_at : FirstEra d roles b ran0 late x.th → (j : ℕ) → IsEarly roles.blocks b j (at x.th i tn j)
        threads_at first = at_each (IsEarly roles.blocks b) x.th i tn (early_more roles.blocks b i (x.th i) tn (first.threads i) facts.early) (λ j ne. first.threads j)

        era_at : (FirstEra d roles b ran0 late x.th ⊎ LateEra roles late ran) → FirstEra d roles b ran0 late (at x.th i tn) ⊎ LateEra roles late (woken_more ran t.places)
        era_at (inl first) = inl (record { early = first.early; begin = first.begin; none = first.none; threads = threads_at first })
        era_at (inr later) = inr (late_more roles late ran (woken_more ran t.places) (more_up ran t.places) later)

        not_first : (FirstEra d roles b ran0 late x.th ⊎ LateEra roles late ran) → (late ≡ true) ⊎ FirstWrites d roles.blocks (at x.th i tn)
        not_first (inl first) = inr (first_writes d roles set b (at x.th i tn) first.begin (threads_at first))
        not_first (inr later) = inl later.is_late

-- ---- moves that wake no block whose control names sources by a source

-- each of two phases, where threads and updates stay
pub record Kept (d : Parts) (roles : Roles) (s t : State) (late : Bool) (ran new : ℕ → Bool) : Type 0 where
  pub up : (k : ℕ) → ran k ≡ true → new k ≡ true
  pub down : (k : ℕ) → roles.blocks k ≡ true → roles.start k ≡ sources → new k ≡ true → ran k ≡ true
  pub same : (v : ℕ) → IsSource d roles.blocks v → slice_get t.store v ≡ slice_get s.store v
  pub updates : t.updates ≡ s.updates
  pub level : Level d roles s.store s.assigns → Level d roles t.store t.assigns
  pub bits : late ≡ true → (k : ℕ) → roles.blocks k ≡ true → (m : StartsMoved d roles.blocks k) → SameBit d roles.blocks k m s.store → (new k ≡ true) ⊎ SameBit d roles.blocks k m t.store

pub phase_kept : (d : Parts) (roles : Roles) → Setting d roles → (b s t : State) (ran0 : ℕ → Bool) (late : Bool) (ran new : ℕ → Bool) → Kept d roles s t late ran new →
    ((th : ℕ → Thread) → Running d roles.blocks b s th → RunsOn d roles.blocks b t th) →
    ((m : Making d roles.blocks b s) → GoesOn d roles.blocks b s m t) →
    (Before d roles b s ran0 late ran ⊎ LateBlocks d roles b s ran0 late ran) → Before d roles b t ran0 late new ⊎ LateBlocks d roles b t ran0 late new
phase_kept d roles set b s t ran0 late ran new kept runs makes (inl x) =
    let on = runs x.th x.runs in
    inl (record {
      th = on.th;
      runs = on.runs;
      history = history_still d roles b x.th on.th ran0 ran new on.logs kept.up kept.down x.history;
      era = era_on d roles b ran0 late x.th on.th new on.same (era_more d roles b ran0 late x.th ran new kept.up x.era);
      grown = λ k old. kept.up k (x.grown k old);
      level = λ e. kept.level (x.level e);
    })
phase_kept d roles set b s t ran0 late ran new kept runs makes (inr x) =
    let n = makes x.making in
    inr (record {
      making = n.0;
      mid = x.mid;
      past = subst (λ th. History d roles b th ran0 x.mid) (sym n.2) x.past;
      owed = subst (λ (before : State). Owed d roles before.store (map (activated b.time) before.updates) x.mid new t.store t.updates) (sym n.1)
          (subst (λ us. Owed d roles x.making.before.store (map (activated b.time) x.making.before.updates) x.mid new t.store us) (sym kept.updates)
          (owed_still d roles (only_sources d roles set) x.making.before.store (map (activated b.time) x.making.before.updates) x.mid ran new s.store t.store s.updates kept.up kept.down kept.same x.owed));
      era = late_more roles late ran new kept.up x.era;
      grown = λ k old. kept.up k (x.grown k old);
      bits = λ e k is s_k m. elim (x.bits e k is s_k m) [
        | inl run ↦ inl (kept.up k run)
        | inr same ↦ kept.bits x.era.is_late k is m same
      ];
    })

-- a block that is awake was woken
pub down_still : (d : Parts) (roles : Roles) (z : Blocked d roles) (late : Bool) (ran : ℕ → Bool) (time : ℕ) (store : Store) (places : List Place) → BlocksAt d roles z late ran time store places →
    (k : ℕ) → roles.blocks k ≡ true → (ran k || is_awake (get_or places k ended)) ≡ true → ran k ≡ true
down_still d roles z late ran time store places at_them k is h = elim (or_cases (ran k) (is_awake (get_or places k ended)) h) [
  | inl old ↦ old
  | inr awake ↦ awake_ran d (roles.inputs k) k (text_at d roles z k is) late (ran k) time store (get_or places k ended) (at_them.fares k is) awake
]

-- behind a write of another driver
pub down_written : (d : Parts) (roles : Roles) (set : Setting d roles) (late : Bool) (ran : ℕ → Bool) (time : ℕ) (store : Store) (places : List Place) (o : Option Write) → BlocksAt d roles set.z late ran time store places →
    (k : ℕ) → roles.blocks k ≡ true → roles.start k ≡ sources → ((w : Write) → o ≡ Some w → (v : ℕ) → puts_out d k v ≡ true → names w v ≡ false) → ((w : Write) → o ≡ Some w → (v : ℕ) → IsSource d roles.blocks v → names w v ≡ false) →
    is_awake (place_after store o (get_or places k ended)) ≡ true → ran k ≡ true
down_written d roles set late ran time store places None at_them k is s free other h = awake_ran d (roles.inputs k) k (text_at d roles set.z k is) late (ran k) time store (get_or places k ended) (at_them.fares k is) h
down_written d roles set late ran time store places (Some w) at_them k is s free other h =
    quiet_written d roles.blocks (roles.inputs k) k (text_at d roles set.z k is) (only_sources d roles set k is s) late (ran k) time store (get_or places k ended) w (free w refl) (other w refl) (at_them.fares k is) h

-- ---- a step of a block

pub block_moment : (d : Parts) (roles : Roles) (set : Setting d roles) (b s : State) (ran0 : ℕ → Bool) (late : Bool) (ran : ℕ → Bool) → Apart d roles.blocks b →
    (k : ℕ) → roles.blocks k ≡ true → ((l : ℕ) → roles.blocks l ≡ true → (l ≡ k → ⊥) → is_inside (get_or s.places l ended) ≡ true → ⊥) →
    (gait : Gait) (todo : Todo) → slice_get s.places k ≡ Some (going gait todo) → Moment d roles set b s ran0 late ran →
    let t = performed s k (going gait todo) (step todo s.store s.time) in Moment d roles set b t ran0 late (woken_more ran t.places)
block_moment d roles set b s ran0 late ran apart k is none gait todo at_k m = record {
  blocks = subst (λ n. BlocksAt d roles set.z late (woken_more ran t.places) n t.store t.places) (sym (ap (λ (u : State). u.time) (performed_is s k (going gait todo) out)))
      (blocks_own d roles set.z late ran s k is gait todo at_k none m.blocks);
  phase = phase_kept d roles set b s t ran0 late ran (woken_more ran t.places) kept
      (λ th r. runs_as d roles.blocks b _ th (block_runs d roles.blocks (text_at d roles set.z) set.z.exclusive set.z.own b s th apart r k is gait todo out at_k made))
      (λ n. block_makes d roles.blocks set.z.own b s apart n k is (going gait todo) out made)
      m.phase;
  begun = m.begun;
}
  where
    out : Out
    out = step todo s.store s.time

    t : State
    t = performed s k (going gait todo) out

    made : BlockStep d k out
    made = block_made d roles set.z late ran s k is gait todo at_k m.blocks

    down_at : (l : ℕ) → roles.blocks l ≡ true → roles.start l ≡ sources → is_awake (get_or t.places l ended) ≡ true → ran l ≡ true
    down_at l at_l s_l h =
        elim (cases_eq l k) [
          | inl e ↦ subst (λ n. ran n ≡ true) (sym e)
              (awake_own d (roles.inputs k) k (text_at d roles set.z k is) late (ran k) s.time s.store (get_or s.places k ended) gait todo out.next (get_or_from_slice_get s.places k (going gait todo) ended at_k) (m.blocks.fares k is)
              (ap is_awake (sym (performed_own s k (going gait todo) (going gait todo) out at_k) ∙ ap (λ n. get_or t.places n ended) (sym e)) ∙ h))
          | inr ne ↦ down_written d roles set late ran s.time s.store s.places out.write m.blocks l at_l s_l
              (λ w e v hit. lies_other d roles.blocks set.z.exclusive k l w is at_l ne (made.lies w e) v hit) (λ w e v source. lies_free d roles.blocks k w is (made.lies w e) v source)
              (ap is_awake (sym (performed_place s k (going gait todo) out l ne)) ∙ h)
        ]

    bits_at : late ≡ true → (l : ℕ) → roles.blocks l ≡ true → (mo : StartsMoved d roles.blocks l) → SameBit d roles.blocks l mo s.store → ((l ≡ k) ⊎ (l ≡ k → ⊥)) →
        (woken_more ran t.places l ≡ true) ⊎ SameBit d roles.blocks l mo t.store
    bits_at later l at_l mo same (inl e) =
        inl (more_up ran t.places l (subst (λ n. ran n ≡ true) (sym e)
        (goes_ran d (roles.inputs k) k (text_at d roles set.z k is) (ran k) s.time s.store (get_or s.places k ended) gait todo (get_or_from_slice_get s.places k (going gait todo) ended at_k)
        (subst (λ b. Fares d (roles.inputs k) k (text_at d roles set.z k is) b (ran k) s.time s.store (get_or s.places k ended)) later (m.blocks.fares k is)))))
    bits_at later l at_l mo same (inr ne) =
        elim (shifted_bit d roles.blocks (roles.inputs l) l (text_at d roles set.z l at_l) mo (ran l) s.time s.store (get_or s.places l ended) out.write
        (subst (λ b. Fares d (roles.inputs l) l (text_at d roles set.z l at_l) b (ran l) s.time s.store (get_or s.places l ended)) later (m.blocks.fares l at_l)) same) [
          | inl run ↦ inl (ap (λ p. ran l || is_awake p) (performed_place s k (going gait todo) out l ne) ∙ run)
          | inr still ↦ inr (λ n w p shows named. ap (λ (u : State). digit_of u.store n w p) (performed_is s k (going gait todo) out) ∙ still n w p shows named)
        ]

    kept : Kept d roles s t late ran (woken_more ran t.places)
    kept = record {
      up = more_up ran t.places;
      down = λ l at_l s_l h. elim (or_cases (ran l) (is_awake (get_or t.places l ended)) h) [
        | inl old ↦ old
        | inr awake ↦ down_at l at_l s_l awake
      ];
      same = λ v source. ap (λ (u : State). slice_get u.store v) (performed_is s k (going gait todo) out) ∙ source_behind d roles.blocks k s.store out.write is made.lies v source;
      updates = ap (λ (u : State). u.updates) (performed_is s k (going gait todo) out) ∙ updates_same k s.time out.update s.updates made.update;
      level = λ l. subst (λ (u : State). Level d roles u.store u.assigns) (sym (performed_is s k (going gait todo) out))
          (level_behind d roles s.store s.assigns out.write (λ w e n shown. block_shown d roles set.z.own k is w (made.lies w e) n shown) l);
      bits = λ later l at_l mo same. bits_at later l at_l mo same (cases_eq l k);
    }
