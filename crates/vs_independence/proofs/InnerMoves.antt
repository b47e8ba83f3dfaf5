-- The moves within a slot keep what holds there.
use Rattle.vs_process.specs.BlockDrivers.{starter, cold, sources, IsSource, Roles, Start}
use Rattle.vs_independence.proofs.Starters.{Stops, level_evaluated, level_written, level_settled, propagated_shown, bit_written, level_bit}
use Rattle.vs_independence.proofs.Inner.{AllStarted}
use Rattle.std.proofs.Common.{◌≡◌, ℕ, ◌==◌, ◌<◌, ◌⊎◌, Bool, true, false, ◌&&◌, ◌||◌, not, Option, Some, None, is_some, List, [], ◌∷◌, map, get_or, slice_get, ltb, leb, ltb-true, eqb-true, arith, refl, sym, ◌∙◌, ap, subst, inl, inr, take, slice_set}
use Rattle.std.specs.List.{list_any}
use Rattle.std.proofs.lemmas.Bool.{and_parts, or_parts, or_cases, not-true, not_from_true, true≢false, false≢true, cases_Bool, false_from_ne_true, or_left, or_right}
use Rattle.vs_design.specs.vs_logic4.specs.declared.digit.Digit.{Digit}
use Rattle.vs_design.specs.Parts.{Parts}
use Rattle.vs_design.specs.Stores.{Store, put, is_driven, is_changed}
use Rattle.vs_process.specs.declared.moves.Move.{Move}
use Rattle.vs_process.specs.declared.moves.Move.TheVariants.{Step, Evaluate, Propagate, Make, Rouse, Activate, EndSlot}
use Rattle.vs_process.specs.Places.{Place, going, sleeping, inactive, waiting, ended, is_going, is_inactive, Todo, is_inside}
use Rattle.vs_process.specs.States.{State, AssignState, Update, is_due, activated, stepped, evaluate, propagate, propagate_value, make, roused, wakened, settled, start}
use Rattle.vs_process.specs.Executions.{is_first, is_busy, has_inactive, has_due, is_enabled, apply, is_step_of}
use Rattle.vs_process.proofs.ProcessLists.{none_at}
use Rattle.std.proofs.lemmas.Map.Keys.{any_passes_from_place as at_any}
use Rattle.vs_design.specs.vs_logic4.proofs.Basics.{element_of as any_at}
use Rattle.vs_process.specs.Threads.{Thread, IsThread}
use Rattle.vs_process.proofs.ThreadStores.{names_some}
use Rattle.vs_process.proofs.Threads.{not_inactive, rouse_thread, is_stopped, not_going}
use Rattle.vs_process.proofs.Settle.{AllIdle}
use Rattle.vs_independence.proofs.Making.{Making, is_settled, activate_makes, make_makes, evaluate_makes, propagate_makes, stopped_at, GoesFrom, GoesOn, none_get}
use Rattle.vs_independence.proofs.Running.{Apart, is_waiting}
use Rattle.vs_independence.proofs.Inner.{AllCold, Before, LateBlocks, FirstEra, LateEra, Moment, Setting, block_moment, down_still, down_written, first_writes, late_more, more_up, only_sources, phase_kept, thread_moment}
use Rattle.vs_process.proofs.Assigns.{AssignsSound}
use Rattle.vs_independence.proofs.FirstQuiet.{AtFirst, first_quiet, is_cold}
use Rattle.vs_design.specs.declared.range.BitRange.{BitRange}
use Rattle.vs_independence.proofs.BlocksAt.{BlocksAt, IsFree, NoneInside, blocks_of_else, blocks_mapped, blocks_still, mapped_place, text_at, woken_more}
use Rattle.vs_process.proofs.Fares.{Fares, is_awake, or_last, or_some, fresh, unfed, fed, woken, inside}
use Rattle.vs_process.specs.declared.gait.Gait.{Gait}
use Rattle.vs_independence.proofs.History.{History, alters, change_named, history_still, put_log}
use Rattle.vs_independence.proofs.Owed.{Owed, owed_begins, owed_like, owed_made, owed_still}
use Rattle.vs_process.proofs.Texts.{Text}
use Rattle.vs_design.specs.Writes.{Write, shares, names}
use Rattle.vs_process.specs.vs_eval.specs.Targets.{assigned}
use Rattle.vs_independence.proofs.Moves.{runs_as, evaluate_runs, propagate_runs, propagated_named, propagated_undriven, rouse_runs, source_free}
use Rattle.std.proofs.Math.ListN.{get_or-map}
use Rattle.std.proofs.lemmas.Option.{get_or_from_slice_get}
use Rattle.vs_independence.specs.Discipline.{here}
use Rattle.vs_design.specs.vs_logic4.proofs.Basics.{all_at as all_get, pending_of}
use Rattle.vs_process.proofs.Permitted.{some_of}

-- nothing is left to do but a change of region
pub record IsQuiet (s : State) : Type 0 where
  pub going : list_any is_going s.places ≡ false
  pub assigns : list_any (λ (x : AssignState). x.needs || is_some x.pending) s.assigns ≡ false
  pub updates : list_any (λ (u : Update). u.active) s.updates ≡ false

quiet : (s : State) → is_busy s ≡ false → IsQuiet s
quiet s h =
    let last = or_parts (list_any is_going s.places || list_any (λ (x : AssignState). x.needs || is_some x.pending) s.assigns) (list_any (λ (u : Update). u.active) s.updates) h in
    let first = or_parts (list_any is_going s.places) (list_any (λ (x : AssignState). x.needs || is_some x.pending) s.assigns) last.0 in
    record { going = first.0; assigns = first.1; updates = last.1 }

-- what an enabled move finds
pub record AtRouse (s : State) : Type 0 where
  pub quiet : IsQuiet s
  pub inactive : list_any is_inactive s.places ≡ true

pub record AtActivate (s : State) : Type 0 where
  pub quiet : IsQuiet s
  pub inactive : list_any is_inactive s.places ≡ false
  pub due : list_any (is_due s.time) s.updates ≡ true

pub record AtEnd (s : State) : Type 0 where
  pub quiet : IsQuiet s
  pub inactive : list_any is_inactive s.places ≡ false
  pub due : list_any (is_due s.time) s.updates ≡ false

pub at_rouse : (s : State) → is_enabled s Rouse ≡ true → AtRouse s
at_rouse s h =
    let r = and_parts (not (is_busy s)) (has_inactive s) h in
    record { quiet = quiet s (not-true (is_busy s) r.0); inactive = r.1 }

pub at_activate : (s : State) → is_enabled s Activate ≡ true → AtActivate s
at_activate s h =
    let r = and_parts (not (is_busy s) && not (has_inactive s)) (has_due s) h in
    let q = and_parts (not (is_busy s)) (not (has_inactive s)) r.0 in
    record { quiet = quiet s (not-true (is_busy s) q.0); inactive = not-true (has_inactive s) q.1; due = r.1 }

pub at_end : (s : State) → is_enabled s EndSlot ≡ true → AtEnd s
at_end s h =
    let r = and_parts (not (is_busy s) && not (has_inactive s)) (not (has_due s)) h in
    let q = and_parts (not (is_busy s)) (not (has_inactive s)) r.0 in
    record { quiet = quiet s (not-true (is_busy s) q.0); inactive = not-true (has_inactive s) q.1; due = not-true (has_due s) r.1 }

-- a move that doesn't end the slot
abbrev pub IsInner : Move → Type 0
IsInner EndSlot = ⊥
IsInner _ = Unit {0}

none_of : {A : Type 0} (o : Option A) → is_some o ≡ false → o ≡ None
none_of None h = refl
none_of (Some x) h = absurd (true≢false h)

pub all_idle : (xs : List AssignState) → list_any (λ (x : AssignState). x.needs || is_some x.pending) xs ≡ false → AllIdle xs
all_idle xs h j x is =
    let parts = or_parts x.needs (is_some x.pending) (none_at (λ (x : AssignState). x.needs || is_some x.pending) xs j x is h) in
    (parts.0, none_of x.pending parts.1)

-- ---- moves that change the store or an assignment alone

phase_sound : (d : Parts) (roles : Roles) (b s : State) (ran0 : ℕ → Bool) (late : Bool) (ran : ℕ → Bool) → (Before d roles b s ran0 late ran ⊎ LateBlocks d roles b s ran0 late ran) → AssignsSound d s.store s.assigns
phase_sound d roles b s ran0 late ran (inl x) = x.runs.sound
phase_sound d roles b s ran0 late ran (inr x) = x.making.sound

evaluate_moment : (d : Parts) (roles : Roles) (set : Setting d roles) (b s : State) (ran0 : ℕ → Bool) (late : Bool) (ran : ℕ → Bool) → Apart d roles.blocks b → (j : ℕ) (x : AssignState) → slice_get s.assigns j ≡ Some x → x.needs ≡ true → Moment d roles set b s ran0 late ran →
    Moment d roles set b (evaluate s j (Some x)) ran0 late (woken_more ran s.places)
evaluate_moment d roles set b s ran0 late ran apart j x is needs m = record {
  blocks = blocks_still d roles set.z late ran s.time s.store s.places m.blocks;
  phase = phase_kept d roles set b s (evaluate s j (Some x)) ran0 late ran (woken_more ran s.places) (record {
    up = more_up ran s.places;
    down = λ k at_k s_k h. down_still d roles set.z late ran s.time s.store s.places m.blocks k at_k h;
    same = λ v source. refl;
    updates = refl;
    level = λ l. level_evaluated d roles s.store s.time s.assigns (phase_sound d roles b s ran0 late ran m.phase) j x is l;
    bits = λ later k at_k mo same. inr same;
  }) (λ th r. runs_as d roles.blocks b (evaluate s j (Some x)) th (evaluate_runs d roles.blocks set.well b s apart th r j x is needs)) (λ n. evaluate_makes d roles.blocks set.well b s n j x is needs) m.phase;
  begun = m.begun;
}

propagate_moment : (d : Parts) (roles : Roles) (set : Setting d roles) (b s : State) (ran0 : ℕ → Bool) (late : Bool) (ran : ℕ → Bool) → Apart d roles.blocks b → NoneInside roles s.places →
    (j : ℕ) (x : AssignState) (digits : List Digit) → slice_get s.assigns j ≡ Some x → x.pending ≡ Some digits → Moment d roles set b s ran0 late ran →
    Moment d roles set b (propagate_value s j x (Some digits)) ran0 late (woken_more ran (propagate_value s j x (Some digits)).places)
propagate_moment d roles set b s ran0 late ran apart none j x digits is waits m = record {
  blocks = blocks_of_else d roles set.z late ran s.time s.store s.places (Some w) free none m.blocks;
  phase = phase_kept d roles set b s t ran0 late ran (woken_more ran t.places) (record {
    up = more_up ran t.places;
    down = λ k at_k s_k h. elim (or_cases (ran k) (is_awake (get_or t.places k ended)) h) [
      | inl old ↦ old
      | inr awake ↦ down_written d roles set late ran s.time s.store s.places (Some w) m.blocks k at_k s_k (λ u e v hit. free u e k v at_k hit) (λ u e v source. other u e v source)
          (ap is_awake (sym (get_or-map (wakened s.store (put s.store w)) s.places k ended)) ∙ awake)
    ];
    same = λ v source. propagated_undriven d s.store s.time s.assigns sound j x digits is v source.undriven;
    updates = refl;
    level = λ l. level_written d roles s.store (slice_set s.assigns j (settled x)) w (propagated_shown d roles s.store s.time s.assigns sound j x digits is waits l) (level_settled d roles s.store s.assigns j x is l);
    bits = λ later k at_k mo same. elim (bit_written d roles.blocks (roles.inputs k) k (text_at d roles set.z k at_k) mo (ran k) s.time s.store (get_or s.places k ended) w
        (subst (λ l. Fares d (roles.inputs k) k (text_at d roles set.z k at_k) l (ran k) s.time s.store (get_or s.places k ended)) later (m.blocks.fares k at_k)) same) [
          | inl run ↦ inl (ap (λ p. ran k || is_awake p) (get_or-map (wakened s.store (put s.store w)) s.places k ended) ∙ run)
          | inr still ↦ inr still
        ];
  }) (λ th r. propagate_runs d roles.blocks set.well (text_at d roles set.z) set.z.own b s apart th r j x digits is waits) (λ n. propagate_makes d roles.blocks set.well b s apart n j x digits is waits) m.phase;
  begun = m.begun;
}
  where
    w : Write
    w = assigned x.target digits s.store s.time

    t : State
    t = propagate_value s j x (Some digits)

    sound : AssignsSound d s.store s.assigns
    sound = phase_sound d roles b s ran0 late ran m.phase

    undriven : (u : Write) → Some w ≡ Some u → (v : ℕ) → is_driven d.assigns v ≡ false → names u v ≡ false
    undriven u e v h =
        let same : w ≡ u = cc in
        subst (λ u. names u v ≡ false) same (propagated_named d s.store s.time s.assigns sound j x digits is v h)

    free : (u : Write) → Some w ≡ Some u → IsFree d roles u
    free u e k v at_k hit = undriven u e v (set.z.own k v at_k hit)

    other : (u : Write) → Some w ≡ Some u → (v : ℕ) → IsSource d roles.blocks v → names u v ≡ false
    other u e v source = undriven u e v source.undriven

make_moment : (d : Parts) (roles : Roles) (set : Setting d roles) (b s : State) (ran0 : ℕ → Bool) (late : Bool) (ran : ℕ → Bool) → Apart d roles.blocks b → (b ≡ start d) ⊎ AllStarted roles ran0 → NoneInside roles s.places → BlocksAt d roles set.z late ran s.time s.store s.places →
    (x : LateBlocks d roles b s ran0 late ran) → (i : ℕ) (u : Update) → slice_get s.updates i ≡ Some u → is_first s.updates i u ≡ true → Moment d roles set b (make s i (Some u)) ran0 late (woken_more ran (make s i (Some u)).places)
make_moment d roles set b s ran0 late ran apart begun none at_them x i u is first = record {
  blocks = blocks_of_else d roles set.z late ran s.time s.store s.places (Some u.what) free none at_them;
  phase = inr (record {
    making = next.0;
    mid = x.mid;
    past = subst (λ th. History d roles b th ran0 x.mid) (sym next.2) x.past;
    owed = subst (λ (before : State). Owed d roles before.store (map (activated b.time) before.updates) x.mid (woken_more ran t.places) t.store t.updates) (sym next.1)
        (owed_like d roles x.making.before.store (map (activated b.time) x.making.before.updates) x.mid (λ k. ran k || is_awake (wakened s.store (put s.store u.what) (get_or s.places k ended))) (woken_more ran t.places) t.store t.updates
        (λ k at_k. ap (λ p. ran k || is_awake p) (sym (get_or-map (wakened s.store (put s.store u.what)) s.places k ended)))
        (owed_made d roles set.z x.making.before.store (map (activated b.time) x.making.before.updates) x.mid ran s.time s.store s.places s.updates i u is active none_older free_u
        (subst (λ l. BlocksAt d roles set.z l ran s.time s.store s.places) x.era.is_late at_them) x.owed));
    era = late_more roles late ran (woken_more ran t.places) (more_up ran t.places) x.era;
    grown = λ k old. more_up ran t.places k (x.grown k old);
    bits = λ e k at_k s_k mo. elim (x.bits e k at_k s_k mo) [
      | inl run ↦ inl (more_up ran t.places k run)
      | inr same ↦ elim (bit_written d roles.blocks (roles.inputs k) k (text_at d roles set.z k at_k) mo (ran k) s.time s.store (get_or s.places k ended) u.what
          (subst (λ l. Fares d (roles.inputs k) k (text_at d roles set.z k at_k) l (ran k) s.time s.store (get_or s.places k ended)) x.era.is_late (at_them.fares k at_k)) same) [
            | inl run ↦ inl (ap (λ p. ran k || is_awake p) (get_or-map (wakened s.store (put s.store u.what)) s.places k ended) ∙ run)
            | inr still ↦ inr still
          ]
    ];
  });
  begun = begun;
}
  where
    t : State
    t = make s i (Some u)

    next : GoesOn d roles.blocks b s x.making t
    next = make_makes d roles.blocks b s apart x.making i u is first

    active : u.active ≡ true
    active = (and_parts u.active (not (list_any (λ (older : Update). older.active && shares older.what u.what) (take i s.updates))) first).0

    none_older : list_any (λ (older : Update). older.active && shares older.what u.what) (take i s.updates) ≡ false
    none_older = not-true (list_any (λ (older : Update). older.active && shares older.what u.what) (take i s.updates))
        (and_parts u.active (not (list_any (λ (older : Update). older.active && shares older.what u.what) (take i s.updates))) first).1

    free_u : IsFree d roles u.what
    free_u = source_free d roles.blocks u.what (λ v named. x.making.undriven v (at_any (λ (y : Update). names y.what v) s.updates i u is named))

    free : (w : Write) → Some u.what ≡ Some w → IsFree d roles w
    free w e = let same : u.what ≡ w = cc in subst (IsFree d roles) same free_u

-- ---- quiet moments

-- blocks that start cold have, from the first quiet moment on, what a run gives
abbrev pub sure : Roles → (ℕ → Bool) → ℕ → Bool
sure roles ran k = ran k || is_cold (roles.start k)

alters_named : (base : Store) (log : List Write) (r : BitRange) → alters base log r ≡ true → list_any (λ w. names w r.signal) log ≡ true
alters_named base [] r h = absurd (false≢true h)
alters_named base (w ∷ log) r h =
    elim (or_cases (alters base log r) (is_changed (put_log base log) (put (put_log base log) w) r) h) [
      | inl old ↦ or_right (names w r.signal) (list_any (λ w. names w r.signal) log) (alters_named base log r old)
      | inr now ↦ or_left (names w r.signal) (list_any (λ w. names w r.signal) log) (change_named (put_log base log) w r now)
    ]

sure_down : (roles : Roles) (ran : ℕ → Bool) (k : ℕ) → roles.start k ≡ sources → sure roles ran k ≡ true → ran k ≡ true
sure_down roles ran k s h = elim (or_cases (ran k) (is_cold (roles.start k)) h) [
  | inl old ↦ old
  | inr is ↦ absurd (false≢true (sym (ap is_cold s) ∙ is))
]

or_nothing : (b : Bool) → b ≡ (b || false)
or_nothing true = refl
or_nothing false = refl

sure_same : (roles : Roles) (ran : ℕ → Bool) → AllCold roles ran → (k : ℕ) → roles.blocks k ≡ true → ran k ≡ sure roles ran k
sure_same roles ran cold_ran k is = by_start (roles.start k) refl
  where
    by_start : (s : Start) → roles.start k ≡ s → ran k ≡ (ran k || is_cold s)
    by_start cold e = let on = cold_ran k is e in on ∙ sym (or_last (ran k) true refl)
    by_start sources e = or_nothing (ran k)
    by_start starter e = or_nothing (ran k)

pub quiet_moment : (d : Parts) (roles : Roles) (set : Setting d roles) (b s : State) (ran0 : ℕ → Bool) (late : Bool) (ran : ℕ → Bool) → IsQuiet s → Moment d roles set b s ran0 late ran → Moment d roles set b s ran0 true (sure roles ran)
quiet_moment d roles set b s ran0 late ran q m = by_phase m.phase
  where
    up : (k : ℕ) → ran k ≡ true → sure roles ran k ≡ true
    up k h = or_some (ran k) (is_cold (roles.start k)) h

    cold_sure : AllCold roles (sure roles ran)
    cold_sure k is s = or_last (ran k) (is_cold (roles.start k)) (ap is_cold s)

    blocks_late : LateEra roles late ran → BlocksAt d roles set.z true (sure roles ran) s.time s.store s.places
    blocks_late later = record {
      fares = λ k is. subst (λ r. Fares d (roles.inputs k) k (text_at d roles set.z k is) true r s.time s.store (get_or s.places k ended)) (sure_same roles ran later.cold k is)
          (subst (λ l. Fares d (roles.inputs k) k (text_at d roles set.z k is) l (ran k) s.time s.store (get_or s.places k ended)) later.is_late (m.blocks.fares k is));
      bare = m.blocks.bare;
      sized = m.blocks.sized;
    }

    before_late : (x : Before d roles b s ran0 late ran) → Before d roles b s ran0 true (sure roles ran)
    before_late x = record {
      th = x.th;
      runs = x.runs;
      history = history_still d roles b x.th x.th ran0 ran (sure roles ran) (λ i. refl) up (λ k is s_k h. sure_down roles ran k s_k h) x.history;
      era = inr (record { is_late = refl; cold = cold_sure });
      grown = λ k old. up k (x.grown k old);
      level = x.level;
    }

    unwoken : (x : Before d roles b s ran0 late ran) → (first : FirstEra d roles b ran0 late x.th) → (k : ℕ) → roles.blocks k ≡ true → roles.start k ≡ sources → ran k ≡ false
    unwoken x first k is s_k = false_from_ne_true (ran k) (λ h. elim (x.history.some k is s_k h) [
      | inl old ↦ true≢false (sym old ∙ first.none k)
      | inr seen ↦ first_writes d roles set b x.th first.begin first.threads seen.thread k seen.range.signal seen.range is seen.named
          (alters_named b.store (x.th seen.thread).log seen.range seen.alters) (here seen.range refl)
    ])

    at_first : (x : Before d roles b s ran0 late ran) → (first : FirstEra d roles b ran0 late x.th) → AtFirst d roles set.z b s.store s.assigns s.places x.th s.time ran
    at_first x first = record {
      begin = ap (λ (t : State). t.store) first.begin;
      sound = x.runs.sound;
      idle = all_idle s.assigns q.assigns;
      from = x.runs.sources;
      first = first_writes d roles set b x.th first.begin first.threads;
      blocks = subst (λ l. BlocksAt d roles set.z l ran s.time s.store s.places) first.early m.blocks;
      quiet = λ k. none_get is_going s.places k ended refl q.going;
      unwoken = unwoken x first;
    }

    by_era : (x : Before d roles b s ran0 late ran) → (FirstEra d roles b ran0 late x.th ⊎ LateEra roles late ran) → Moment d roles set b s ran0 true (sure roles ran)
    by_era x (inl first) = record {
      blocks = first_quiet d roles set.well set.z set.order set.unstarted set.starts b s.store s.assigns s.places x.th s.time ran (at_first x first);
      phase = inl (before_late x);
      begun = m.begun;
    }
    by_era x (inr later) = record { blocks = blocks_late later; phase = inl (before_late x); begun = m.begun }

    by_phase : (Before d roles b s ran0 late ran ⊎ LateBlocks d roles b s ran0 late ran) → Moment d roles set b s ran0 true (sure roles ran)
    by_phase (inl x) = by_era x x.era
    by_phase (inr x) = record {
      blocks = blocks_late x.era;
      phase = inr (record {
        making = x.making;
        mid = x.mid;
        past = x.past;
        owed = owed_like d roles x.making.before.store (map (activated b.time) x.making.before.updates) x.mid ran (sure roles ran) s.store s.updates (sure_same roles ran x.era.cold) x.owed;
        era = record { is_late = refl; cold = cold_sure };
        grown = λ k old. up k (x.grown k old);
        bits = λ e k is s_k mo. elim (x.bits e k is s_k mo) [
          | inl run ↦ inl (up k run)
          | inr same ↦ inr same
        ];
      });
      begun = m.begun;
    }

rouse_moment : (d : Parts) (roles : Roles) (set : Setting d roles) (b s : State) (ran0 : ℕ → Bool) (ran : ℕ → Bool) → (b ≡ start d) ⊎ AllStarted roles ran0 → BlocksAt d roles set.z true ran s.time s.store s.places → (x : Before d roles b s ran0 true ran) →
    Moment d roles set b (record s { places = map roused s.places }) ran0 true (woken_more ran (map roused s.places))
rouse_moment d roles set b s ran0 ran begun at_them x = record {
  blocks = blocks_mapped d roles set.z true ran s.time s.store s.places roused refl (λ gait todo. refl) (λ terms todo. refl) at_them;
  phase = inl (record {
    th = λ i. rouse_thread (x.th i);
    runs = rouse_runs d roles.blocks (text_at d roles set.z) b s x.th x.runs;
    history = history_still d roles b x.th (λ i. rouse_thread (x.th i)) ran0 ran (woken_more ran (map roused s.places)) (λ i. refl) (more_up ran (map roused s.places))
        (λ k is s_k h. down_still d roles set.z true ran s.time s.store s.places at_them k is
        (ap (λ p. ran k || is_awake p) (sym (mapped_place d (roles.inputs k) k (text_at d roles set.z k is) true (ran k) s.time s.store s.places roused refl (λ gait todo. refl) (λ terms todo. refl) (at_them.fares k is))) ∙ h))
        x.history;
    era = era_late x.era;
    grown = λ k old. more_up ran (map roused s.places) k (x.grown k old);
    level = x.level;
  });
  begun = begun;
}
  where
    era_late : (FirstEra d roles b ran0 true x.th ⊎ LateEra roles true ran) → FirstEra d roles b ran0 true (λ i. rouse_thread (x.th i)) ⊎ LateEra roles true (woken_more ran (map roused s.places))
    era_late (inl first) = absurd (true≢false first.early)
    era_late (inr later) = inr (late_more roles true ran (woken_more ran (map roused s.places)) (more_up ran (map roused s.places)) later)

pub stopped_still : (p : Place) → is_stopped p ≡ true → (is_going p ≡ false) × (is_inactive p ≡ false)
stopped_still p h = (false_from_ne_true (is_going p) (not_going p h), false_from_ne_true (is_inactive p) (not_inactive p h))

-- where updates are made all processes have come to a stop
pub stops_of : (d : Parts) (blocks : ℕ → Bool) (b s : State) → Making d blocks b s → b ≡ start d → (i : ℕ) → Stops d blocks i
stops_of d blocks b s m at_start i =
    let still = stopped_still (m.th i).place (m.still i) in
    record { last = m.th i; is = subst (λ b. IsThread d blocks b i (m.th i)) at_start ((m.runs.stands i).is); going = still.0; resting = still.1 }

pub late_of : (d : Parts) (roles : Roles) (b : State) (ran0 : ℕ → Bool) (th : ℕ → Thread) (ran : ℕ → Bool) → (FirstEra d roles b ran0 true th ⊎ LateEra roles true ran) → LateEra roles true ran
late_of d roles b ran0 th ran (inl first) = absurd (true≢false first.early)
late_of d roles b ran0 th ran (inr later) = later

activate_moment : (d : Parts) (roles : Roles) (set : Setting d roles) (b s : State) (ran0 : ℕ → Bool) (ran : ℕ → Bool) → Apart d roles.blocks b → (b ≡ start d) ⊎ AllStarted roles ran0 → AllIdle s.assigns → list_any is_going s.places ≡ false → list_any is_inactive s.places ≡ false →
    BlocksAt d roles set.z true ran s.time s.store s.places → (x : Before d roles b s ran0 true ran) → Moment d roles set b (record s { updates = map (activated s.time) s.updates }) ran0 true (woken_more ran s.places)
activate_moment d roles set b s ran0 ran apart begun idle none_going none_inactive at_them x = record {
  blocks = blocks_still d roles set.z true ran s.time s.store s.places at_them;
  phase = inr (record {
    making = next.0;
    mid = ran;
    past = subst (λ th. History d roles b th ran0 ran) (sym next.2) x.history;
    owed = subst (λ (before : State). Owed d roles before.store (map (activated b.time) before.updates) ran (woken_more ran s.places) s.store (map (activated s.time) s.updates)) (sym next.1)
        (subst (λ n. Owed d roles s.store (map (activated n) s.updates) ran (woken_more ran s.places) s.store (map (activated s.time) s.updates)) x.runs.slot.time
        (owed_still d roles (only_sources d roles set) s.store (map (activated s.time) s.updates) ran ran (woken_more ran s.places) s.store s.store (map (activated s.time) s.updates) (more_up ran s.places)
        (λ k is s_k h. down_still d roles set.z true ran s.time s.store s.places at_them k is h) (λ v source. refl)
        (owed_begins d roles ran s.store (map (activated s.time) s.updates))));
    era = late_more roles true ran (woken_more ran s.places) (more_up ran s.places) (late_of d roles b ran0 x.th ran x.era);
    grown = λ k old. more_up ran s.places k (x.grown k old);
    bits = λ e k is s_k mo. inr (level_bit d roles s.store s.assigns k is s_k mo (stops_of d roles.blocks b (record s { updates = map (activated s.time) s.updates }) next.0 e mo.writer) (x.level e));
  });
  begun = begun;
}
  where
    next : GoesFrom d roles.blocks b s x.th (record s { updates = map (activated s.time) s.updates })
    next = activate_makes d roles.blocks b s apart x.th x.runs none_going none_inactive idle

-- ---- moves

-- what is said of blocks behind a move
abbrev pub late_after_move : Bool → Move → Bool
late_after_move late (Step i) = late
late_after_move late (Evaluate j) = late
late_after_move late (Propagate j) = late
late_after_move late (Make i) = late
late_after_move late Rouse = true
late_after_move late Activate = true
late_after_move late EndSlot = true

abbrev pub ran_after_move : Roles → (ℕ → Bool) → Move → List Place → ℕ → Bool
ran_after_move roles ran (Step i) places = woken_more ran places
ran_after_move roles ran (Evaluate j) places = woken_more ran places
ran_after_move roles ran (Propagate j) places = woken_more ran places
ran_after_move roles ran (Make i) places = woken_more ran places
ran_after_move roles ran Rouse places = woken_more (sure roles ran) places
ran_after_move roles ran Activate places = woken_more (sure roles ran) places
ran_after_move roles ran EndSlot places = woken_more (sure roles ran) places

-- a block inside its run keeps out all but its own steps
abbrev pub KeepsOut : Roles → List Place → Move → Type 0
KeepsOut roles places m = (k : ℕ) → roles.blocks k ≡ true → is_inside (get_or places k ended) ≡ true → is_step_of k m ≡ true

pub block_active : (d : Parts) (inputs : List BitRange) (k : ℕ) (t : Text d k) (late ran : Bool) (time : ℕ) (store : Store) (p : Place) → Fares d inputs k t late ran time store p → is_inactive p ≡ true → ⊥
block_active d inputs k t late ran time store p (fresh todo is way same none first) h = false≢true (sym (ap is_inactive is) ∙ h)
block_active d inputs k t late ran time store p (unfed is same none) h = false≢true (sym (ap is_inactive (is ∙ t.home_is)) ∙ h)
block_active d inputs k t late ran time store p (fed is follows some) h = false≢true (sym (ap is_inactive (is ∙ t.home_is)) ∙ h)
block_active d inputs k t late ran time store p (woken is some) h = false≢true (sym (ap is_inactive is) ∙ h)
block_active d inputs k t late ran time store p (inside todo from th is run sized at same some) h = false≢true (sym (ap is_inactive is) ∙ h)

pub going_place : (p : Place) → is_going p ≡ true → (gait : Gait) × (todo : Todo) × (p ≡ going gait todo)
going_place (going gait todo) h = (gait, todo, refl)
going_place (sleeping due todo) h = absurd (false≢true h)
going_place (inactive todo) h = absurd (false≢true h)
going_place (waiting terms todo) h = absurd (false≢true h)
going_place ended h = absurd (false≢true h)

step_moment : (d : Parts) (roles : Roles) (set : Setting d roles) (b s : State) (ran0 : ℕ → Bool) (late : Bool) (ran : ℕ → Bool) → Apart d roles.blocks b → (i : ℕ) → KeepsOut roles s.places (Step i) →
    (p : Place) → slice_get s.places i ≡ Some p → is_going p ≡ true → Moment d roles set b s ran0 late ran → Moment d roles set b (stepped s i (Some p)) ran0 late (woken_more ran (stepped s i (Some p)).places)
step_moment d roles set b s ran0 late ran apart i out p is goes m =
    elim (cases_Bool (roles.blocks i)) [
      | inl at_i ↦ let g = going_place p goes in
          subst (λ q. Moment d roles set b (stepped s i (Some q)) ran0 late (woken_more ran (stepped s i (Some q)).places)) (sym g.2)
          (block_moment d roles set b s ran0 late ran apart i at_i (λ l at_l ne inside_it. ne (sym (eqb-true i l (out l at_l inside_it)))) g.0 g.1 (is ∙ ap (λ q. Some q) g.2) m)
      | inr other ↦ thread_moment d roles set b s ran0 late ran apart (λ k at_k inside_it. true≢false (sym at_k ∙ ap roles.blocks (sym (eqb-true i k (out k at_k inside_it))) ∙ other)) i other p is goes m
    ]

-- every move within a slot keeps what holds there
pub inner_kept : (d : Parts) (roles : Roles) (set : Setting d roles) (b s : State) (ran0 : ℕ → Bool) (late : Bool) (ran : ℕ → Bool) → Apart d roles.blocks b → (m : Move) → IsInner m → is_enabled s m ≡ true →
    KeepsOut roles s.places m → Moment d roles set b s ran0 late ran → Moment d roles set b (apply m s) ran0 (late_after_move late m) (ran_after_move roles ran m (apply m s).places)
inner_kept d roles set b s ran0 late ran apart (Step i) inner h out mo =
    let p = some_of is_going (slice_get s.places i) h in
    subst (λ (o : Option Place). Moment d roles set b (stepped s i o) ran0 late (woken_more ran (stepped s i o).places)) (sym p.1) (step_moment d roles set b s ran0 late ran apart i out p.0 p.1 p.2 mo)
inner_kept d roles set b s ran0 late ran apart (Evaluate j) inner h out mo =
    let x = some_of (λ (x : AssignState). x.needs) (slice_get s.assigns j) h in
    subst (λ (o : Option AssignState). Moment d roles set b (evaluate s j o) ran0 late (woken_more ran (evaluate s j o).places)) (sym x.1) (evaluate_moment d roles set b s ran0 late ran apart j x.0 x.1 x.2 mo)
inner_kept d roles set b s ran0 late ran apart (Propagate j) inner h out mo =
    let x = some_of (λ (x : AssignState). is_some x.pending) (slice_get s.assigns j) h in
    let v = pending_of x.0.pending x.2 in
    subst (λ (o : Option AssignState). Moment d roles set b (propagate s j o) ran0 late (woken_more ran (propagate s j o).places)) (sym x.1)
    (subst (λ (p : Option (List Digit)). Moment d roles set b (propagate_value s j x.0 p) ran0 late (woken_more ran (propagate_value s j x.0 p).places)) (sym v.1)
    (propagate_moment d roles set b s ran0 late ran apart (λ k at_k inside_it. false≢true (out k at_k inside_it)) j x.0 v.0 x.1 v.1 mo))
inner_kept d roles set b s ran0 late ran apart (Make i) inner h out mo = by_phase mo.phase
  where
    u : (u : Update) × (slice_get s.updates i ≡ Some u) × (is_first s.updates i u ≡ true)
    u = some_of (is_first s.updates i) (slice_get s.updates i) h

    by_phase : (Before d roles b s ran0 late ran ⊎ LateBlocks d roles b s ran0 late ran) → Moment d roles set b (make s i (slice_get s.updates i)) ran0 late (woken_more ran (make s i (slice_get s.updates i)).places)
    by_phase (inl x) =
        let active = (and_parts u.0.active _ u.2).0 in
        let waits = and_parts (not u.0.active && leb b.time u.0.due) (names_some u.0.what) (all_get (is_waiting b.time) s.updates i u.0 u.1 x.runs.mades.waiting) in
        absurd (true≢false (sym (and_parts (not u.0.active) (leb b.time u.0.due) waits.0).0 ∙ not_from_true u.0.active active))
    by_phase (inr x) =
        subst (λ (o : Option Update). Moment d roles set b (make s i o) ran0 late (woken_more ran (make s i o).places)) (sym u.1)
        (make_moment d roles set b s ran0 late ran apart mo.begun (λ k at_k inside_it. false≢true (out k at_k inside_it)) mo.blocks x i u.0 u.1 u.2)
inner_kept d roles set b s ran0 late ran apart Rouse inner h out mo = by_phase q.phase
  where
    a : AtRouse s
    a = at_rouse s h

    q : Moment d roles set b s ran0 true (sure roles ran)
    q = quiet_moment d roles set b s ran0 late ran a.quiet mo

    by_phase : (Before d roles b s ran0 true (sure roles ran) ⊎ LateBlocks d roles b s ran0 true (sure roles ran)) → Moment d roles set b (record s { places = map roused s.places }) ran0 true (woken_more (sure roles ran) (map roused s.places))
    by_phase (inl x) = rouse_moment d roles set b s ran0 (sure roles ran) q.begun q.blocks x
    by_phase (inr x) =
        let p = any_at is_inactive s.places a.inactive in
        absurd (elim (cases_Bool (roles.blocks p.0)) [
          | inl is ↦ block_active d (roles.inputs p.0) p.0 (text_at d roles set.z p.0 is) true (sure roles ran p.0) s.time s.store (get_or s.places p.0 ended) (q.blocks.fares p.0 is) (ap is_inactive (get_or_from_slice_get s.places p.0 p.1 ended p.2) ∙ p.3)
          | inr other ↦ not_inactive p.1 (stopped_at d roles.blocks b s x.making p.0 other p.1 p.2) p.3
        ])
inner_kept d roles set b s ran0 late ran apart Activate inner h out mo = by_phase q.phase
  where
    a : AtActivate s
    a = at_activate s h

    q : Moment d roles set b s ran0 true (sure roles ran)
    q = quiet_moment d roles set b s ran0 late ran a.quiet mo

    by_phase : (Before d roles b s ran0 true (sure roles ran) ⊎ LateBlocks d roles b s ran0 true (sure roles ran)) → Moment d roles set b (record s { updates = map (activated s.time) s.updates }) ran0 true (woken_more (sure roles ran) s.places)
    by_phase (inl x) = activate_moment d roles set b s ran0 (sure roles ran) apart q.begun (all_idle s.assigns a.quiet.assigns) a.quiet.going a.inactive q.blocks x
    by_phase (inr x) =
        let u = any_at (is_due s.time) s.updates a.due in
        let due = and_parts (not u.1.active) (u.1.due == s.time) u.3 in
        let done = (and_parts (u.1.active || ltb b.time u.1.due) (names_some u.1.what) (all_get (is_settled b.time) s.updates u.0 u.1 u.2 x.making.settled)).0 in
        absurd (elim (or_cases u.1.active (ltb b.time u.1.due) done) [
          | inl active ↦ true≢false (sym due.0 ∙ not_from_true u.1.active active)
          | inr later ↦
              let up : b.time < u.1.due = ltb-true b.time u.1.due later in
              let now : u.1.due ≡ s.time = eqb-true u.1.due s.time due.1 in
              let same : s.time ≡ b.time = x.making.slot.time in
              omega (arith, up, now, same)
        ])
inner_kept d roles set b s ran0 late ran apart EndSlot inner h out mo = absurd inner
