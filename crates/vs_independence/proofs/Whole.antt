-- Whole executions: slot by slot they are the same.
use Rattle.vs_independence.proofs.Starters.{Level, level_start}
use Rattle.vs_independence.proofs.Ends.{all_started}
use Rattle.std.proofs.Common.{Bool, ◌≡◌, ℕ, zero, suc, ◌+◌, ◌-◌, ◌<◌, ◌≤◌, ◌⊎◌, true, false, ◌&&◌, cond, filter, Some, None, List, [], ◌∷◌, ◌++◌, map, get_or, leb, ltb, ltb-true, refl, sym, ◌∙◌, ap, ap₂, subst, inl, inr, arith, append-nil, if◌then◌else◌, Option, ◌||◌, not, slice_get}
use Rattle.std.specs.List.{list_all}
use Rattle.std.proofs.lemmas.Bool.{and_right, or_cases, cases_Bool, lt-leb, true≢false, false≢true, cases_lt, and_parts, false_from_ne_true}
use Rattle.std.proofs.lemmas.List.Elements.{filter-append}
use Rattle.vs_design.specs.Parts.{Parts}
use Rattle.vs_design.specs.Traces.{Slot, Trace, SameSlot, SameSlots, SameTrace, times_in}
use Rattle.vs_design.specs.WellFormed.{WellFormed}
use Rattle.vs_process.specs.declared.moves.Grain.{Grain}
use Rattle.vs_process.specs.declared.moves.Move.{Move}
use Rattle.vs_process.specs.declared.moves.Move.TheVariants.{Step, Evaluate, Propagate, Make, Rouse, Activate, EndSlot}
use Rattle.vs_process.specs.Places.{ended, active_at, is_going, start_place, going, perform}
use Rattle.vs_process.specs.States.{State, AssignState, start, start_assign, woken_at}
use Rattle.vs_process.specs.Executions.{allowed, apply, after, Legal, after_slot, strobe_line, ended_slot, slots, is_complete, is_by, finish_time, trace, ends, is_enabled, is_free, next_time, places_at}
use Rattle.vs_process.proofs.Times.{enabled_of}
use Rattle.vs_process.proofs.ProcessLists.{map_cases}
use Rattle.vs_process.proofs.Assigns.{sound_start}
use Rattle.vs_process.proofs.WellFormed.{variable_undriven}
use Rattle.vs_process.proofs.Idle.{IsSound, after_sound}
use Rattle.vs_process.specs.Threads.{any_names, found, opening}
use Rattle.vs_independence.specs.Discipline.{here, IsAtStart, KeepsApart, Disciplined, DisciplineMakesIndependent}
use Rattle.vs_process.proofs.Threads.{thread_opens}
use Rattle.vs_independence.proofs.Running.{WithinSlot, Apart, FiringAgrees, Running, BlockBare, is_waiting, by_start, by_rest}
use Rattle.vs_process.proofs.Calls.{SameCalls, same_lines}
use Rattle.vs_independence.proofs.Making.{Making, none_get}
use Rattle.vs_independence.proofs.InnerMoves.{IsInner, inner_kept, late_after_move, ran_after_move, sure, KeepsOut}
use Rattle.vs_independence.proofs.Ends.{Ends, slot_ends, all_future, Alike, SameRan, same_calls, ends_unique, behind_alike, ends_rested}
use Rattle.vs_independence.proofs.Times.{is_later, all_from_get, later_thread, later_start, goes_on}
use Rattle.vs_process.proofs.Events.{after_heard, heard_at}
use Rattle.vs_process.proofs.ThreadLinks.{copies_start, copies_settled}
use Rattle.vs_process.specs.Edges.{shown, Copies, inverses, IsRoot}
use Rattle.vs_independence.proofs.Fire.{no_wake}
use Rattle.vs_process.proofs.Feeds.{into_named}
use Rattle.vs_independence.proofs.WellFormed.{drives_well, sound_thread}
use Rattle.vs_independence.proofs.Inner.{Before, LateBlocks, Moment, Setting}
use Rattle.vs_design.specs.declared.range.BitRange.{BitRange}
use Rattle.vs_independence.proofs.BlocksAt.{Blocked, BlocksAt, kept_out, mapped_place, text_at, woken_more}
use Rattle.vs_process.specs.BlockDrivers.{Roles, puts_out}
use Rattle.vs_process.proofs.Fares.{Fares, fares_later, fares_still, home_asleep, is_awake, or_some, fresh}
use Rattle.vs_process.specs.declared.gait.Gait.TheVariants.{Fresh}
use Rattle.vs_design.specs.declared.design.Process.{Process}
use Rattle.vs_design.specs.Stores.{Store, start_store}
use Rattle.vs_process.proofs.Texts.{Text}
use Rattle.vs_process.specs.Steps.{goes}
use Rattle.vs_process.proofs.Held.{into_puts}
use Rattle.vs_process.proofs.Outputs.{outputs_undriven}
use Rattle.vs_design.specs.vs_logic4.proofs.Basics.{or_false, map_at}
use Rattle.std.proofs.lemmas.Option.{get_or_from_slice_get}

-- the moves up to the beginning of the slot that goes on
abbrev pub cut : List Move → List Move
cut [] = []
cut (Step i ∷ moves) = cut moves
cut (Evaluate j ∷ moves) = cut moves
cut (Propagate j ∷ moves) = cut moves
cut (Make i ∷ moves) = cut moves
cut (Rouse ∷ moves) = cut moves
cut (Activate ∷ moves) = cut moves
cut (EndSlot ∷ moves) = EndSlot ∷ moves

-- how many slots have ended
abbrev pub count : List Move → ℕ
count [] = 0
count (Step i ∷ moves) = count moves
count (Evaluate j ∷ moves) = count moves
count (Propagate j ∷ moves) = count moves
count (Make i ∷ moves) = count moves
count (Rouse ∷ moves) = count moves
count (Activate ∷ moves) = count moves
count (EndSlot ∷ moves) = suc (count moves)

pub cut_legal : (grain : Grain) (d : Parts) (moves : List Move) → Legal grain d moves → Legal grain d (cut moves)
cut_legal grain d [] l = l
cut_legal grain d (Step i ∷ moves) l = cut_legal grain d moves l.0
cut_legal grain d (Evaluate j ∷ moves) l = cut_legal grain d moves l.0
cut_legal grain d (Propagate j ∷ moves) l = cut_legal grain d moves l.0
cut_legal grain d (Make i ∷ moves) l = cut_legal grain d moves l.0
cut_legal grain d (Rouse ∷ moves) l = cut_legal grain d moves l.0
cut_legal grain d (Activate ∷ moves) l = cut_legal grain d moves l.0
cut_legal grain d (EndSlot ∷ moves) l = l

pub cut_starts : (moves : List Move) → IsAtStart (cut moves)
cut_starts [] = tt
cut_starts (Step i ∷ moves) = cut_starts moves
cut_starts (Evaluate j ∷ moves) = cut_starts moves
cut_starts (Propagate j ∷ moves) = cut_starts moves
cut_starts (Make i ∷ moves) = cut_starts moves
cut_starts (Rouse ∷ moves) = cut_starts moves
cut_starts (Activate ∷ moves) = cut_starts moves
cut_starts (EndSlot ∷ moves) = tt

-- what the proof takes of a disciplined design that is well formed
pub record Fits (grain : Grain) (d : Parts) : Type 0 where
  pub formed : WellFormed d
  pub dis : Disciplined grain d

abbrev pub roles_of : (grain : Grain) (d : Parts) → Fits grain d → Roles
roles_of grain d fits = fits.dis.roles

pub setting : (grain : Grain) (d : Parts) (fits : Fits grain d) → Setting d fits.dis.roles
setting grain d fits = record {
  well = drives_well d fits.formed;
  z = record { follows = fits.dis.follows; exclusive = fits.dis.exclusive; own = λ k v is hit. outputs_undriven d fits.formed k v hit };
  order = fits.dis.ordered;
  unstarted = fits.dis.unstarted;
  starts = fits.dis.starts;
  first = fits.dis.first;
}

-- whether the first quiet moment is past, and which blocks have been woken, or start cold, behind an execution
abbrev pub is_past : List Move → Bool
is_past [] = false
is_past (m ∷ moves) = late_after_move (is_past moves) m

abbrev pub ran_after : Parts → Roles → List Move → ℕ → Bool
ran_after d roles [] = λ k. false
ran_after d roles (m ∷ moves) = ran_after_move roles (ran_after d roles moves) m (after d (m ∷ moves)).places

-- ---- the beginning of a slot

-- a block at the start of all goes
start_goes : (d : Parts) (roles : Roles) → Blocked d roles → (k : ℕ) (is : roles.blocks k ≡ true) (t : Text d k) → get_or (start d).places k ended ≡ going Fresh (perform t.process.body ∷ [])
start_goes d roles z k is t =
    get_or_from_slice_get (start d).places k (start_place t.process.body) ended (map_at (λ (p : Process). start_place p.body) d.processes k t.process t.is)
    ∙ ap (active_at Fresh) t.starts

start_blocks : (d : Parts) (roles : Roles) (z : Blocked d roles) → BlocksAt d roles z false (λ k. false) 0 (start_store d) (start d).places
start_blocks d roles z = record {
  fares = λ k is. let t = text_at d roles z k is in fresh (perform t.process.body ∷ []) (start_goes d roles z k is t) (inl refl) (λ v w n hit. refl) refl refl;
  bare = λ k v w n is hit none. refl;
  sized = refl;
}

-- where a slot begins, nothing has fired
begin_stands : (d : Parts) (blocks : ℕ → Bool) (b : State) (i : ℕ) → FiringAgrees d blocks b b.store i (opening blocks b i None)
begin_stands d blocks b i = record {
  is = thread_opens d blocks b i;
  unfired = λ none terms todo at t among. no_wake b.store b.store t refl;
  fired = λ f e. absurd (let no_way : None ≡ Some f = e in cc);
}

-- and each process that is no block is where its thread opens
begin_places : (blocks : ℕ → Bool) (b : State) (i : ℕ) → blocks i ≡ false → get_or b.places i ended ≡ found blocks b i
begin_places blocks b i other = ap (λ t. if t then ended else get_or b.places i ended) (sym other)

-- the state at the beginning of all runs
pub start_runs : (d : Parts) (roles : Roles) (z : Blocked d roles) → Running d roles.blocks (start d) (start d) (λ i. opening roles.blocks (start d) i None)
start_runs d roles z = record {
  slot = record { time = refl; over = refl; count = refl };
  sound = sound_start d;
  stands = begin_stands d roles.blocks (start d);
  places = begin_places roles.blocks (start d);
  sources = record { own = λ i v h. absurd (false≢true h); fresh = λ v undriven. inl refl };
  mades = record { made = λ i v h. absurd (false≢true h); unmade = λ v. inl refl; waiting = refl; undriven = λ v h. absurd (false≢true h) };
  asks = λ i. refl;
  finishes = record { kept = λ h. h; by_thread = λ i h. absurd (false≢true h); some = λ h. inl h };
  nets = λ j x is.
      let a = map_cases start_assign d.assigns j x is in
      inr (λ r into. by_start j r.signal x is (ap (λ (y : AssignState). y.needs) (sym a.2)) (into_named d x.target r into) (here r refl));
  bare = λ k v w n is hit none. refl;
  rests = λ k is. inr (λ r into. by_rest k r.signal is (ap is_going (start_goes d roles z k is (text_at d roles z k is))) (into_puts d k r into) (here r refl));
  edges = record {
    net = λ root m n c. inl refl;
    link = λ root m n c x is. let a = map_cases start_assign d.assigns c.link.number x is in inl (ap (λ (y : AssignState). y.pending) (sym a.2));
  };
}

start_moment : (d : Parts) (roles : Roles) (set : Setting d roles) → Moment d roles set (start d) (start d) (λ k. false) false (λ k. false)
start_moment d roles set = record {
  blocks = start_blocks d roles set.z;
  phase = inl (record {
    th = λ i. opening roles.blocks (start d) i None;
    runs = start_runs d roles set.z;
    history = record { kept = λ k is s old. old; seen = λ k is s x. absurd (false≢true x.alters); some = λ k is s run. inl run };
    era = inl (record { early = refl; begin = refl; none = λ k. refl; threads = λ i. record { count = 0; is = refl } });
    grown = λ k old. old;
    level = λ e. level_start d roles;
  });
  begun = inl refl;
}

-- the places of a slot that ends: all blocks are at their controls
next_place : (d : Parts) (inputs : List BitRange) (k : ℕ) (t : Text d k) (ran : Bool) (time : ℕ) (store : Store) (s : State) → Fares d inputs k t true ran time store (get_or s.places k ended) → get_or (after_slot s).places k ended ≡ get_or s.places k ended
next_place d inputs k t ran time store s f = by_next (ends s) (next_time s)
  where
    by_next : (over : Bool) (next : Option ℕ) → get_or (places_at over next s.places) k ended ≡ get_or s.places k ended
    by_next true next = refl
    by_next false None = refl
    by_next false (Some n) = mapped_place d inputs k t true ran time store s.places (woken_at n) refl (λ gait todo. refl) (λ terms todo. refl) f

behind_blocks : (d : Parts) (roles : Roles) (set : Setting d roles) (b s : State) (ran0 ran : ℕ → Bool) → Ends d roles set b s ran0 ran →
    BlocksAt d roles set.z true (woken_more ran (after_slot s).places) (after_slot s).time (after_slot s).store (after_slot s).places
behind_blocks d roles set b s ran0 ran e = record {
  fares = λ k is. subst (λ p. Fares d (roles.inputs k) k (text_at d roles set.z k is) true (ran k || is_awake p) (after_slot s).time s.store p)
      (sym (next_place d (roles.inputs k) k (text_at d roles set.z k is) (ran k) s.time s.store s (e.blocks.fares k is))) (at_next k is);
  bare = e.blocks.bare;
  sized = e.blocks.sized;
}
  where
    at_next : (k : ℕ) (is : roles.blocks k ≡ true) → Fares d (roles.inputs k) k (text_at d roles set.z k is) true (ran k || is_awake (get_or s.places k ended)) (after_slot s).time s.store (get_or s.places k ended)
    at_next k is =
        fares_still d (roles.inputs k) k (text_at d roles set.z k is) true (ran k) (after_slot s).time s.store (get_or s.places k ended)
        (fares_later d (roles.inputs k) k (text_at d roles set.z k is) true (ran k) s.time (after_slot s).time s.store (get_or s.places k ended) (none_get is_going s.places k ended refl e.going) (e.blocks.fares k is))

-- nor is a block awake there
behind_asleep : (d : Parts) (roles : Roles) (set : Setting d roles) (b s : State) (ran0 ran : ℕ → Bool) → Ends d roles set b s ran0 ran → (k : ℕ) → roles.blocks k ≡ true → (ran k || is_awake (get_or (after_slot s).places k ended)) ≡ ran k
behind_asleep d roles set b s ran0 ran e k is =
    let t = text_at d roles set.z k is in
    let home_is = (ends_rested d roles set b s ran0 ran e k is).at_home in
    let asleep : is_awake (get_or (after_slot s).places k ended) ≡ false = ap is_awake (next_place d (roles.inputs k) k t (ran k) s.time s.store s (e.blocks.fares k is) ∙ home_is) ∙ home_asleep d k t in
    or_false (ran k) (is_awake (get_or (after_slot s).places k ended)) asleep

pub behind_runs : (d : Parts) (roles : Roles) (set : Setting d roles) (b s : State) (ran0 ran : ℕ → Bool) → Ends d roles set b s ran0 ran → list_all (is_waiting (after_slot s).time) s.updates ≡ true →
    Running d roles.blocks (after_slot s) (after_slot s) (λ i. opening roles.blocks (after_slot s) i None)
behind_runs d roles set b s ran0 ran e waiting = record {
  slot = record { time = refl; over = refl; count = refl };
  sound = e.behind.making.sound;
  stands = begin_stands d roles.blocks (after_slot s);
  places = begin_places roles.blocks (after_slot s);
  sources = record { own = λ i v h. absurd (false≢true h); fresh = λ v undriven. inl refl };
  mades = record { made = λ i v h. absurd (false≢true h); unmade = λ v. inl refl; waiting = waiting; undriven = e.behind.making.undriven };
  asks = λ i. refl;
  finishes = record { kept = λ h. h; by_thread = λ i h. absurd (false≢true h); some = λ h. inl h };
  nets = λ j x is. inl ((e.idle j x is).0, (e.idle j x is).1, λ v w k h. refl);
  bare = e.blocks.bare;
  rests = λ k is. inl (next_place d (roles.inputs k) k (text_at d roles set.z k is) (ran k) s.time s.store s (e.blocks.fares k is) ∙ (ends_rested d roles set b s ran0 ran e k is).at_home, λ v h. refl);
  edges = record { net = λ root m n c. inl refl; link = λ root m n c x is. inl (e.idle c.link.number x is).1 };
}

behind_moment : (d : Parts) (roles : Roles) (set : Setting d roles) (b s : State) (ran0 ran : ℕ → Bool) → Ends d roles set b s ran0 ran → list_all (is_waiting (after_slot s).time) s.updates ≡ true →
    Moment d roles set (after_slot s) (after_slot s) (woken_more ran (after_slot s).places) true (woken_more ran (after_slot s).places)
behind_moment d roles set b s ran0 ran e waiting = record {
  blocks = behind_blocks d roles set b s ran0 ran e;
  phase = inl (record {
    th = λ i. opening roles.blocks (after_slot s) i None;
    runs = behind_runs d roles set b s ran0 ran e waiting;
    history = record { kept = λ k is s old. old; seen = λ k is s x. absurd (false≢true x.alters); some = λ k is s run. inl run };
    era = inr (record { is_late = refl; cold = λ k is s_k. or_some (ran k) (is_awake (get_or (after_slot s).places k ended)) (e.behind.era.cold k is s_k) });
    grown = λ k old. old;
    level = λ at_start. subst (λ (u : State). Level d roles u.store u.assigns) (sym at_start) (level_start d roles);
  });
  begun = inr (λ k is s_k. or_some (ran k) (is_awake (get_or (after_slot s).places k ended)) (all_started d roles set b s ran0 ran e k is s_k));
}

-- what holds at a moment of an execution
pub record Holds (grain : Grain) (d : Parts) (fits : Fits grain d) (moves : List Move) : Type 0 where
  pub later : list_all (is_later (after d (cut moves)).time) (after d (cut moves)).places ≡ true
  pub apart : Apart d fits.dis.roles.blocks (after d (cut moves))
  pub moment : Moment d fits.dis.roles (setting grain d fits) (after d (cut moves)) (after d moves) (ran_after d fits.dis.roles (cut moves)) (is_past moves) (ran_after d fits.dis.roles moves)

pub slot_later : (d : Parts) (roles : Roles) (set : Setting d roles) (b s : State) (ran0 ran : ℕ → Bool) → list_all (is_later b.time) b.places ≡ true → Ends d roles set b s ran0 ran → list_all (is_later s.time) s.places ≡ true
slot_later d roles set b s ran0 ran later e = all_from_get (is_later s.time) s.places ended (λ i.
    elim (cases_Bool (roles.blocks i)) [
      | inl is ↦ ap (is_later s.time) ((ends_rested d roles set b s ran0 ran e i is).at_home ∙ (text_at d roles set.z i is).home_is)
      | inr other ↦ of_process i other
    ])
  where
    m : Making d roles.blocks b s
    m = e.behind.making

    of_process : (i : ℕ) → roles.blocks i ≡ false → is_later s.time (get_or s.places i ended) ≡ true
    of_process i other =
        ap (λ t. is_later t (get_or s.places i ended)) m.slot.time
        ∙ ap (is_later b.time) (m.places i other ∙ m.runs.places i other)
        ∙ later_thread d roles.blocks b i (m.th i) later (m.runs.stands i).is

-- the processes of a slot that an execution begins
apart_in : (grain : Grain) (d : Parts) (fits : Fits grain d) → (moves : List Move) → Legal grain d moves → IsAtStart moves → BlockBare d fits.dis.roles.blocks (after d moves).store →
    ((root v : ℕ) (c : Copies d root v) → slice_get (after d moves).store v ≡ shown (inverses c) (slice_get (after d moves).store root)) →
    ((root : ℕ) → IsRoot d fits.dis.roles.blocks root → any_names (after d moves).updates root ≡ false) → Apart d fits.dis.roles.blocks (after d moves)
apart_in grain d fits moves l at_start bare level now = record {
  keeps = keeps;
  variables = λ i v th is h. record {
    undriven = variable_undriven d fits.formed v ((sound_thread d.signals d blocks b i th sound.places is).log v h);
    unwritten = λ k at_k. false_from_ne_true (puts_out d k v) (λ hit. true≢false (sym h ∙ keeps.outputs_alone i k v th is at_k hit));
  };
  variables_later = λ i v th is h. record {
    undriven = variable_undriven d fits.formed v ((sound_thread d.signals d blocks b i th sound.places is).made v h);
    unwritten = λ k at_k. false_from_ne_true (puts_out d k v) (λ hit. true≢false (sym h ∙ keeps.outputs_alone_later i k v th is at_k hit));
  };
  places = λ i th is. (sound_thread d.signals d blocks b i th sound.places is).place;
  begins = sound.assigns;
  bare = bare;
  heard = λ i th is. heard_at d blocks b i th (after_heard d moves) is;
  edges = fits.dis.edges;
  level = level;
  now = now;
}
  where
    b : State
    b = after d moves

    blocks : ℕ → Bool
    blocks = fits.dis.roles.blocks

    sound : IsSound d b
    sound = after_sound d fits.formed moves

    keeps : KeepsApart d blocks b
    keeps = fits.dis.apart b (record { moves = moves; legal = l; at_start = at_start; is = refl })

-- at grain block a block inside its run keeps others out, and at grain statement there is none
keeps_out : (grain : Grain) (d : Parts) (fits : Fits grain d) (s : State) (m : Move) → is_free grain d s m ≡ true → KeepsOut fits.dis.roles s.places m
keeps_out grain d fits s m free k is inside_it =
    kept_out d fits.dis.roles (setting grain d fits).z s m (subst (λ g. is_free g d s m ≡ true) (fits.dis.grained k is) free) k is inside_it

inner_moment : (grain : Grain) (d : Parts) (fits : Fits grain d) → (moves : List Move) → Legal grain d moves → (m : Move) → IsInner m → allowed grain d (after d moves) m ≡ true → Holds grain d fits moves →
    Moment d fits.dis.roles (setting grain d fits) (after d (cut moves)) (apply m (after d moves)) (ran_after d fits.dis.roles (cut moves)) (late_after_move (is_past moves) m)
    (ran_after_move fits.dis.roles (ran_after d fits.dis.roles moves) m (apply m (after d moves)).places)
inner_moment grain d fits moves l m inner h holds =
    let s = after d moves in
    inner_kept d fits.dis.roles (setting grain d fits) (after d (cut moves)) s (ran_after d fits.dis.roles (cut moves)) (is_past moves) (ran_after d fits.dis.roles moves)
    holds.apart m inner (enabled_of grain d s m h).1
    (keeps_out grain d fits s m (and_parts (not s.over && is_enabled s m) (is_free grain d s m) h).1) holds.moment

pub holds : (grain : Grain) (d : Parts) (fits : Fits grain d) → (moves : List Move) → Legal grain d moves → Holds grain d fits moves
holds grain d fits [] l = record { later = later_start d.processes 0; apart = apart_in grain d fits [] l tt (λ k v w n is hit none. refl) (copies_start d) (λ root is. refl); moment = start_moment d fits.dis.roles (setting grain d fits) }
holds grain d fits (Step i ∷ moves) l = let h = holds grain d fits moves l.0 in record { later = h.later; apart = h.apart; moment = inner_moment grain d fits moves l.0 (Step i) tt l.1 h }
holds grain d fits (Evaluate j ∷ moves) l = let h = holds grain d fits moves l.0 in record { later = h.later; apart = h.apart; moment = inner_moment grain d fits moves l.0 (Evaluate j) tt l.1 h }
holds grain d fits (Propagate j ∷ moves) l = let h = holds grain d fits moves l.0 in record { later = h.later; apart = h.apart; moment = inner_moment grain d fits moves l.0 (Propagate j) tt l.1 h }
holds grain d fits (Make i ∷ moves) l = let h = holds grain d fits moves l.0 in record { later = h.later; apart = h.apart; moment = inner_moment grain d fits moves l.0 (Make i) tt l.1 h }
holds grain d fits (Rouse ∷ moves) l = let h = holds grain d fits moves l.0 in record { later = h.later; apart = h.apart; moment = inner_moment grain d fits moves l.0 Rouse tt l.1 h }
holds grain d fits (Activate ∷ moves) l = let h = holds grain d fits moves l.0 in record { later = h.later; apart = h.apart; moment = inner_moment grain d fits moves l.0 Activate tt l.1 h }
holds grain d fits (EndSlot ∷ moves) l =
    let b = after d (cut moves) in
    let s = after d moves in
    let roles = fits.dis.roles in
    let set = setting grain d fits in
    let ran0 = ran_after d roles (cut moves) in
    let ran = sure roles (ran_after d roles moves) in
    let h = holds grain d fits moves l.0 in
    let e = slot_ends d roles set b s ran0 (is_past moves) (ran_after d roles moves) h.apart h.moment (enabled_of grain d s EndSlot l.1).1 in
    let g = goes_on s (slot_later d roles set b s ran0 ran h.later e) (all_future d roles set b s ran0 ran e) in
    record {
      later = g.later;
      apart = apart_in grain d fits (EndSlot ∷ moves) l tt e.blocks.bare (copies_settled d set.well s.store s.assigns e.behind.making.sound e.idle) e.behind.making.roots;
      moment = behind_moment d roles set b s ran0 ran e g.waiting;
    }

-- an execution is over, or its time is past a moment
abbrev pub IsComplete : ℕ → State → Type 0
IsComplete until s = (s.over ≡ true) ⊎ (until < s.time)

pub complete_from : (until : ℕ) (s : State) → is_complete until s ≡ true → IsComplete until s
complete_from until s h = elim (or_cases s.over (ltb until s.time) h) [
  | inl over ↦ inl over
  | inr lt ↦ inr (ltb-true until s.time lt)
]

same_slot : (grain : Grain) (d : Parts) (fits : Fits grain d) (moves : List Move) → Holds grain d fits moves → WithinSlot (after d (cut moves)) (after d moves)
same_slot grain d fits moves h = by_phase h.moment.phase
  where
    b : State
    b = after d (cut moves)

    s : State
    s = after d moves

    by_phase : (Before d fits.dis.roles b s (ran_after d fits.dis.roles (cut moves)) (is_past moves) (ran_after d fits.dis.roles moves) ⊎ LateBlocks d fits.dis.roles b s (ran_after d fits.dis.roles (cut moves)) (is_past moves) (ran_after d fits.dis.roles moves)) →
        WithinSlot b s
    by_phase (inl x) = x.runs.slot
    by_phase (inr x) = x.making.slot

complete_back : (until : ℕ) (b s : State) → WithinSlot b s → IsComplete until s → IsComplete until b
complete_back until b s same (inl over) = inl (sym same.over ∙ over)
complete_back until b s same (inr lt) = inr (subst (λ t. until < t) same.time lt)

complete_on : (until : ℕ) (b s : State) → WithinSlot b s → IsComplete until b → IsComplete until s
complete_on until b s same (inl over) = inl (same.over ∙ over)
complete_on until b s same (inr lt) = inr (subst (λ t. until < t) (sym same.time) lt)

-- no slot has ended
pub record NoSlot (d : Parts) (moves : List Move) : Type 0 where
  pub is : cut moves ≡ []
  pub none : slots d moves ≡ []
  pub counts : count moves ≡ 0

-- the last slot that ended
pub record LastSlot (d : Parts) (moves : List Move) : Type 0 where
  pub before : List Move
  pub is : cut moves ≡ EndSlot ∷ before
  pub more : slots d moves ≡ slots d before ++ ended_slot EndSlot (after d before)
  pub counts : count moves ≡ suc (count before)

-- a move that ends no slot changes none of this
inner_slot : (d : Parts) (moves longer : List Move) → cut longer ≡ cut moves → slots d longer ≡ slots d moves ++ [] → count longer ≡ count moves → (NoSlot d moves ⊎ LastSlot d moves) → NoSlot d longer ⊎ LastSlot d longer
inner_slot d moves longer is same counts (inl n) = inl (record { is = is ∙ n.is; none = same ∙ append-nil (slots d moves) ∙ n.none; counts = counts ∙ n.counts })
inner_slot d moves longer is same counts (inr l) = inr (record { before = l.before; is = is ∙ l.is; more = same ∙ append-nil (slots d moves) ∙ l.more; counts = counts ∙ l.counts })

pub last_slot : (d : Parts) (moves : List Move) → NoSlot d moves ⊎ LastSlot d moves
last_slot d [] = inl (record { is = refl; none = refl; counts = refl })
last_slot d (Step i ∷ moves) = inner_slot d moves (Step i ∷ moves) refl refl refl (last_slot d moves)
last_slot d (Evaluate j ∷ moves) = inner_slot d moves (Evaluate j ∷ moves) refl refl refl (last_slot d moves)
last_slot d (Propagate j ∷ moves) = inner_slot d moves (Propagate j ∷ moves) refl refl refl (last_slot d moves)
last_slot d (Make i ∷ moves) = inner_slot d moves (Make i ∷ moves) refl refl refl (last_slot d moves)
last_slot d (Rouse ∷ moves) = inner_slot d moves (Rouse ∷ moves) refl refl refl (last_slot d moves)
last_slot d (Activate ∷ moves) = inner_slot d moves (Activate ∷ moves) refl refl refl (last_slot d moves)
last_slot d (EndSlot ∷ moves) = inr (record { before = moves; is = refl; more = refl; counts = refl })

-- the end of the last slot was legal
pub last_legal : (grain : Grain) (d : Parts) (moves before : List Move) → Legal grain d moves → cut moves ≡ EndSlot ∷ before → Legal grain d (EndSlot ∷ before)
last_legal grain d moves before l is = subst (Legal grain d) is (cut_legal grain d moves l)

-- the state in which it ended
pub last_ends : (grain : Grain) (d : Parts) (fits : Fits grain d) → (before : List Move) → Legal grain d (EndSlot ∷ before) →
    Ends d fits.dis.roles (setting grain d fits) (after d (cut before)) (after d before) (ran_after d fits.dis.roles (cut before)) (sure fits.dis.roles (ran_after d fits.dis.roles before))
last_ends grain d fits before l =
    slot_ends d fits.dis.roles (setting grain d fits) (after d (cut before)) (after d before) (ran_after d fits.dis.roles (cut before)) (is_past before) (ran_after d fits.dis.roles before)
    (holds grain d fits before l.0).apart (holds grain d fits before l.0).moment (enabled_of grain d (after d before) EndSlot l.1).1

alike_self : (a c : State) → a ≡ c → Alike a c
alike_self a c e = subst (Alike a) e (record { store = refl; places = refl; assigns = refl; time = refl; finishing = refl; over = refl; updates = λ v. refl })

-- ---- slots that are the same, but for the order of their lines

same_slots_self : (ss : List Slot) → SameSlots ss ss
same_slots_self [] = tt
same_slots_self (s ∷ ss) = (record { time = refl; store = refl; lines = λ text. refl }, same_slots_self ss)

same_slots_back : (ss ts : List Slot) → SameSlots ss ts → SameSlots ts ss
same_slots_back [] [] h = tt
same_slots_back (a ∷ ss) (b ∷ ts) h = (record { time = sym h.0.time; store = sym h.0.store; lines = λ text. sym (h.0.lines text) }, same_slots_back ss ts h.1)
same_slots_back [] (b ∷ ts) h = absurd h
same_slots_back (a ∷ ss) [] h = absurd h

same_slots_then : (ss ts cs es : List Slot) → SameSlots ss ts → SameSlots cs es → SameSlots (ss ++ cs) (ts ++ es)
same_slots_then [] [] cs es h k = k
same_slots_then (a ∷ ss) (b ∷ ts) cs es h k = (h.0, same_slots_then ss ts cs es h.1 k)
same_slots_then [] (b ∷ ts) cs es h k = absurd h
same_slots_then (a ∷ ss) [] cs es h k = absurd h

-- a slot in front of others, where it stands at a moment or before it
abbrev kept_slot : Bool → Slot → List Slot → List Slot
kept_slot t s ss = cond t (s ∷ ss) ss

same_slots_kept : (t u : Bool) (a b : Slot) (ss ts : List Slot) → t ≡ u → SameSlot a b → SameSlots ss ts → SameSlots (kept_slot t a ss) (kept_slot u b ts)
same_slots_kept true true a b ss ts e h k = (h, k)
same_slots_kept false false a b ss ts e h k = k
same_slots_kept true false a b ss ts e h k = cc
same_slots_kept false true a b ss ts e h k = cc

-- so are those to a moment
same_slots_by : (until : ℕ) (ss ts : List Slot) → SameSlots ss ts → SameSlots (filter (is_by until) ss) (filter (is_by until) ts)
same_slots_by until [] [] h = tt
same_slots_by until (a ∷ ss) (b ∷ ts) h =
    same_slots_kept (is_by until a) (is_by until b) a b (filter (is_by until) ss) (filter (is_by until) ts) (ap (λ n. leb n until) h.0.time) h.0 (same_slots_by until ss ts h.1)
same_slots_by until [] (b ∷ ts) h = absurd h
same_slots_by until (a ∷ ss) [] h = absurd h

-- the slots that two such states end, where each process made the same calls
same_ended : (s t : State) → Alike s t → SameCalls s.calls t.calls → SameSlots (ended_slot EndSlot s) (ended_slot EndSlot t)
same_ended s t al calls = (
  record {
    time = al.time;
    store = al.store;
    lines = λ text.
        same_lines s.store s.time text s.calls t.calls calls
        ∙ ap₂ (λ a n. times_in text (map (λ c. strobe_line c a n) t.calls)) al.store al.time;
  },
  tt,
)

-- executions in which as many slots have ended: the last of them ended alike, the same blocks were woken, and all gave the same
pub record SameSoFar (d : Parts) (roles : Roles) (xs ys : List Move) : Type 0 where
  pub alike : Alike (after d (cut xs)) (after d (cut ys))
  pub ran : SameRan roles (ran_after d roles (cut xs)) (ran_after d roles (cut ys))
  pub slots : SameSlots (slots d xs) (slots d ys)

pub same_so_far : (grain : Grain) (d : Parts) (fits : Fits grain d) → (n : ℕ) (xs ys : List Move) → Legal grain d xs → Legal grain d ys → count xs ≡ n → count ys ≡ n → SameSoFar d fits.dis.roles xs ys
same_so_far grain d fits zero xs ys lx ly cx cy = start_cases (last_slot d xs) (last_slot d ys)
  where
    start_cases : (NoSlot d xs ⊎ LastSlot d xs) → (NoSlot d ys ⊎ LastSlot d ys) → SameSoFar d fits.dis.roles xs ys
    start_cases (inr x) other = absurd (let e : suc (count x.before) ≡ 0 = sym x.counts ∙ cx in omega (arith, e))
    start_cases (inl x) (inr y) = absurd (let e : suc (count y.before) ≡ 0 = sym y.counts ∙ cy in omega (arith, e))
    start_cases (inl x) (inl y) = record {
      alike = alike_self (after d (cut xs)) (after d (cut ys)) (ap (after d) (x.is ∙ sym y.is));
      ran = λ k is. ap (λ l. ran_after d fits.dis.roles l k) (x.is ∙ sym y.is);
      slots = subst (λ l. SameSlots (slots d xs) l) (x.none ∙ sym y.none) (same_slots_self (slots d xs));
    }
same_so_far grain d fits (suc n) xs ys lx ly cx cy = step_cases (same_so_far grain d fits n) (last_slot d xs) (last_slot d ys)
  where
    roles : Roles
    roles = fits.dis.roles

    set : Setting d fits.dis.roles
    set = setting grain d fits

    step_cases : ((xs ys : List Move) → Legal grain d xs → Legal grain d ys → count xs ≡ n → count ys ≡ n → SameSoFar d fits.dis.roles xs ys) →
        (NoSlot d xs ⊎ LastSlot d xs) → (NoSlot d ys ⊎ LastSlot d ys) → SameSoFar d fits.dis.roles xs ys
    step_cases below (inl x) other = absurd (let e : 0 ≡ suc n = sym x.counts ∙ cx in omega (arith, e))
    step_cases below (inr x) (inl y) = absurd (let e : 0 ≡ suc n = sym y.counts ∙ cy in omega (arith, e))
    step_cases below (inr x) (inr y) =
        let kx = last_legal grain d xs x.before lx x.is in
        let ky = last_legal grain d ys y.before ly y.is in
        let nx : count x.before ≡ n = let e : suc (count x.before) ≡ suc n = sym x.counts ∙ cx in omega (arith, e) in
        let ny : count y.before ≡ n = let e : suc (count y.before) ≡ suc n = sym y.counts ∙ cy in omega (arith, e) in
        let r = below x.before y.before kx.0 ky.0 nx ny in
        let ex = last_ends grain d fits x.before kx in
        let ey = last_ends grain d fits y.before ky in
        let bx = after d (cut x.before) in
        let by = after d (cut y.before) in
        let sx = after d x.before in
        let sy = after d y.before in
        let px = ran_after d roles (cut x.before) in
        let py = ran_after d roles (cut y.before) in
        let qx = sure roles (ran_after d roles x.before) in
        let qy = sure roles (ran_after d roles y.before) in
        let al = ends_unique d roles set bx by sx sy px py qx qy (holds grain d fits x.before kx.0).apart (holds grain d fits y.before ky.0).apart r.alike r.ran ex ey in
        let next = behind_alike d roles set bx by sx sy px py qx qy ex ey al.0 in
        let more : SameRan roles (ran_after d roles (EndSlot ∷ x.before)) (ran_after d roles (EndSlot ∷ y.before)) =
        λ k is. behind_asleep d roles set bx sx px qx ex k is ∙ al.1 k is ∙ sym (behind_asleep d roles set by sy py qy ey k is) in
        record {
          alike = subst (λ l. Alike (after d l) (after d (cut ys))) (sym x.is) (subst (λ l. Alike (after d (EndSlot ∷ x.before)) (after d l)) (sym y.is) next);
          ran = subst (λ l. SameRan roles (ran_after d roles l) (ran_after d roles (cut ys))) (sym x.is) (subst (λ l. SameRan roles (ran_after d roles (EndSlot ∷ x.before)) (ran_after d roles l)) (sym y.is) more);
          slots = subst (λ l. SameSlots l (slots d ys)) (sym x.more) (subst (λ l. SameSlots (slots d x.before ++ ended_slot EndSlot (after d x.before)) l) (sym y.more)
              (same_slots_then (slots d x.before) (slots d y.before) (ended_slot EndSlot (after d x.before)) (ended_slot EndSlot (after d y.before)) r.slots
              (same_ended sx sy al.0 (same_calls d roles.blocks bx by sx sy set.well (holds grain d fits x.before kx.0).apart r.alike ex.behind.making ey.behind.making))));
        }

-- a slot past the moment is left out
past_left_out : (until : ℕ) (s : State) → until < s.time → filter (is_by until) (ended_slot EndSlot s) ≡ []
past_left_out until s lt = ap (λ b. cond b (ended_slot EndSlot s) []) (lt-leb s.time until lt)

-- so is its end of all
finish_past : (until : ℕ) (s : State) → until < s.time → finish_time until s ≡ None
finish_past until s lt = ap (λ b. if b then Some s.time else None) (and_right (s.over && s.finishing) (leb s.time until) (lt-leb s.time until lt))

finish_alike : (until : ℕ) (s t : State) → Alike s t → finish_time until s ≡ finish_time until t
finish_alike until s t al =
    ap (λ o. if o && s.finishing && leb s.time until then Some s.time else None) al.over
    ∙ ap (λ f. if t.over && f && leb s.time until then Some s.time else None) al.finishing
    ∙ ap (λ n. if t.over && t.finishing && leb n until then Some n else None) al.time

not_over : (until : ℕ) (s : State) → s.over ≡ false → finish_time until s ≡ None
not_over until s h = ap (λ o. if o && s.finishing && leb s.time until then Some s.time else None) h

-- where all is over, the last move ended a slot
inner_not_over : (grain : Grain) (d : Parts) → Fits grain d → (m : Move) (moves : List Move) → Legal grain d (m ∷ moves) → cut (m ∷ moves) ≡ cut moves → (after d (m ∷ moves)).over ≡ true → ⊥
inner_not_over grain d dis m moves l same over =
    let here = same_slot grain d dis (m ∷ moves) (holds grain d dis (m ∷ moves) l) in
    let before = same_slot grain d dis moves (holds grain d dis moves l.0) in
    true≢false (sym over ∙ here.over ∙ ap (λ l. (after d l).over) same ∙ sym before.over ∙ (enabled_of grain d (after d moves) m l.1).0)

over_cut : (grain : Grain) (d : Parts) → Fits grain d → (moves : List Move) → Legal grain d moves → (after d moves).over ≡ true → cut moves ≡ moves
over_cut grain d dis [] l over = refl
over_cut grain d dis (Step i ∷ moves) l over = absurd (inner_not_over grain d dis (Step i) moves l refl over)
over_cut grain d dis (Evaluate j ∷ moves) l over = absurd (inner_not_over grain d dis (Evaluate j) moves l refl over)
over_cut grain d dis (Propagate j ∷ moves) l over = absurd (inner_not_over grain d dis (Propagate j) moves l refl over)
over_cut grain d dis (Make i ∷ moves) l over = absurd (inner_not_over grain d dis (Make i) moves l refl over)
over_cut grain d dis (Rouse ∷ moves) l over = absurd (inner_not_over grain d dis Rouse moves l refl over)
over_cut grain d dis (Activate ∷ moves) l over = absurd (inner_not_over grain d dis Activate moves l refl over)
over_cut grain d dis (EndSlot ∷ moves) l over = refl

-- within a slot nothing of the end of all changes
finish_cut : (grain : Grain) (d : Parts) → Fits grain d → (until : ℕ) (moves : List Move) → Legal grain d moves → finish_time until (after d moves) ≡ finish_time until (after d (cut moves))
finish_cut grain d dis until moves l =
    elim (cases_Bool (after d moves).over) [
      | inl over ↦ ap (λ m. finish_time until (after d m)) (sym (over_cut grain d dis moves l over))
      | inr goes ↦
          let same = same_slot grain d dis moves (holds grain d dis moves l) in
          not_over until (after d moves) goes ∙ sym (not_over until (after d (cut moves)) (sym same.over ∙ goes))
    ]

complete_alike : (until : ℕ) (s t : State) → Alike s t → IsComplete until s → IsComplete until t
complete_alike until s t al (inl over) = inl (sym al.over ∙ over)
complete_alike until s t al (inr lt) = inr (subst (λ n. until < n) al.time lt)

-- to a moment, two executions are the same
pub record SameTo (d : Parts) (until : ℕ) (xs ys : List Move) : Type 0 where
  pub complete : IsComplete until (after d ys)
  pub finish : finish_time until (after d ys) ≡ finish_time until (after d xs)
  pub slots : SameSlots (filter (is_by until) (slots d ys)) (filter (is_by until) (slots d xs))

-- an execution in which more slots have ended than in one that is complete to a moment: it is complete too, and the further slots are past it
pub further : (grain : Grain) (d : Parts) → Fits grain d → (until : ℕ) (xs : List Move) → Legal grain d xs → IsComplete until (after d xs) → (k : ℕ) (ys : List Move) → Legal grain d ys → count ys ≡ count xs + k →
    SameTo d until xs ys
further grain d dis until xs lx complete zero ys ly c =
    let n : count ys ≡ count xs = omega (arith, c) in
    let r = same_so_far grain d dis (count xs) xs ys lx ly refl n in
    let at_x = same_slot grain d dis xs (holds grain d dis xs lx) in
    let at_y = same_slot grain d dis ys (holds grain d dis ys ly) in
    record {
      complete = complete_on until (after d (cut ys)) (after d ys) at_y (complete_alike until (after d (cut xs)) (after d (cut ys)) r.alike (complete_back until (after d (cut xs)) (after d xs) at_x complete));
      finish = finish_cut grain d dis until ys ly ∙ sym (finish_alike until (after d (cut xs)) (after d (cut ys)) r.alike) ∙ sym (finish_cut grain d dis until xs lx);
      slots = same_slots_by until (slots d ys) (slots d xs) (same_slots_back (slots d xs) (slots d ys) r.slots);
    }
further grain d dis until xs lx complete (suc k) ys ly c = step_cases (further grain d dis until xs lx complete k) (last_slot d ys)
  where
    at_past : (y : LastSlot d ys) → Legal grain d (EndSlot ∷ y.before) → IsComplete until (after d y.before) → SameTo d until xs y.before → SameTo d until xs ys
    at_past y ky (inl over) same = absurd (true≢false (sym over ∙ (enabled_of grain d (after d y.before) EndSlot ky.1).0))
    at_past y ky (inr lt) same =
        let s = after d y.before in
        let h = holds grain d dis y.before ky.0 in
        let e = last_ends grain d dis y.before ky in
        let roles = dis.dis.roles in
        let set = setting grain d dis in
        let ran0 = ran_after d roles (cut y.before) in
        let ran = sure roles (ran_after d roles y.before) in
        let g = goes_on s (slot_later d roles set (after d (cut y.before)) s ran0 ran h.later e) (all_future d roles set (after d (cut y.before)) s ran0 ran e) in
        let at_y = same_slot grain d dis ys (holds grain d dis ys ly) in
        let up : s.time ≤ (after_slot s).time = g.up in
        let next : until < (after_slot s).time = omega (arith, up, lt) in
        let past : until < (after d ys).time = subst (λ n. until < n) (ap (λ l. (after d l).time) (sym y.is) ∙ sym at_y.time) next in
        record {
          complete = inr past;
          finish = finish_past until (after d ys) past ∙ sym (finish_past until s lt) ∙ same.finish;
          slots = subst (λ l. SameSlots l (filter (is_by until) (slots d xs)))
              (sym (ap (filter (is_by until)) y.more ∙ filter-append (is_by until) (slots d y.before) (ended_slot EndSlot s)
              ∙ ap (λ l. filter (is_by until) (slots d y.before) ++ l) (past_left_out until s lt) ∙ append-nil (filter (is_by until) (slots d y.before))))
              same.slots;
        }

    step_cases : ((ys : List Move) → Legal grain d ys → count ys ≡ count xs + k → SameTo d until xs ys) → (NoSlot d ys ⊎ LastSlot d ys) → SameTo d until xs ys
    step_cases below (inl y) = absurd (let e : 0 ≡ count xs + suc k = sym y.counts ∙ c in omega (arith, e))
    step_cases below (inr y) =
        let ky = last_legal grain d ys y.before ly y.is in
        let ny : count y.before ≡ count xs + k = let e : suc (count y.before) ≡ count xs + suc k = sym y.counts ∙ c in omega (arith, e) in
        let r = below y.before ky.0 ny in
        at_past y ky r.complete r

same_trace : (d : Parts) (until : ℕ) (xs ys : List Move) → SameTo d until xs ys → SameTrace (trace d ys until) (trace d xs until)
same_trace d until xs ys same = record { slots = same.slots; finish = same.finish }

same_trace_back : (a c : Trace) → SameTrace a c → SameTrace c a
same_trace_back a c h = record { slots = same_slots_back a.slots c.slots h.slots; finish = sym h.finish }

same_traces : (grain : Grain) (d : Parts) → Fits grain d → (until : ℕ) (xs ys : List Move) → Legal grain d xs → Legal grain d ys → IsComplete until (after d xs) → IsComplete until (after d ys) → SameTrace (trace d xs until) (trace d ys until)
same_traces grain d dis until xs ys lx ly cx cy =
    elim (cases_lt (count xs) (count ys)) [
      | inl lt ↦ same_trace_back (trace d ys until) (trace d xs until) (same_trace d until xs ys (further grain d dis until xs lx cx (count ys - count xs) ys ly (omega (arith, lt))))
      | inr le ↦ same_trace d until ys xs (further grain d dis until ys ly cy (count xs - count ys) xs lx (omega (arith, le)))
    ]

-- the theorem
pub independent : DisciplineMakesIndependent
independent grain d formed dis until xs ys lx ly cx cy =
    same_traces grain d (record { formed = formed; dis = dis }) until xs ys lx ly (complete_from until (after d xs) cx) (complete_from until (after d ys) cy)
