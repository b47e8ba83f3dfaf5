-- Slot by slot, an execution begins as the rules say, and its processes keep apart: where a process sleeps that was fired before rests on the slot
-- in which it was fired.
use Rattle.std.proofs.Common.{◌≡◌, ℕ, Bool, true, false, Option, Some, None, List, [], ◌∷◌, ◌&&◌, not, get_or, slice_get, refl, sym, ◌∙◌, ap, subst, inl, inr}
use Rattle.std.specs.List.{list_all}
use Rattle.std.proofs.lemmas.Bool.{and_parts, false_from_ne_true, true≢false}
use Rattle.std.proofs.lemmas.Option.{get_or_from_slice_get}
use Rattle.vs_design.specs.declared.design.Process.{Process}
use Rattle.vs_design.specs.Parts.{Parts}
use Rattle.vs_design.specs.WellFormed.{WellFormed}
use Rattle.vs_process.specs.declared.gait.Gait.TheVariants.{Fresh}
use Rattle.vs_process.specs.Places.{perform, ended, active_at, is_going, start_place}
use Rattle.vs_independence.specs.vs_process.specs.declared.moves.Grain.{Grain}
use Rattle.vs_independence.specs.vs_process.specs.declared.moves.Grain.TheVariants.{Block}
use Rattle.vs_independence.specs.vs_process.specs.declared.moves.Move.{Move}
use Rattle.vs_independence.specs.vs_process.specs.declared.moves.Move.TheVariants.{Step, Evaluate, Propagate, Make, Rouse, Activate, EndSlot}
use Rattle.vs_independence.specs.vs_process.specs.States.{State, start, woken_at}
use Rattle.vs_independence.specs.vs_process.specs.Executions.{after as reached, Legal, ends, is_enabled, is_free, next_time, after_slot, places_at, time_at}
use Rattle.vs_independence.specs.vs_process.proofs.Idle.{IsSound, after_sound}
use Rattle.vs_independence.specs.vs_process.proofs.Times.{enabled_of}
use Rattle.vs_independence.specs.vs_process.proofs.WellFormed.{variable_undriven}
use Rattle.vs_rules.specs.vs_process.specs.BlockDrivers.{IsSource as IsFree, puts_out}
use Rattle.vs_rules.specs.vs_process.specs.Edges.{Copies, IsHeard, IsRoot, inverses, shown}
use Rattle.vs_rules.specs.vs_process.specs.Threads.{Thread, any_names, opening}
use Rattle.vs_rules.specs.vs_process.proofs.Events.{after_heard, heard_at}
use Rattle.vs_rules.specs.vs_process.proofs.Fares.{fares_later, fresh, is_awake, or_some}
use Rattle.vs_rules.specs.vs_process.proofs.ThreadLinks.{copies_settled, copies_start}
use Rattle.vs_independence.specs.Discipline.{IsAtStart, BeginsSlot, KeepsApart}
use Rattle.vs_independence.proofs.BlocksAt.{BlocksAt, blocks_mapped, blocks_still, kept_out, text_at, woken_more}
use Rattle.vs_independence.proofs.Ends.{Ends, all_future, all_started, slot_ends}
use Rattle.vs_independence.proofs.Inner.{Moment, Setting}
use Rattle.vs_independence.proofs.InnerMoves.{IsInner, KeepsOut, at_end, inner_kept, late_after_move, sure}
use Rattle.vs_independence.proofs.Making.{Making, none_get}
use Rattle.vs_independence.proofs.Running.{Apart, BlockBare, is_waiting}
use Rattle.vs_independence.proofs.Starters.{Level, level_start}
use Rattle.vs_independence.proofs.Times.{goes_on, is_later, later_start}
use Rattle.vs_independence.proofs.WellFormed.{sound_thread}
use Rattle.vs_independence.proofs.Whole.{behind_runs, cut, ran_after, slot_later, start_runs}
use Rattle.vs_rules.specs.Claims.{Claims, blocks_of, IsSequential}
use Rattle.vs_rules.specs.Verdict.{Keeping}
use Rattle.vs_design.specs.vs_logic4.proofs.Basics.{map_at}
use Rattle.vs_independence.specs.RuleLaws.{ClockTurns, TimeRises, roles_of}
use Rattle.vs_independence.proofs.Apart.{keeps_apart}
use Rattle.vs_independence.proofs.Begins.{begun_at, first_begun}
use Rattle.vs_independence.proofs.Beginning.{next_beginning}
use Rattle.vs_independence.proofs.RulesFire.{Begun, not_block}
use Rattle.vs_independence.proofs.Heard.{heard_stands}
use Rattle.vs_independence.proofs.Phases.{clock_turns}
use Rattle.vs_independence.proofs.Shapes.{control_names}
use Rattle.vs_independence.proofs.Threads.{thread_walks}
use Rattle.vs_independence.proofs.Walks.{IsAtPlace}

-- what the rules give of a design before any slot but the first is known
pub record Static (grain : Grain) (d : Parts) (c : Claims) : Type 0 where
  pub formed : WellFormed d
  pub rules : Keeping d c
  pub up : TimeRises grain d
  pub set : Setting d (roles_of d c)
  pub grained : (k : ℕ) → blocks_of d c k ≡ true → grain ≡ Block
  pub edges : (v : ℕ) → IsHeard d (blocks_of d c) v → (root : ℕ) × Copies d root v × IsFree d (blocks_of d c) root

pub clocks_at : (grain : Grain) (d : Parts) (c : Claims) → Static grain d c → (moves : List Move) → Legal grain d moves → IsAtStart moves → ClockTurns d c (reached d moves)
clocks_at grain d c h moves l at_start = clock_turns grain d c h.formed h.rules h.up (reached d moves) (record { moves = moves; legal = l; at_start = at_start; is = refl })

-- ---- what holds where a slot begins, and at a moment of it

pub record Begins (d : Parts) (c : Claims) (moves : List Move) : Type 0 where
  pub later : list_all (is_later (reached d moves).time) (reached d moves).places ≡ true
  pub begun : Begun d c (reached d moves)
  pub apart : Apart d (blocks_of d c) (reached d moves)

-- of the slot that began after the first of these moves
record Held (grain : Grain) (d : Parts) (c : Claims) (h : Static grain d c) (first moves : List Move) : Type 0 where
  legal : Legal grain d first
  at_start : IsAtStart first
  begins : Begins d c first
  late : Bool
  moment : Moment d (roles_of d c) h.set (reached d first) (reached d moves) (ran_after d (roles_of d c) first) late (ran_after d (roles_of d c) moves)

-- ---- the beginning of a slot

apart_at : (grain : Grain) (d : Parts) (c : Claims) → Static grain d c → (moves : List Move) → Legal grain d moves → IsAtStart moves → Begun d c (reached d moves) → BlockBare d (blocks_of d c) (reached d moves).store →
    ((root v : ℕ) (copies : Copies d root v) → slice_get (reached d moves).store v ≡ shown (inverses copies) (slice_get (reached d moves).store root)) →
    ((root : ℕ) → IsRoot d (blocks_of d c) root → any_names (reached d moves).updates root ≡ false) → Apart d (blocks_of d c) (reached d moves)
apart_at grain d c h moves l at_start begun bare level now = record {
  keeps = keeps;
  variables = λ i v th is w. record {
    undriven = variable_undriven d h.formed v ((sound_thread d.signals d blocks b i th sound.places is).log v w);
    unwritten = λ k at_k. false_from_ne_true (puts_out d k v) (λ hit. true≢false (sym w ∙ keeps.outputs_alone i k v th is at_k hit));
  };
  variables_later = λ i v th is w. record {
    undriven = variable_undriven d h.formed v ((sound_thread d.signals d blocks b i th sound.places is).made v w);
    unwritten = λ k at_k. false_from_ne_true (puts_out d k v) (λ hit. true≢false (sym w ∙ keeps.outputs_alone_later i k v th is at_k hit));
  };
  places = λ i th is. (sound_thread d.signals d blocks b i th sound.places is).place;
  begins = sound.assigns;
  bare = bare;
  heard = λ i th is. heard_at d blocks b i th (after_heard d moves) is;
  edges = h.edges;
  level = level;
  now = now;
}
  where
    b : State
    b = reached d moves

    blocks : ℕ → Bool
    blocks = blocks_of d c

    sound : IsSound d b
    sound = after_sound d h.formed moves

    keeps : KeepsApart d blocks b
    keeps = keeps_apart d c b begun (clocks_at grain d c h moves l at_start) (control_names d c h.rules.blocks) (heard_stands d)

-- the first one
first_begins : (grain : Grain) (d : Parts) (c : Claims) → Static grain d c → Begins d c []
first_begins grain d c h =
    let begun = first_begun grain d c h.formed h.rules in
    record { later = later_start d.processes 0; begun = begun; apart = apart_at grain d c h [] tt tt begun (λ k v w n is hit none. refl) (copies_start d) (λ root is. refl) }

first_held : (grain : Grain) (d : Parts) (c : Claims) (h : Static grain d c) → Held grain d c h [] []
first_held grain d c h = record {
  legal = tt;
  at_start = tt;
  begins = first_begins grain d c h;
  late = false;
  moment = record {
    blocks = record {
      fares = λ k is.
          let t = text_at d (roles_of d c) h.set.z k is in
          fresh (perform t.process.body ∷ [])
          (get_or_from_slice_get (start d).places k (start_place t.process.body) ended (map_at (λ (p : Process). start_place p.body) d.processes k t.process t.is) ∙ ap (active_at Fresh) t.starts)
          (inl refl) (λ v w n hit. refl) refl refl;
      bare = λ k v w n is hit none. refl;
      sized = refl;
    };
    phase = inl (record {
      th = λ i. opening (blocks_of d c) (start d) i None;
      runs = start_runs d (roles_of d c) h.set.z;
      history = record { kept = λ k is s old. old; seen = λ k is s x. absurd (true≢false (sym x.alters)); some = λ k is s run. inl run };
      era = inl (record { early = refl; begin = refl; none = λ k. refl; threads = λ i. record { count = 0; is = refl } });
      grown = λ k old. old;
      level = λ e. level_start d (roles_of d c);
    });
    begun = inl refl;
  };
}

-- where a slot ends, each process is where a thread of it is, and so stands as the rules say
ends_stand : (d : Parts) (c : Claims) (b s : State) → Begun d c b → ClockTurns d c b → Making d (blocks_of d c) b s → (i : ℕ) → IsSequential d c i → IsAtPlace d c i s.time (get_or s.places i ended)
ends_stand d c b s g clocks m i seq =
    subst (λ t. IsAtPlace d c i t (get_or s.places i ended)) (sym m.slot.time)
    (subst (IsAtPlace d c i b.time) (sym (m.places i (not_block d c i seq) ∙ m.runs.places i (not_block d c i seq))) (elim (thread_walks d c b g clocks i (m.th i) (m.runs.stands i).is) [
      | inl walking ↦ walking.walked.stands
      | inr idle ↦ subst (IsAtPlace d c i b.time) (sym (ap (λ (t : Thread). t.place) idle.0 ∙ idle.1)) tt
    ]))

-- its blocks are at their controls
behind_blocks : (d : Parts) (c : Claims) (set : Setting d (roles_of d c)) (b s : State) (ran0 ran : ℕ → Bool) → Ends d (roles_of d c) set b s ran0 ran →
    BlocksAt d (roles_of d c) set.z true (woken_more ran (after_slot s).places) (after_slot s).time (after_slot s).store (after_slot s).places
behind_blocks d c set b s ran0 ran e = at_next (ends s) (next_time s)
  where
    later : (time : ℕ) → BlocksAt d (roles_of d c) set.z true ran time s.store s.places
    later time = record {
      fares = λ k is. fares_later d ((roles_of d c).inputs k) k (text_at d (roles_of d c) set.z k is) true (ran k) s.time time s.store (get_or s.places k ended) (none_get is_going s.places k ended refl e.going) (e.blocks.fares k is);
      bare = e.blocks.bare;
      sized = e.blocks.sized;
    }

    at_next : (over : Bool) (next : Option ℕ) → BlocksAt d (roles_of d c) set.z true (woken_more ran (places_at over next s.places)) (time_at over next s.time) s.store (places_at over next s.places)
    at_next true next = blocks_still d (roles_of d c) set.z true ran s.time s.store s.places e.blocks
    at_next false None = blocks_still d (roles_of d c) set.z true ran s.time s.store s.places e.blocks
    at_next false (Some t) = blocks_mapped d (roles_of d c) set.z true ran t s.store s.places (woken_at t) refl (λ gait todo. refl) (λ terms todo. refl) (later t)

behind_moment : (d : Parts) (c : Claims) (set : Setting d (roles_of d c)) (b s : State) (ran0 ran : ℕ → Bool) → Ends d (roles_of d c) set b s ran0 ran → list_all (is_waiting (after_slot s).time) s.updates ≡ true →
    Moment d (roles_of d c) set (after_slot s) (after_slot s) (woken_more ran (after_slot s).places) true (woken_more ran (after_slot s).places)
behind_moment d c set b s ran0 ran e waiting = record {
  blocks = behind_blocks d c set b s ran0 ran e;
  phase = inl (record {
    th = λ i. opening (blocks_of d c) (after_slot s) i None;
    runs = behind_runs d (roles_of d c) set b s ran0 ran e waiting;
    history = record { kept = λ k is s old. old; seen = λ k is s x. absurd (true≢false (sym x.alters)); some = λ k is s run. inl run };
    era = inr (record { is_late = refl; cold = λ k is s_k. awake k (e.behind.era.cold k is s_k) });
    grown = λ k old. old;
    level = λ at_start. subst (λ (u : State). Level d (roles_of d c) u.store u.assigns) (sym at_start) (level_start d (roles_of d c));
  });
  begun = inr (λ k is s_k. awake k (all_started d (roles_of d c) set b s ran0 ran e k is s_k));
}
  where
    awake : (k : ℕ) → ran k ≡ true → woken_more ran (after_slot s).places k ≡ true
    awake k = or_some (ran k) (is_awake (get_or (after_slot s).places k ended))

-- the slot behind one that ends
ends_held : (grain : Grain) (d : Parts) (c : Claims) (h : Static grain d c) (first moves : List Move) → Legal grain d (EndSlot ∷ moves) → Held grain d c h first moves → Held grain d c h (EndSlot ∷ moves) (EndSlot ∷ moves)
ends_held grain d c h first moves l x =
    let roles = roles_of d c in
    let b = reached d first in
    let s = reached d moves in
    let ran0 = ran_after d roles first in
    let ran = sure roles (ran_after d roles moves) in
    let up = (enabled_of grain d s EndSlot l.1).1 in
    let e = slot_ends d roles h.set b s ran0 x.late (ran_after d roles moves) x.begins.apart x.moment up in
    let g = goes_on s (slot_later d roles h.set b s ran0 ran x.begins.later e) (all_future d roles h.set b s ran0 ran e) in
    let begun = begun_at grain d c h.formed h.rules (EndSlot ∷ moves) l tt
    (next_beginning d c s (at_end s up) (λ t is. h.up moves t l is)
    (ends_stand d c b s x.begins.begun (clocks_at grain d c h first x.legal x.at_start) e.behind.making)) in
    record {
      legal = l;
      at_start = tt;
      begins = record {
        later = g.later;
        begun = begun;
        apart = apart_at grain d c h (EndSlot ∷ moves) l tt begun e.blocks.bare (copies_settled d h.set.well s.store s.assigns e.behind.making.sound e.idle) e.behind.making.roots;
      };
      late = true;
      moment = behind_moment d c h.set b s ran0 ran e g.waiting;
    }

-- ---- all executions

-- a move within a slot
inner_held : (grain : Grain) (d : Parts) (c : Claims) (h : Static grain d c) (first : List Move) (m : Move) (moves : List Move) → IsInner m → Legal grain d (m ∷ moves) → Held grain d c h first moves → Held grain d c h first (m ∷ moves)
inner_held grain d c h first m moves inner l x = record {
  legal = x.legal;
  at_start = x.at_start;
  begins = x.begins;
  late = late_after_move x.late m;
  moment = inner_kept d (roles_of d c) h.set (reached d first) s (ran_after d (roles_of d c) first) x.late (ran_after d (roles_of d c) moves) x.begins.apart m inner (enabled_of grain d s m l.1).1 out x.moment;
}
  where
    s : State
    s = reached d moves

    -- at grain block a block inside its run keeps others out, and at grain statement there is none
    out : KeepsOut (roles_of d c) s.places m
    out k is = kept_out d (roles_of d c) h.set.z s m (subst (λ g. is_free g d s m ≡ true) (h.grained k is) (and_parts (not s.over && is_enabled s m) (is_free grain d s m) l.1).1) k is

held : (grain : Grain) (d : Parts) (c : Claims) (h : Static grain d c) (moves : List Move) → Legal grain d moves → Held grain d c h (cut moves) moves
held grain d c h [] l = first_held grain d c h
held grain d c h (Step i ∷ moves) l = inner_held grain d c h (cut moves) (Step i) moves tt l (held grain d c h moves l.0)
held grain d c h (Evaluate j ∷ moves) l = inner_held grain d c h (cut moves) (Evaluate j) moves tt l (held grain d c h moves l.0)
held grain d c h (Propagate j ∷ moves) l = inner_held grain d c h (cut moves) (Propagate j) moves tt l (held grain d c h moves l.0)
held grain d c h (Make i ∷ moves) l = inner_held grain d c h (cut moves) (Make i) moves tt l (held grain d c h moves l.0)
held grain d c h (Rouse ∷ moves) l = inner_held grain d c h (cut moves) Rouse moves tt l (held grain d c h moves l.0)
held grain d c h (Activate ∷ moves) l = inner_held grain d c h (cut moves) Activate moves tt l (held grain d c h moves l.0)
held grain d c h (EndSlot ∷ moves) l = ends_held grain d c h (cut moves) moves l (held grain d c h moves l.0)

-- each slot that an execution begins
begins_at : (grain : Grain) (d : Parts) (c : Claims) → Static grain d c → (moves : List Move) → Legal grain d moves → IsAtStart moves → Begins d c moves
begins_at grain d c h [] l a = (held grain d c h [] l).begins
begins_at grain d c h (Step i ∷ moves) l a = absurd a
begins_at grain d c h (Evaluate j ∷ moves) l a = absurd a
begins_at grain d c h (Propagate j ∷ moves) l a = absurd a
begins_at grain d c h (Make i ∷ moves) l a = absurd a
begins_at grain d c h (Rouse ∷ moves) l a = absurd a
begins_at grain d c h (Activate ∷ moves) l a = absurd a
begins_at grain d c h (EndSlot ∷ moves) l a = (held grain d c h (EndSlot ∷ moves) l).begins

pub begun : (grain : Grain) (d : Parts) (c : Claims) → Static grain d c → (b : State) → BeginsSlot grain d b → Begun d c b
begun grain d c h b slot = subst (Begun d c) slot.is (begins_at grain d c h slot.moves slot.legal slot.at_start).begun

-- the static half for a slot: a well formed design that keeps the rules keeps its processes apart in every slot that an execution begins
pub rules_keep_apart : (grain : Grain) (d : Parts) (c : Claims) → Static grain d c → (b : State) → BeginsSlot grain d b → KeepsApart d (blocks_of d c) b
rules_keep_apart grain d c h b slot = subst (KeepsApart d (blocks_of d c)) slot.is (begins_at grain d c h slot.moves slot.legal slot.at_start).apart.keeps
