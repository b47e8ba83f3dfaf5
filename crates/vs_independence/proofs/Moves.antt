-- Each move of a slot, before its updates are activated, keeps what holds there.
use Rattle.std.proofs.Common.{◌≡◌, ℕ, suc, ◌++◌, ◌<◌, ◌⊎◌, Bool, true, false, ◌||◌, Option, Some, None, List, map, length, get_or, slice_get, slice_set, refl, sym, ◌∙◌, ap, subst, inl, inr}
use Rattle.std.specs.List.{list_any}
use Rattle.std.proofs.Math.ListN.{get_or-map}
use Rattle.std.proofs.lemmas.Bool.{false_from_ne_true, or_left, or_right, true≢false, false≢true, cases_Bool}
use Rattle.std.proofs.lemmas.List.{length-set, length-map, get_or-set_same, get_or-set_other}
use Rattle.std.proofs.lemmas.Option.{slice_get_within, get_or_from_slice_get, same_Some as same_some}
use Rattle.vs_design.specs.vs_logic4.specs.declared.digit.Digit.{Digit}
use Rattle.vs_design.specs.Parts.{Parts}
use Rattle.vs_design.specs.Stores.{Store, put, is_changed, is_driven, word_in}
use Rattle.vs_design.specs.Uses.{writes_signal}
use Rattle.vs_design.specs.Writes.{Write, names}
use Rattle.vs_process.specs.vs_eval.specs.Targets.{assigned}
use Rattle.vs_process.specs.Places.{Todo, Place, going, sleeping, inactive, waiting, ended, is_going, todo_of}
use Rattle.vs_process.specs.declared.gait.Gait.{Gait}
use Rattle.vs_process.specs.Steps.{Out, step}
use Rattle.vs_process.specs.States.{State, AssignState, Update, Called, touched, wakened, place_after_step, performed, written_after, calls_after, updates_after, evaluate, propagate_value, settled, roused}
use Rattle.vs_process.proofs.ProcessLists.{set_cases}
use Rattle.vs_process.proofs.WellFormed.{is_sound_place, is_sound_todo}
use Rattle.vs_process.specs.Edges.{IsLink}
use Rattle.vs_process.proofs.Assigns.{AssignsSound, IsUndriven, assign_driven, sound_behind, sound_evaluated, sound_propagated, assign_fixed}
use Rattle.vs_process.specs.Reads.{mute}
use Rattle.vs_process.specs.Threads.{store_after, Thread, Fired, is_timed, MayOpen, IsThread, found, log_after, moved, turn_at, turn, writes, any_names, place_reads, todo_reads}
use Rattle.vs_process.proofs.ThreadLists.{at, at_same, at_each, at_some, at_both}
use Rattle.vs_process.proofs.ThreadStores.{by}
use Rattle.vs_process.proofs.StepReads.{step_reads, IsPlain, step_plain}
use Rattle.vs_process.proofs.Threads.{rouse_thread, thread_rouses, unmoved}
use Rattle.vs_process.proofs.ThreadLinks.{link_state}
use Rattle.vs_process.proofs.ThreadAssigns.{DrivesWell, assigns_after_write, behind_is, places_after_write}
use Rattle.vs_independence.proofs.Running.{Apart, AllThreads, FiringAgrees, threads_of, Sources, Mades, Finishes, Asks, Written, Running, reads_agree, Rests, BlockBare, Stirred, IsCalm, IsStirred}
use Rattle.vs_independence.proofs.Fire.{Change, After, IsFiredNow, after_at, fired_kept}
use Rattle.vs_independence.proofs.Edges.{Advancing, write_advances, propagate_advances, change_of, edges_touched, edges_grow, edges_settled, edges_evaluated}
use Rattle.vs_independence.proofs.Steps.{at_this, sources_step, mades_step, asks_step, finishes_step}
use Rattle.vs_independence.proofs.Nets.{all_stirred_more, nets_behind, nets_evaluated, nets_propagated, awake_more, stirred_written, rests_written}
use Rattle.vs_process.proofs.Ranges.{assigned_names, fixed_write, assigned_fixed}
use Rattle.vs_process.proofs.Stores.{put_other}
use Rattle.vs_process.specs.BlockDrivers.{IsSource, puts_out}
use Rattle.vs_process.proofs.Texts.{Text}
use Rattle.vs_design.specs.declared.range.BitRange.{BitRange}
use Rattle.vs_process.specs.vs_eval.specs.Laws.{digit_in}
use Rattle.vs_process.specs.Feeds.{writes_into}
use Rattle.vs_process.proofs.Feeds.{changed_into}

-- threads with which a state of the slot runs, behind a move: those of processes that wait for no event where the slot begins are as given
pub record RunsOn (d : Parts) (blocks : ℕ → Bool) (b s : State) (mid : ℕ → Thread) : Type 0 where
  pub th : ℕ → Thread
  pub runs : Running d blocks b s th
  pub same : (k : ℕ) → is_timed (found blocks b k) ≡ true → th k ≡ mid k
  pub logs : (k : ℕ) → (th k).log ≡ (mid k).log
  pub goes : (k : ℕ) → (th k ≡ mid k) ⊎ IsFiredNow d blocks b k (mid k) (th k)

-- where they are as given
pub runs_as : (d : Parts) (blocks : ℕ → Bool) (b s : State) (th : ℕ → Thread) → Running d blocks b s th → RunsOn d blocks b s th
runs_as d blocks b s th r = record { th = th; runs = r; same = λ k timed. refl; logs = λ k. refl; goes = λ k. inl refl }

-- a state behind a step of a process, written out
abbrev pub performed_at : State → ℕ → Place → Out → State
performed_at s i place out = record s {
  store = store_after s.store out.write;
  places = slice_set (places_after_write s.store out.write s.places) i (place_after_step place s.time out.next);
  assigns = assigns_after_write s.store out.write s.assigns;
  updates = updates_after i s.time out.update s.updates;
  calls = calls_after i out.call s.calls;
  finishing = s.finishing || out.finish;
}

-- the continuous assignments do not ask where processes are
pub behind_sound : (d : Parts) (s : State) (o : Option Write) → AssignsSound d (written_after s o).store (written_after s o).assigns → AssignsSound d (store_after s.store o) (assigns_after_write s.store o s.assigns)
behind_sound d s None h = h
behind_sound d s (Some w) h = h

pub performed_is : (s : State) (i : ℕ) (place : Place) (out : Out) → performed s i place out ≡ performed_at s i place out
performed_is s i place out =
    ap (λ (t : State). record t {
      places = slice_set t.places i (place_after_step place s.time out.next);
      updates = updates_after i s.time out.update s.updates;
      calls = calls_after i out.call s.calls;
      finishing = s.finishing || out.finish;
    }) (behind_is s out.write)

pub length_behind : (store : Store) (o : Option Write) (places : List Place) → length (places_after_write store o places) ≡ length places
length_behind store None places = refl
length_behind store (Some w) places = length-map places (wakened store (put store w))

-- bits that no block covers, behind a write of a source or one of another signal
pub bare_behind : (d : Parts) (blocks : ℕ → Bool) (store : Store) (o : Option Write) → ((w : Write) → o ≡ Some w → (k v : ℕ) → blocks k ≡ true → puts_out d k v ≡ true → names w v ≡ false) →
    BlockBare d blocks store → BlockBare d blocks (store_after store o)
bare_behind d blocks store None free bare = bare
bare_behind d blocks store (Some w) free bare = λ k v n i is hit none. ap (λ l. digit_in (word_in l n) i) (put_other store w v (free w refl k v is hit)) ∙ bare k v n i is hit none

-- no write of a source is one of what a block writes
pub source_free : (d : Parts) (blocks : ℕ → Bool) (w : Write) → ((v : ℕ) → names w v ≡ true → IsSource d blocks v) → (k v : ℕ) → blocks k ≡ true → puts_out d k v ≡ true → names w v ≡ false
source_free d blocks w sources k v is hit =
    elim (cases_Bool (names w v)) [
      | inl named ↦ absurd (true≢false (sym hit ∙ (sources v named).unwritten k is))
      | inr miss ↦ miss
    ]

-- blocks behind a step of a thread that may write
rests_behind : (d : Parts) (blocks : ℕ → Bool) (b : State) (store : Store) (places : List Place) (th more : ℕ → Thread) (o : Option Write) →
    ((k : ℕ) → blocks k ≡ true → Text d k) → ((w : Write) → o ≡ Some w → (q : BitRange) → is_changed store (put store w) q ≡ true → Stirred d blocks b more q) →
    ((i u : ℕ) → writes (th i) u ≡ true → writes (more i) u ≡ true) → ((w : Write) → o ≡ Some w → (k v : ℕ) → blocks k ≡ true → puts_out d k v ≡ true → names w v ≡ false) →
    Rests d blocks b store places th → Rests d blocks b (store_after store o) (places_after_write store o places) more
rests_behind d blocks b store places th more None texts wrote grows free rests k is = elim (rests k is) [
  | inl rested ↦ inl rested
  | inr awake ↦ inr (awake_more d blocks b th more grows k awake)
]
rests_behind d blocks b store places th more (Some w) texts wrote grows free rests k is =
    rests_written d blocks b store places th more w texts (wrote w refl) grows (λ l at_l. inr (λ v hit. free w refl l v at_l hit)) rests k is

-- the place of a process that is no block being set leaves blocks where they are
rests_set : (d : Parts) (blocks : ℕ → Bool) (b : State) (store : Store) (places : List Place) (th : ℕ → Thread) (i : ℕ) (p : Place) → blocks i ≡ false → Rests d blocks b store places th → Rests d blocks b store (slice_set places i p) th
rests_set d blocks b store places th i p other rests k is = elim (rests k is) [
  | inl rested ↦ inl (get_or-set_other places i k p ended (λ e. true≢false (sym is ∙ ap blocks e ∙ other)) ∙ rested.0, rested.1)
  | inr awake ↦ inr awake
]

-- ---- threads with the same writes, updates and calls

pub record SameMade (x y : Thread) : Type 0 where
  pub log : y.log ≡ x.log
  pub made : y.made ≡ x.made
  pub asked : y.asked ≡ x.asked
  pub fin : y.fin ≡ x.fin
  pub view : (v : ℕ) → writes x v ≡ true → slice_get y.view v ≡ slice_get x.view v

same_made_self : (x : Thread) → SameMade x x
same_made_self x = record { log = refl; made = refl; asked = refl; fin = refl; view = λ v wrote. refl }

sources_same : (d : Parts) (blocks : ℕ → Bool) (b : State) (store : Store) (mid new : ℕ → Thread) → ((i : ℕ) → SameMade (mid i) (new i)) → Sources d blocks b store mid → Sources d blocks b store new
sources_same d blocks b store mid new same so = record {
  own = λ i v h. let old = ap (λ l. list_any (λ w. names w v) l) (sym (same i).log) ∙ h in so.own i v old ∙ sym ((same i).view v old);
  fresh = λ v undriven. elim (so.fresh v undriven) [
    | inl is ↦ inl is
    | inr other ↦ inr (other.0, ap (λ l. list_any (λ w. names w v) l) (same other.0).log ∙ other.1)
  ];
}

mades_same : (d : Parts) (blocks : ℕ → Bool) (b : State) (us : List Update) (mid new : ℕ → Thread) → ((i : ℕ) → SameMade (mid i) (new i)) → Mades d blocks b us mid → Mades d blocks b us new
mades_same d blocks b us mid new same ma = record {
  made = λ i v h. subst (λ l. any_names l v ≡ true → by v us ≡ by v b.updates ++ by v l) (sym (same i).made) (ma.made i v) h;
  unmade = λ v. elim (ma.unmade v) [
    | inl none ↦ inl none
    | inr other ↦ inr (other.0, ap (λ l. any_names l v) (same other.0).made ∙ other.1)
  ];
  waiting = ma.waiting;
  undriven = ma.undriven;
}

asks_same : (calls : List Called) (mid new : ℕ → Thread) → ((i : ℕ) → SameMade (mid i) (new i)) → Asks calls mid → Asks calls new
asks_same calls mid new same asks i = asks i ∙ sym (same i).asked

finishes_same : (b : State) (finishing : Bool) (mid new : ℕ → Thread) → ((i : ℕ) → SameMade (mid i) (new i)) → Finishes b finishing mid → Finishes b finishing new
finishes_same b finishing mid new same f = record {
  kept = f.kept;
  by_thread = λ i h. f.by_thread i (sym (same i).fin ∙ h);
  some = λ h. elim (f.some h) [
    | inl before ↦ inl before
    | inr other ↦ inr (other.0, (same other.0).fin ∙ other.1)
  ];
}

written_same : (mid new : ℕ → Thread) → ((i : ℕ) → SameMade (mid i) (new i)) → (v : ℕ) → Written mid v → Written new v
written_same mid new same v (i, h) = (i, ap (λ l. list_any (λ w. names w v) l) (same i).log ∙ h)

pub log_names : (log : List Write) (o : Option Write) (w : Write) (v : ℕ) → o ≡ Some w → names w v ≡ true → list_any (λ w. names w v) (log_after log o) ≡ true
log_names log o w v is h = ap (λ o. list_any (λ w. names w v) (log_after log o)) is ∙ or_left (names w v) (list_any (λ w. names w v) log) h

-- every process behind a change of the store
alike_after : (d : Parts) (blocks : ℕ → Bool) (b : State) (old new : Store) (i : ℕ) (th : Thread) (a : After d blocks b old new i th) → SameMade th a.thread
alike_after d blocks b old new i th a = record { log = a.log; made = a.made; asked = a.asked; fin = a.fin; view = a.view }

-- ---- a step of a process

-- a thread after a turn
abbrev pub thread_moves : (d : Parts) (blocks : ℕ → Bool) (b : State) (i : ℕ) (th tn : Thread) → IsThread d blocks b i th → turn b.time i th ≡ tn → IsThread d blocks b i tn
thread_moves d blocks b i th tn h turned = record { count = suc h.count; input = h.input; may = h.may; is = ap (turn b.time i) h.is ∙ turned }

-- a process that goes isn't one that waits since the slot began
mover_stands : (d : Parts) (blocks : ℕ → Bool) (b : State) (old new : Store) (i : ℕ) (th tn : Thread) (s : FiringAgrees d blocks b old i th) → (gait : Gait) (todo : Todo) → th.place ≡ going gait todo → (turned : turn b.time i th ≡ tn) →
    ((f : Fired) → s.is.input ≡ Some f → slice_get new f.signal ≡ Some f.value) → FiringAgrees d blocks b new i tn
mover_stands d blocks b old new i th tn s gait todo at_i turned fired = record {
  is = thread_moves d blocks b i th tn s.is turned;
  unfired = λ none terms rest at_b t among.
      absurd (let no_way : going gait todo ≡ waiting terms rest = sym at_i ∙ ap (λ (x : Thread). x.place) (unmoved d blocks b i th s.is none (ap is_timed at_b)) ∙ at_b in cc);
  fired = fired;
}

abbrev with_write : Out → Option Write → Out
with_write out o = record out { write = o }

-- a step that writes nothing
quiet_runs : (d : Parts) (blocks : ℕ → Bool) → ((k : ℕ) → blocks k ≡ true → Text d k) → (b s : State) (th : ℕ → Thread) → Apart d blocks b → Running d blocks b s th → (i : ℕ) → blocks i ≡ false → (gait : Gait) (todo : Todo) (out : Out) →
    slice_get s.places i ≡ Some (going gait todo) → IsPlain out → (th i).place ≡ going gait todo →
    turn b.time i (th i) ≡ moved b.time i (going gait todo) (with_write out None) (th i) →
    Running d blocks b (performed s i (going gait todo) (with_write out None)) (at th i (moved b.time i (going gait todo) (with_write out None) (th i)))
quiet_runs d blocks texts b s th apart r i other gait todo out here plain at_i turned = record {
  slot = record {
    time = r.slot.time;
    over = r.slot.over;
    count = length-set s.places i next ∙ r.slot.count;
  };
  sound = r.sound;
  stands = at_each (FiringAgrees d blocks b s.store) th i tn own (λ k ne. r.stands k);
  places = at_each (λ k t. blocks k ≡ false → get_or (slice_set s.places i next) k ended ≡ t.place) th i tn
      (λ mine. get_or-set_same s.places i next ended (slice_get_within s.places i (going gait todo) here) ∙ ap (λ t. place_after_step (going gait todo) t out.next) r.slot.time)
      (λ k ne mine. get_or-set_other s.places i k next ended ne ∙ r.places k mine);
  sources = sources_step d blocks b apart s.store th r.stands r.sources i tn.place None tn.made tn.asked tn.fin own.is;
  mades = subst (λ t. Mades d blocks b (updates_after i t out.update s.updates) (at th i tn)) (sym r.slot.time)
      (mades_step d blocks b apart s.updates th (threads_of d blocks b s.store th r.stands) r.mades i tn.place None out.update tn.asked tn.fin plain.update own.is);
  asks = asks_step s.calls th r.asks i out.call tn refl;
  finishes = finishes_step b s.finishing th r.finishes i tn.place None tn.made tn.asked out.finish;
  nets = nets_behind d blocks b s.store s.assigns th (at th i tn) r.sound None none_undriven none_stirs grows r.nets;
  bare = r.bare;
  rests = rests_set d blocks b s.store s.places (at th i tn) i next other (rests_behind d blocks b s.store s.places th (at th i tn) None texts none_stirs grows none_free r.rests);
  edges = edges_grow d blocks b s.store s.assigns th (at th i tn) (λ root. at_some (λ t. writes t root ≡ true) th i tn (λ h. h)) r.edges;
}
  where
    tn : Thread
    tn = moved b.time i (going gait todo) (with_write out None) (th i)

    next : Place
    next = place_after_step (going gait todo) s.time out.next

    none_undriven : (w : Write) → None ≡ Some w → IsUndriven d w
    none_undriven w e = absurd (let no_way : None ≡ Some w = e in cc)

    none_stirs : (w : Write) → None ≡ Some w → (q : BitRange) → is_changed s.store (put s.store w) q ≡ true → Stirred d blocks b (at th i tn) q
    none_stirs w e = absurd (let no_way : None ≡ Some w = e in cc)

    none_free : (w : Write) → None ≡ Some w → (k v : ℕ) → blocks k ≡ true → puts_out d k v ≡ true → names w v ≡ false
    none_free w e = absurd (let no_way : None ≡ Some w = e in cc)

    grows : (k u : ℕ) → writes (th k) u ≡ true → writes (at th i tn k) u ≡ true
    grows k u = at_each (λ k t. writes (th k) u ≡ true → writes t u ≡ true) th i tn (λ h. h) (λ k ne h. h) k

    own : FiringAgrees d blocks b s.store i tn
    own = mover_stands d blocks b s.store s.store i (th i) tn (r.stands i) gait todo at_i turned (r.stands i).fired

-- a step that writes: all processes behind it, with those that it wakes
write_runs : (d : Parts) (blocks : ℕ → Bool) → ((k : ℕ) → blocks k ≡ true → Text d k) → (b s : State) (th : ℕ → Thread) → Apart d blocks b → Running d blocks b s th → (i : ℕ) → blocks i ≡ false → (gait : Gait) (todo : Todo) (out : Out) (w : Write) →
    slice_get s.places i ≡ Some (going gait todo) → IsPlain out → (th i).place ≡ going gait todo →
    turn b.time i (th i) ≡ moved b.time i (going gait todo) (with_write out (Some w)) (th i) →
    RunsOn d blocks b (performed s i (going gait todo) (with_write out (Some w))) (at th i (moved b.time i (going gait todo) (with_write out (Some w)) (th i)))
write_runs d blocks texts b s th apart r i other gait todo out w here plain at_i turned = record {
  th = final;
  same = same_final;
  logs = λ k. (alike k).log;
  goes = goes_final;
  runs = record {
    slot = record {
      time = r.slot.time;
      over = r.slot.over;
      count = length-set (map (wakened s.store new) s.places) i next ∙ length-map s.places (wakened s.store new) ∙ r.slot.count;
    };
    sound = sound_behind d s (Some w) undriven r.sound;
    stands = at_each (FiringAgrees d blocks b new) others i tn own (λ k ne. (af k).stands);
    places = at_each (λ k t. blocks k ≡ false → get_or (slice_set (map (wakened s.store new) s.places) i next) k ended ≡ t.place) others i tn
        (λ mine. get_or-set_same (map (wakened s.store new) s.places) i next ended within ∙ ap (λ t. place_after_step (going gait todo) t out.next) r.slot.time)
        (λ k ne mine. get_or-set_other (map (wakened s.store new) s.places) i k next ended ne ∙ get_or-map (wakened s.store new) s.places k ended
        ∙ ap (wakened s.store new) (r.places k mine) ∙ sym (af k).place);
    sources = sources_same d blocks b new mid final alike sources_mid;
    mades = mades_same d blocks b (updates_after i s.time out.update s.updates) mid final alike
        (subst (λ t. Mades d blocks b (updates_after i t out.update s.updates) mid) (sym r.slot.time)
        (mades_step d blocks b apart s.updates th (threads_of d blocks b s.store th r.stands) r.mades i tn.place (Some w) out.update tn.asked tn.fin plain.update is));
    asks = asks_same (calls_after i out.call s.calls) mid final alike (asks_step s.calls th r.asks i out.call tn refl);
    finishes = finishes_same b (s.finishing || out.finish) mid final alike (finishes_step b s.finishing th r.finishes i tn.place (Some w) tn.made tn.asked out.finish);
    nets = nets_behind d blocks b s.store s.assigns th final r.sound (Some w) undriven stirs grows r.nets;
    bare = bare_behind d blocks s.store (Some w) free r.bare;
    rests = rests_set d blocks b new (map (wakened s.store new) s.places) final i next other (rests_behind d blocks b s.store s.places th final (Some w) texts stirs grows free r.rests);
    edges = edges_grow d blocks b new (assigns_after_write s.store (Some w) s.assigns) mid final (written_same mid final alike)
        (edges_touched d blocks b s.store new s.assigns th mid advancing (λ m n l x at_x. (link_state d s.store s.assigns r.sound m n l x at_x).1) r.edges);
  };
}
  where
    tn : Thread
    tn = moved b.time i (going gait todo) (with_write out (Some w)) (th i)

    next : Place
    next = place_after_step (going gait todo) s.time out.next

    new : Store
    new = put s.store w

    is : IsThread d blocks b i tn
    is = thread_moves d blocks b i (th i) tn (r.stands i).is turned

    mid : ℕ → Thread
    mid = at th i tn

    wrote : (v : ℕ) → names w v ≡ true → writes tn v ≡ true
    wrote v h = or_left (names w v) (writes (th i) v) h

    source : (u : Write) → Some w ≡ Some u → (v : ℕ) → names u v ≡ true → IsSource d blocks v
    source u e v named = apart.variables i v tn is (wrote v (subst (λ u. names u v ≡ true) (sym (same_some w u e)) named))

    free : (u : Write) → Some w ≡ Some u → (k v : ℕ) → blocks k ≡ true → puts_out d k v ≡ true → names u v ≡ false
    free u e = source_free d blocks u (source u e)

    undriven : (u : Write) → Some w ≡ Some u → IsUndriven d u
    undriven u e v named = (source u e v named).undriven

    sources_mid : Sources d blocks b new mid
    sources_mid = sources_step d blocks b apart s.store th r.stands r.sources i tn.place (Some w) tn.made tn.asked tn.fin is

    advancing : Advancing d blocks b s.store new th mid
    advancing = write_advances d blocks b s.store th mid i w tn (record {
      apart = apart;
      shaped = r.sound.shaped;
      threads = threads_of d blocks b s.store th r.stands;
      after = at_each (IsThread d blocks b) th i tn is (λ k ne. (r.stands k).is);
      before = r.sources;
      behind = sources_mid;
      is = is;
      own = at_same th i tn;
      wrote = wrote;
      grows = λ root. at_some (λ t. writes t root ≡ true) th i tn (λ h. or_right (names w root) (writes (th i) root) h);
    })

    change : Change d blocks b s.store new
    change = change_of d blocks b s.store new s.assigns th mid advancing r.edges

    af : (k : ℕ) → After d blocks b s.store new k (th k)
    af k = after_at d blocks b s.store new change k (th k) (r.stands k) (r.sources.own k)

    others : ℕ → Thread
    others k = (af k).thread

    final : ℕ → Thread
    final = at others i tn

    own : FiringAgrees d blocks b new i tn
    own = mover_stands d blocks b s.store new i (th i) tn (r.stands i) gait todo at_i turned
        (λ f e. fired_kept d blocks b s.store new change i f (subst (MayOpen d blocks b i) e (r.stands i).is.may) ((r.stands i).fired f e))

    within : i < length (map (wakened s.store new) s.places)
    within = subst (λ n. i < n) (sym (length-map s.places (wakened s.store new))) (slice_get_within s.places i (going gait todo) here)

    alike : (k : ℕ) → SameMade (mid k) (final k)
    alike = at_both (λ k x y. SameMade x y) th others i tn tn (same_made_self tn) (λ k ne. alike_after d blocks b s.store new k (th k) (af k))

    grows : (k u : ℕ) → writes (th k) u ≡ true → writes (final k) u ≡ true
    grows k u h = ap (λ l. list_any (λ w. names w u) l) (alike k).log ∙ at_each (λ k t. writes (th k) u ≡ true → writes t u ≡ true) th i tn (λ g. or_right (names w u) (writes (th i) u) g) (λ k ne g. g) k h

    stirs : (u : Write) → Some w ≡ Some u → (q : BitRange) → is_changed s.store (put s.store u) q ≡ true → Stirred d blocks b final q
    stirs u e q changed = stirred_written d blocks b s.store final u (λ v h. at_this (λ t. writes t v ≡ true) others i tn (wrote v (subst (λ u. names u v ≡ true) (sym (same_some w u e)) h))) q changed

    same_final : (k : ℕ) → is_timed (found blocks b k) ≡ true → final k ≡ mid k
    same_final k = at_both (λ k x y. is_timed (found blocks b k) ≡ true → x ≡ y) others th i tn tn (λ timed. refl) (λ k ne. (af k).same) k

    goes_final : (k : ℕ) → (final k ≡ mid k) ⊎ IsFiredNow d blocks b k (mid k) (final k)
    goes_final = at_both (λ k x y. (x ≡ y) ⊎ IsFiredNow d blocks b k y x) others th i tn tn (inl refl) (λ k ne. (af k).goes)

-- a step of an active process that is no block
pub step_runs : (d : Parts) (blocks : ℕ → Bool) → ((k : ℕ) → blocks k ≡ true → Text d k) → (b s : State) → Apart d blocks b → (th : ℕ → Thread) → Running d blocks b s th → (i : ℕ) → blocks i ≡ false → (p : Place) → slice_get s.places i ≡ Some p → is_going p ≡ true →
    RunsOn d blocks b (performed s i p (step (todo_of p) s.store s.time)) (at th i (turn b.time i (th i)))
step_runs d blocks texts b s apart th r i other (going gait todo) is h =
    subst (λ tn. RunsOn d blocks b (performed s i (going gait todo) (step todo s.store s.time)) (at th i tn)) (sym turned)
    (subst (λ q. RunsOn d blocks b (performed s i (going gait todo) q) (at th i (moved b.time i (going gait todo) out (th i)))) (sym same_out) (by_write (mute (step todo (th i).view b.time)).write refl))
  where
    out : Out
    out = mute (step todo (th i).view b.time)

    here_is : (th i).place ≡ going gait todo
    here_is = sym (r.places i other) ∙ get_or_from_slice_get s.places i (going gait todo) ended is

    turned : turn b.time i (th i) ≡ moved b.time i (going gait todo) out (th i)
    turned = ap (λ p. turn_at b.time i p (th i)) here_is

    sound : is_sound_todo d.signals todo ≡ true
    sound = subst (λ p. is_sound_place d.signals p ≡ true) here_is (apart.places i (th i) (r.stands i).is)

    agree : list_any (is_changed s.store (th i).view) (todo_reads todo) ≡ false
    agree = subst (λ p. list_any (is_changed s.store (th i).view) (place_reads p) ≡ false) here_is (reads_agree d blocks b apart s.store s.assigns s.places th r.stands r.sound r.sources r.nets r.bare r.rests i)

    plain : IsPlain out
    plain = record { update = (step_plain d.signals todo (th i).view b.time sound).update }

    same_out : mute (step todo s.store s.time) ≡ out
    same_out = step_reads s.store (th i).view todo s.time agree ∙ ap (λ t. mute (step todo (th i).view t)) r.slot.time

    by_write : (o : Option Write) → out.write ≡ o → RunsOn d blocks b (performed s i (going gait todo) out) (at th i (moved b.time i (going gait todo) out (th i)))
    by_write None e =
        let same : out ≡ with_write out None = ap (with_write out) e in
        subst (λ q. RunsOn d blocks b (performed s i (going gait todo) q) (at th i (moved b.time i (going gait todo) q (th i)))) (sym same) (record {
          th = at th i (moved b.time i (going gait todo) (with_write out None) (th i));
          runs = quiet_runs d blocks texts b s th apart r i other gait todo out is plain here_is (turned ∙ ap (λ q. moved b.time i (going gait todo) q (th i)) same);
          same = λ k timed. refl;
          logs = λ k. refl;
          goes = λ k. inl refl;
        })
    by_write (Some w) e =
        let same : out ≡ with_write out (Some w) = ap (with_write out) e in
        subst (λ q. RunsOn d blocks b (performed s i (going gait todo) q) (at th i (moved b.time i (going gait todo) q (th i)))) (sym same)
        (write_runs d blocks texts b s th apart r i other gait todo out w is plain here_is (turned ∙ ap (λ q. moved b.time i (going gait todo) q (th i)) same))
step_runs d blocks texts b s apart th r i other (sleeping due todo) is h = absurd (false≢true h)
step_runs d blocks texts b s apart th r i other (inactive todo) is h = absurd (false≢true h)
step_runs d blocks texts b s apart th r i other (waiting terms todo) is h = absurd (false≢true h)
step_runs d blocks texts b s apart th r i other ended is h = absurd (false≢true h)

-- ---- continuous assignments

-- an evaluation of a continuous assignment
pub evaluate_runs : (d : Parts) (blocks : ℕ → Bool) → DrivesWell d → (b s : State) → Apart d blocks b → (th : ℕ → Thread) → Running d blocks b s th → (j : ℕ) (x : AssignState) → slice_get s.assigns j ≡ Some x → x.needs ≡ true →
    Running d blocks b (evaluate s j (Some x)) th
evaluate_runs d blocks well b s apart th r j x is needs = record {
  slot = record { time = r.slot.time; over = r.slot.over; count = r.slot.count };
  sound = sound_evaluated d well.places s.store s.time s.assigns j x is r.sound;
  stands = r.stands;
  places = r.places;
  sources = r.sources;
  mades = r.mades;
  asks = r.asks;
  finishes = r.finishes;
  nets = nets_evaluated d blocks b s.store s.time s.assigns th j x is needs r.nets;
  bare = r.bare;
  rests = r.rests;
  edges = edges_evaluated d blocks b s.store s.time s.assigns th apart r.sound r.sources j x is r.edges;
}

-- what changes no source
pub sources_other : (d : Parts) (blocks : ℕ → Bool) (b : State) → Apart d blocks b → (old new : Store) (th : ℕ → Thread) → AllThreads d blocks b th → ((v : ℕ) → IsSource d blocks v → slice_get new v ≡ slice_get old v) →
    Sources d blocks b old th → Sources d blocks b new th
sources_other d blocks b apart old new th all same so = record {
  own = λ i v h. same v (apart.variables i v (th i) (all i) h) ∙ so.own i v h;
  fresh = λ v undriven. elim (so.fresh v undriven) [
    | inl is ↦ inl (same v undriven ∙ is)
    | inr other ↦ inr other
  ];
}

-- an update of an assignment names driven signals
pub propagated_named : (d : Parts) (store : Store) (time : ℕ) (assigns : List AssignState) → AssignsSound d store assigns → (j : ℕ) (x : AssignState) (digits : List Digit) → slice_get assigns j ≡ Some x →
    (v : ℕ) → is_driven d.assigns v ≡ false → names (assigned x.target digits store time) v ≡ false
propagated_named d store time assigns sound j x digits is v undriven =
    assigned_names x.target digits store time v ∙ false_from_ne_true (writes_signal x.target v) (λ named. true≢false (sym (assign_driven d store assigns sound j x v is named) ∙ undriven))

-- so it leaves what is undriven
pub propagated_undriven : (d : Parts) (store : Store) (time : ℕ) (assigns : List AssignState) → AssignsSound d store assigns → (j : ℕ) (x : AssignState) (digits : List Digit) → slice_get assigns j ≡ Some x →
    (v : ℕ) → is_driven d.assigns v ≡ false → slice_get (put store (assigned x.target digits store time)) v ≡ slice_get store v
propagated_undriven d store time assigns sound j x digits is v undriven =
    put_other store (assigned x.target digits store time) v (propagated_named d store time assigns sound j x digits is v undriven)

-- what a block writes is undriven
abbrev pub OutputsUndriven : Parts → (ℕ → Bool) → Type 0
OutputsUndriven d blocks = (k v : ℕ) → blocks k ≡ true → puts_out d k v ≡ true → is_driven d.assigns v ≡ false

-- an update of a continuous assignment: all processes behind it, with those that it wakes
pub propagate_runs : (d : Parts) (blocks : ℕ → Bool) → DrivesWell d → ((k : ℕ) → blocks k ≡ true → Text d k) → OutputsUndriven d blocks → (b s : State) → Apart d blocks b → (th : ℕ → Thread) → Running d blocks b s th → (j : ℕ) (x : AssignState) (digits : List Digit) → slice_get s.assigns j ≡ Some x → x.pending ≡ Some digits →
    RunsOn d blocks b (propagate_value s j x (Some digits)) th
propagate_runs d blocks well texts outputs b s apart th r j x digits is waits = record {
  th = final;
  same = λ k. (af k).same;
  logs = λ k. (alike k).log;
  goes = λ k. (af k).goes;
  runs = record {
    slot = record { time = r.slot.time; over = r.slot.over; count = length-map s.places (wakened s.store new) ∙ r.slot.count };
    sound = sound_propagated d well.places s.store s.time s.assigns j x digits is waits r.sound;
    stands = λ k. (af k).stands;
    places = λ k mine. get_or-map (wakened s.store new) s.places k ended ∙ ap (wakened s.store new) (r.places k mine) ∙ sym (af k).place;
    sources = sources_same d blocks b new th final alike sources_new;
    mades = mades_same d blocks b s.updates th final alike r.mades;
    asks = asks_same s.calls th final alike r.asks;
    finishes = finishes_same b s.finishing th final alike r.finishes;
    nets = λ k y at_k. elim (nets_propagated d blocks well b s.store s.time s.assigns th r.sound j x digits is waits r.nets k y at_k) [
      | inl calm ↦ inl calm
      | inr stirred ↦ inr (all_stirred_more d blocks b th final grows y stirred)
    ];
    bare = bare_behind d blocks s.store (Some w) free r.bare;
    rests = λ k at_k. elim (rests_written d blocks b s.store s.places th th w texts (λ q changed. source_stirred (r.nets j x is) q (into q changed)) (λ i u h. h) (λ k at_k. inr (λ v hit. free w refl k v at_k hit)) r.rests k at_k) [
      | inl rested ↦ inl rested
      | inr awake ↦ inr (awake_more d blocks b th final grows k awake)
    ];
    edges = edges_grow d blocks b new (map (touched s.store new) (slice_set s.assigns j (settled x))) th final (written_same th final alike)
        (edges_touched d blocks b s.store new (slice_set s.assigns j (settled x)) th th advancing sources_are (edges_settled d blocks b s.store s.assigns th j x is r.edges));
  };
}
  where
    w : Write
    w = assigned x.target digits s.store s.time

    new : Store
    new = put s.store w

    free : (u : Write) → Some w ≡ Some u → (k v : ℕ) → blocks k ≡ true → puts_out d k v ≡ true → names u v ≡ false
    free u e k v at_k hit =
        let same : w ≡ u = cc in
        subst (λ u. names u v ≡ false) same (propagated_named d s.store s.time s.assigns r.sound j x digits is v (outputs k v at_k hit))

    fixed : w ≡ fixed_write x.target digits
    fixed = assigned_fixed x.target digits s.store s.time (assign_fixed d well.places s.store s.assigns r.sound j x is)

    into : (q : BitRange) → is_changed s.store new q ≡ true → writes_into d x.target q ≡ true
    into q changed = changed_into d s.store r.sound.shaped x.target digits q (assign_fixed d well.places s.store s.assigns r.sound j x is) (subst (λ u. is_changed s.store (put s.store u) q ≡ true) fixed changed)

    source_stirred : (IsCalm b s.store x ⊎ IsStirred d blocks b th x) → IsStirred d blocks b th x
    source_stirred (inl calm) = let e : None ≡ Some digits = sym calm.1 ∙ waits in cc
    source_stirred (inr stirred) = stirred

    sources_new : Sources d blocks b new th
    sources_new = sources_other d blocks b apart s.store new th (threads_of d blocks b s.store th r.stands) (λ v source. propagated_undriven d s.store s.time s.assigns r.sound j x digits is v source.undriven) r.sources

    advancing : Advancing d blocks b s.store new th th
    advancing = propagate_advances d blocks well b s.store s.time s.assigns th apart (threads_of d blocks b s.store th r.stands) r.sound j x digits is waits r.sources sources_new r.edges

    change : Change d blocks b s.store new
    change = change_of d blocks b s.store new s.assigns th th advancing r.edges

    af : (k : ℕ) → After d blocks b s.store new k (th k)
    af k = after_at d blocks b s.store new change k (th k) (r.stands k) (r.sources.own k)

    final : ℕ → Thread
    final k = (af k).thread

    alike : (k : ℕ) → SameMade (th k) (final k)
    alike k = alike_after d blocks b s.store new k (th k) (af k)

    grows : (i u : ℕ) → writes (th i) u ≡ true → writes (final i) u ≡ true
    grows i u h = ap (λ l. list_any (λ w. names w u) l) (alike i).log ∙ h

    sources_are : (m n : ℕ) (l : IsLink d m n) (z : AssignState) → slice_get (slice_set s.assigns j (settled x)) l.number ≡ Some z → l.assign.source ≡ z.source
    sources_are m n l z at_z = elim (set_cases s.assigns j l.number x (settled x) z is at_z) [
      | inl own ↦ (link_state d s.store s.assigns r.sound m n l x (ap (slice_get s.assigns) own.0 ∙ is)).1 ∙ ap (λ (y : AssignState). y.source) (sym own.1)
      | inr other ↦ (link_state d s.store s.assigns r.sound m n l z other.1).1
    ]

-- ---- the inactive processes become active

-- a process that is roused isn't one that waits
rouse_stands : (d : Parts) (blocks : ℕ → Bool) (b : State) (store : Store) (i : ℕ) (th : Thread) → FiringAgrees d blocks b store i th → FiringAgrees d blocks b store i (rouse_thread th)
rouse_stands d blocks b store i th s = record { is = thread_rouses d blocks b i th s.is; unfired = s.unfired; fired = s.fired }

-- a block at its control is not inactive
rests_roused : (d : Parts) (blocks : ℕ → Bool) (b : State) (store : Store) (places : List Place) (th more : ℕ → Thread) → ((k : ℕ) → blocks k ≡ true → Text d k) → ((i u : ℕ) → writes (th i) u ≡ true → writes (more i) u ≡ true) →
    Rests d blocks b store places th → Rests d blocks b store (map roused places) more
rests_roused d blocks b store places th more texts grows rests k is = elim (rests k is) [
  | inl rested ↦ inl (get_or-map roused places k ended ∙ ap roused (rested.0 ∙ (texts k is).home_is) ∙ sym (texts k is).home_is, rested.1)
  | inr awake ↦ inr (awake_more d blocks b th more grows k awake)
]

pub rouse_runs : (d : Parts) (blocks : ℕ → Bool) → ((k : ℕ) → blocks k ≡ true → Text d k) → (b s : State) (th : ℕ → Thread) → Running d blocks b s th → Running d blocks b (record s { places = map roused s.places }) (λ i. rouse_thread (th i))
rouse_runs d blocks texts b s th r = record {
  slot = record { time = r.slot.time; over = r.slot.over; count = length-map s.places roused ∙ r.slot.count };
  sound = r.sound;
  stands = λ i. rouse_stands d blocks b s.store i (th i) (r.stands i);
  places = λ i other. get_or-map roused s.places i ended ∙ ap roused (r.places i other);
  sources = record { own = r.sources.own; fresh = r.sources.fresh };
  mades = record { made = r.mades.made; unmade = r.mades.unmade; waiting = r.mades.waiting; undriven = r.mades.undriven };
  asks = r.asks;
  finishes = record { kept = r.finishes.kept; by_thread = r.finishes.by_thread; some = r.finishes.some };
  nets = λ j x is. elim (r.nets j x is) [
    | inl calm ↦ inl calm
    | inr stirred ↦ inr (all_stirred_more d blocks b th (λ i. rouse_thread (th i)) (λ i u h. h) x stirred)
  ];
  bare = r.bare;
  rests = rests_roused d blocks b s.store s.places th (λ i. rouse_thread (th i)) texts (λ i u h. h) r.rests;
  edges = edges_grow d blocks b s.store s.assigns th (λ i. rouse_thread (th i)) (λ root h. h) r.edges;
}
