-- A step of a combinational block keeps what holds in a slot.
use Rattle.std.proofs.Common.{◌≡◌, ℕ, ◌⊎◌, Bool, true, false, Option, Some, None, List, get_or, slice_get, slice_set, refl, sym, ◌∙◌, ap, subst, inl, inr}
use Rattle.std.proofs.lemmas.Bool.{cases_eq, true≢false, false_from_ne_true, true_from_ne_false}
use Rattle.vs_design.specs.Parts.{Parts}
use Rattle.vs_design.specs.Stores.{Store, put, start_store, word_in}
use Rattle.vs_process.specs.Places.{Todo, Place, going, waiting, ended}
use Rattle.vs_independence.proofs.Moves.{OutputsUndriven, performed_is, length_behind, behind_sound, sources_other}
use Rattle.vs_process.proofs.Texts.{Text}
use Rattle.vs_design.specs.Writes.{Write, names}
use Rattle.vs_process.specs.BlockDrivers.{puts_out, outputs, IsSource}
use Rattle.vs_process.specs.States.{State, Update, Called, updates_after, calls_after, performed, place_after_step, AssignState}
use Rattle.vs_process.specs.vs_strobe.specs.Lines.{Format}
use Rattle.vs_process.specs.Threads.{Thread, store_after}
use Rattle.vs_process.specs.ThreadLaws.{LiesIn}
use Rattle.vs_independence.proofs.Running.{Follow, AllPlaced, threads_of, Sources, Edges, Apart, BlockBare, IsAwake, IsRested, Rests, Running, Mades, Asks, Finishes}
use Rattle.vs_process.specs.declared.gait.Gait.{Gait}
use Rattle.std.proofs.lemmas.Option.{get_or_from_slice_get}
use Rattle.std.specs.List.{list_any}
use Rattle.vs_process.proofs.ThreadAssigns.{assigns_after_write, places_after_write}
use Rattle.vs_process.specs.Edges.{itself, through}
use Rattle.vs_process.proofs.ThreadLinks.{link_driven, link_state}
use Rattle.vs_independence.proofs.Edges.{root_source, edges_touched}
use Rattle.vs_independence.proofs.Still.{SameEdges, asleep, stands_still, still_advances}
use Rattle.vs_process.specs.Steps.{Out}
use Rattle.vs_process.proofs.Stores.{put_other, shape, shape-put}
use Rattle.vs_process.proofs.Assigns.{AssignsSound, IsUndriven, sound_behind}
use Rattle.vs_process.proofs.BlockRuns.{BlockStep}
use Rattle.vs_design.specs.Uses.{covers}
use Rattle.vs_independence.proofs.Nets.{rests_written, nets_behind}
use Rattle.vs_process.proofs.Held.{changed_puts}
use Rattle.vs_process.specs.vs_eval.specs.Laws.{digit_in}
use Rattle.std.proofs.lemmas.List.{get_or-set_other, length-set}
use Rattle.vs_process.proofs.ThreadsNamed.{named}
use Rattle.vs_process.specs.vs_eval.specs.Waking.{wakes}
use Rattle.vs_design.specs.vs_logic4.proofs.Basics.{or_false}

pub updates_same : (i time : ℕ) (o : Option (ℕ × Write)) (us : List Update) → o ≡ None → updates_after i time o us ≡ us
updates_same i time None us h = refl
updates_same i time (Some u) us h = cc

pub calls_same : (i : ℕ) (o : Option Format) (cs : List Called) → o ≡ None → calls_after i o cs ≡ cs
calls_same i None cs h = refl
calls_same i (Some c) cs h = cc

-- what a block writes beside its own signals: nothing
pub lies_free : (d : Parts) (blocks : ℕ → Bool) (k : ℕ) (w : Write) → blocks k ≡ true → LiesIn (outputs d k) w → (v : ℕ) → IsSource d blocks v → names w v ≡ false
lies_free d blocks k w is lies v source = lies.signals v (source.unwritten k is)

-- no two blocks write one signal
abbrev pub Exclusive : Parts → (ℕ → Bool) → Type 0
Exclusive d blocks = (k l v : ℕ) → blocks k ≡ true → blocks l ≡ true → puts_out d k v ≡ true → puts_out d l v ≡ true → k ≡ l

pub lies_other : (d : Parts) (blocks : ℕ → Bool) → Exclusive d blocks → (k l : ℕ) (w : Write) → blocks k ≡ true → blocks l ≡ true → (l ≡ k → ⊥) → LiesIn (outputs d k) w → (v : ℕ) → puts_out d l v ≡ true → names w v ≡ false
lies_other d blocks exclusive k l w is at_l ne lies v hit = lies.signals v (false_from_ne_true (puts_out d k v) (λ own. ne (exclusive l k v at_l is hit own)))

pub source_behind : (d : Parts) (blocks : ℕ → Bool) (k : ℕ) (store : Store) (o : Option Write) → blocks k ≡ true → ((w : Write) → o ≡ Some w → LiesIn (outputs d k) w) → (v : ℕ) → IsSource d blocks v → slice_get (store_after store o) v ≡ slice_get store v
source_behind d blocks k store None is lies v source = refl
source_behind d blocks k store (Some w) is lies v source = put_other store w v (lies_free d blocks k w is (lies w refl) v source)

-- bits of blocks that no block covers stay
pub bare_step : (d : Parts) (blocks : ℕ → Bool) → Exclusive d blocks → (k : ℕ) (store : Store) (o : Option Write) → blocks k ≡ true → ((w : Write) → o ≡ Some w → LiesIn (outputs d k) w) → BlockBare d blocks store → BlockBare d blocks (store_after store o)
bare_step d blocks exclusive k store None is lies bare = bare
bare_step d blocks exclusive k store (Some w) is lies bare = λ l v n i at_l hit none.
    elim (cases_eq l k) [
      | inl e ↦ (lies w refl).digits store v n i (subst (λ m. list_any (covers v n i) (outputs d m) ≡ false) e none) ∙ bare l v n i at_l hit none
      | inr ne ↦ ap (λ o. digit_in (word_in o n) i) (put_other store w v (lies_other d blocks exclusive k l w is at_l ne (lies w refl) v hit)) ∙ bare l v n i at_l hit none
    ]

-- a block that goes is awake
pub goes_awake : (d : Parts) (blocks : ℕ → Bool) (b : State) (store : Store) (places : List Place) (th : ℕ → Thread) (k : ℕ) (t : Text d k) (gait : Gait) (todo : Todo) → slice_get places k ≡ Some (going gait todo) →
    (IsRested d b store places k ⊎ IsAwake d blocks b th k) → IsAwake d blocks b th k
goes_awake d blocks b store places th k t gait todo is (inl rested) =
    let e : going gait todo ≡ waiting t.terms _ = sym (get_or_from_slice_get places k (going gait todo) ended is) ∙ rested.0 ∙ t.home_is in
    cc
goes_awake d blocks b store places th k t gait todo is (inr awake) = awake

rests_step : (d : Parts) (blocks : ℕ → Bool) → Exclusive d blocks → (b : State) (store : Store) → shape store ≡ shape (start_store d) → (places : List Place) (th : ℕ → Thread) (k : ℕ) (o : Option Write) (p : Place) → blocks k ≡ true →
    ((k : ℕ) → blocks k ≡ true → Text d k) → ((w : Write) → o ≡ Some w → LiesIn (outputs d k) w) → IsAwake d blocks b th k →
    Rests d blocks b store places th → Rests d blocks b (store_after store o) (slice_set (places_after_write store o places) k p) th
rests_step d blocks exclusive b store started places th k o p is texts lies awake rests l at_l =
    elim (cases_eq l k) [
      | inl e ↦ inr (subst (IsAwake d blocks b th) (sym e) awake)
      | inr ne ↦ elim (by_write o lies l at_l) [
        | inl rested ↦ inl (get_or-set_other (places_after_write store o places) k l p ended ne ∙ rested.0, rested.1)
        | inr wakes ↦ inr wakes
      ]
    ]
  where
    by_write : (o : Option Write) → ((w : Write) → o ≡ Some w → LiesIn (outputs d k) w) → Rests d blocks b (store_after store o) (places_after_write store o places) th
    by_write None lies = rests
    by_write (Some w) lies =
        rests_written d blocks b store places th th w texts (λ q changed. awake q (changed_puts d k store started w q (lies w refl) changed)) (λ i u h. h)
        (λ m at_m. elim (cases_eq m k) [
          | inl e ↦ inl (subst (IsAwake d blocks b th) (sym e) awake)
          | inr ne ↦ inr (λ v hit. lies_other d blocks exclusive k m w is at_m ne (lies w refl) v hit)
        ])
        rests

-- a write in what a block writes leaves all signals with a root
pub lies_edges : (d : Parts) (blocks : ℕ → Bool) (b : State) → Apart d blocks b → OutputsUndriven d blocks → (k : ℕ) → blocks k ≡ true → (store : Store) (w : Write) → LiesIn (outputs d k) w → SameEdges d blocks store (put store w)
lies_edges d blocks b apart own k is store w lies root v r (itself bit undriven) = put_other store w root (lies_free d blocks k w is lies root (root_source d blocks b apart root r))
lies_edges d blocks b apart own k is store w lies root v r (through m n before link bit) =
    put_other store w n (lies.signals n (false_from_ne_true (puts_out d k n) (λ hit. true≢false (sym (link_driven d m n link) ∙ own k n is hit))))

-- what holds of processes and of chains behind a step of a block that may write
record Leaves (d : Parts) (blocks : ℕ → Bool) (b : State) (store : Store) (assigns : List AssignState) (places : List Place) (th : ℕ → Thread) (o : Option Write) : Type 0 where
  stands : AllPlaced d blocks b (store_after store o) th
  follow : (i : ℕ) → blocks i ≡ false → get_or (places_after_write store o places) i ended ≡ get_or places i ended
  edges : Edges d blocks b (store_after store o) (assigns_after_write store o assigns) th

block_leaves : (d : Parts) (blocks : ℕ → Bool) (b : State) → Apart d blocks b → OutputsUndriven d blocks → (k : ℕ) → blocks k ≡ true → (store : Store) (assigns : List AssignState) (places : List Place) (th : ℕ → Thread) → (o : Option Write) →
    ((w : Write) → o ≡ Some w → LiesIn (outputs d k) w) → AssignsSound d store assigns → AllPlaced d blocks b store th → Follow blocks places th → Sources d blocks b store th → Sources d blocks b (store_after store o) th →
    Edges d blocks b store assigns th → Leaves d blocks b store assigns places th o
block_leaves d blocks b apart own k is store assigns places th None lies sound stands follow before behind edges = record { stands = stands; follow = λ i other. refl; edges = edges }
block_leaves d blocks b apart own k is store assigns places th (Some w) lies sound stands follow before behind edges =
    let same = lies_edges d blocks b apart own k is store w (lies w refl) in
    record {
      stands = λ i. stands_still d blocks b store (put store w) apart same i (th i) (stands i);
      follow = asleep d blocks b store (put store w) apart same places th (threads_of d blocks b store th stands) follow;
      edges = edges_touched d blocks b store (put store w) assigns th th
          (still_advances d blocks b store (put store w) th apart (shape-put store w ∙ sound.shaped) (threads_of d blocks b store th stands) before behind same)
          (λ m n l x at_x. (link_state d store assigns sound m n l x at_x).1) edges;
    }

-- a step of a block
pub block_runs : (d : Parts) (blocks : ℕ → Bool) → ((k : ℕ) → blocks k ≡ true → Text d k) → Exclusive d blocks → OutputsUndriven d blocks → (b s : State) (th : ℕ → Thread) → Apart d blocks b →
    Running d blocks b s th → (k : ℕ) → blocks k ≡ true → (gait : Gait) (todo : Todo) (out : Out) → slice_get s.places k ≡ Some (going gait todo) → BlockStep d k out →
    Running d blocks b (performed s k (going gait todo) out) th
block_runs d blocks texts exclusive own b s th apart r k is gait todo out at_k made =
    subst (λ (t : State). Running d blocks b t th) (sym (performed_is s k (going gait todo) out)) (record {
      slot = record {
        time = r.slot.time;
        over = r.slot.over;
        count = length-set (places_after_write s.store out.write s.places) k (place_after_step (going gait todo) s.time out.next) ∙ length_behind s.store out.write s.places ∙ r.slot.count;
      };
      sound = behind_sound d s out.write (sound_behind d s out.write undriven r.sound);
      stands = leaves.stands;
      places = λ i other.
          get_or-set_other (places_after_write s.store out.write s.places) k i (place_after_step (going gait todo) s.time out.next) ended (λ e. true≢false (sym is ∙ ap blocks (sym e) ∙ other))
          ∙ leaves.follow i other ∙ r.places i other;
      sources = behind;
      mades = subst (λ us. Mades d blocks b us th) (sym (updates_same k s.time out.update s.updates made.update)) r.mades;
      asks = subst (λ cs. Asks cs th) (sym (calls_same k out.call s.calls made.call)) r.asks;
      finishes = subst (λ f. Finishes b f th) (sym (or_false s.finishing out.finish made.finish)) r.finishes;
      nets = nets_behind d blocks b s.store s.assigns th th r.sound out.write undriven (λ w e q changed. awake q (changed_puts d k s.store r.sound.shaped w q (made.lies w e) changed)) (λ i u h. h) r.nets;
      bare = bare_step d blocks exclusive k s.store out.write is made.lies r.bare;
      rests = rests_step d blocks exclusive b s.store r.sound.shaped s.places th k out.write (place_after_step (going gait todo) s.time out.next) is texts made.lies awake r.rests;
      edges = leaves.edges;
    })
  where
    awake : IsAwake d blocks b th k
    awake = goes_awake d blocks b s.store s.places th k (texts k is) gait todo at_k (r.rests k is)

    undriven : (w : Write) → out.write ≡ Some w → IsUndriven d w
    undriven w e v named = own k v is (true_from_ne_false (puts_out d k v) (λ miss. true≢false (sym named ∙ (made.lies w e).signals v miss)))

    behind : Sources d blocks b (store_after s.store out.write) th
    behind = sources_other d blocks b apart s.store (store_after s.store out.write) th (threads_of d blocks b s.store th r.stands) (source_behind d blocks k s.store out.write is made.lies) r.sources

    leaves : Leaves d blocks b s.store s.assigns s.places th out.write
    leaves = block_leaves d blocks b apart own k is s.store s.assigns s.places th out.write made.lies r.sound r.stands r.places r.sources behind r.edges
