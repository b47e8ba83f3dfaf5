-- How combinational blocks fare: each is fresh, or waits and was never woken, or waits and follows its inputs, or was woken, or is inside its run.
use Rattle.std.proofs.Common.{◌≡◌, ℕ, ◌||◌, ◌⊎◌, Bool, true, false, List, [], ◌∷◌, refl, sym, ◌∙◌, ap, subst, inl, inr, ◌++◌}
use Rattle.std.specs.List.{list_any}
use Rattle.std.proofs.lemmas.Bool.{cases_Bool, true≢false}
use Rattle.vs_design.specs.declared.range.BitRange.{BitRange}
use Rattle.vs_design.specs.Parts.{Parts}
use Rattle.vs_design.specs.Stores.{Store, put, is_changed, start_store, word_in}
use Rattle.vs_design.specs.Uses.{covers, is_of}
use Rattle.vs_design.specs.Writes.{Write, names}
use Rattle.vs_process.specs.vs_eval.specs.Laws.{digit_in}
use Rattle.vs_process.specs.declared.gait.Gait.{Gait}
use Rattle.vs_process.specs.declared.gait.Gait.TheVariants.{Fresh, Woken, Inside}
use Rattle.vs_process.specs.Places.{Todo, Place, perform, going, waiting, flat, stepped_gait, todo_of, is_inside, is_going}
use Rattle.vs_process.specs.Steps.{Out, goes, on, wait, step}
use Rattle.vs_process.specs.States.{place_after_step, wakened}
use Rattle.vs_process.proofs.Ranges.{covers_signal, same_content}
use Rattle.vs_process.proofs.Values.{same_unchanged, unchanged, not_changed}
use Rattle.vs_process.specs.Threads.{Thread, moved, store_after, turn_at}
use Rattle.vs_process.specs.BlockDrivers.{home, control, outputs, puts_out, sizes, woken_on, AgreeOn, Arrives, IsBlock, IsRun, SameOutputs}
use Rattle.vs_process.proofs.Bits.{by_bit}
use Rattle.vs_process.proofs.Contents.{unchanged_covered}
use Rattle.vs_process.proofs.Texts.{Text, OnWay, GoesOrWaits, goes_on, arrives, stands_next, home_stays, home_wakes}
use Rattle.vs_process.proofs.BlockRuns.{BlockStep, RunFacts, on_way, run_facts, run_step, run_begins, run_turns, still_step}
use Rattle.vs_process.proofs.ProcessLists.{none_at}
use Rattle.std.proofs.lemmas.Map.Keys.{any_passes_from_place as at_any}
use Rattle.vs_design.specs.vs_logic4.proofs.Basics.{element_of as any_at}
use Rattle.vs_process.proofs.Stores.{put_other, shape-put}

-- a block that has come to its control behind a run, since when nothing that it follows has changed
pub record Follows (d : Parts) (inputs : List BitRange) (k : ℕ) (store : Store) : Type 0 where
  pub time : ℕ
  pub from : Store
  pub end : Thread
  pub run : Arrives d k time from end
  pub sized : sizes from ≡ sizes (start_store d)
  pub agrees : AgreeOn d k inputs from store
  pub same : SameOutputs d k end.view store

-- the two places of a block on its first way to its control
abbrev pub IsFirst : (d : Parts) (k : ℕ) → Text d k → Todo → Type 0
IsFirst d k t todo = (todo ≡ perform t.process.body ∷ []) ⊎ (todo ≡ perform t.event ∷ perform t.process.body ∷ [])

pub data Fares (d : Parts) (inputs : List BitRange) (k : ℕ) (t : Text d k) (late ran : Bool) (time : ℕ) (store : Store) (place : Place) : Type 0 where
  fresh : (todo : Todo) → place ≡ going Fresh todo → IsFirst d k t todo → SameOutputs d k store (start_store d) → ran ≡ false → late ≡ false → Fares d inputs k t late ran time store place
  unfed : place ≡ home d k → SameOutputs d k store (start_store d) → ran ≡ false → Fares d inputs k t late ran time store place
  fed : place ≡ home d k → Follows d inputs k store → ran ≡ true → Fares d inputs k t late ran time store place
  woken : place ≡ going Woken (todo_of (home d k)) → ran ≡ true → Fares d inputs k t late ran time store place
  inside : (todo : Todo) (from : Store) (th : Thread) → place ≡ going Inside todo → IsRun d k time from th → sizes from ≡ sizes (start_store d) → th.place ≡ place → th.view ≡ store → ran ≡ true →
      Fares d inputs k t late ran time store place

-- whether a block is on its way behind its control
abbrev pub is_awake : Place → Bool
is_awake (going Woken todo) = true
is_awake (going Inside todo) = true
is_awake _ = false

pub home_asleep : (d : Parts) (k : ℕ) (t : Text d k) → is_awake (home d k) ≡ false
home_asleep d k t = ap is_awake t.home_is

pub or_none : (b : Bool) (c : Bool) → b ≡ false → c ≡ false → (b || c) ≡ false
or_none b c h g = ap (λ x. x || c) h ∙ g

pub or_some : (b : Bool) (c : Bool) → b ≡ true → (b || c) ≡ true
or_some b c h = ap (λ x. x || c) h

pub or_last : (b : Bool) (c : Bool) → c ≡ true → (b || c) ≡ true
or_last true c h = refl
or_last false c h = h

-- ---- stores

pub covered_puts : (d : Parts) (k v w n : ℕ) → list_any (covers v w n) (outputs d k) ≡ true → puts_out d k v ≡ true
covered_puts d k v w n h =
    let found = any_at (covers v w n) (outputs d k) h in
    at_any (is_of v) (outputs d k) found.0 found.1 found.2 (covers_signal v w n found.1 found.3)

-- behind a write that is none of its own
outputs_stay : (d : Parts) (k : ℕ) (store : Store) (w : Write) (a : Store) → ((v : ℕ) → puts_out d k v ≡ true → names w v ≡ false) → SameOutputs d k store a → SameOutputs d k (put store w) a
outputs_stay d k store w a free same v n i h = ap (λ o. digit_in (word_in o n) i) (put_other store w v (free v (covered_puts d k v n i h))) ∙ same v n i h

same_outputs_back : (d : Parts) (k : ℕ) (a c : Store) → SameOutputs d k a c → SameOutputs d k c a
same_outputs_back d k a c same v n i h = sym (same v n i h)

-- two stores that agree on a block's control agree on what it follows
pub inputs_agree : (d : Parts) (inputs : List BitRange) (k : ℕ) → IsBlock d inputs k → (a c : Store) → sizes a ≡ sizes (start_store d) → sizes a ≡ sizes c → list_any (is_changed a c) (control d k) ≡ false → AgreeOn d k inputs a c
inputs_agree d inputs k block a c started sized none r is other =
    same_unchanged a c r (same_content a c r sized (λ w n at_r. by_bit d a c started sized r.signal w n (λ bit.
    let found = any_at (covers r.signal w n) (control d k) (block.covered r w n bit is other at_r) in
    unchanged_covered a c found.1 r.signal w n (none_at (is_changed a c) (control d k) found.0 found.1 found.2 none) found.3)))

pub agree_then : (d : Parts) (inputs : List BitRange) (k : ℕ) (a c e : Store) → AgreeOn d k inputs a c → AgreeOn d k inputs c e → AgreeOn d k inputs a e
agree_then d inputs k a c e one other r is out = same_unchanged a e r (unchanged a c r (one r is out) ∙ unchanged c e r (other r is out))

-- ---- behind another one's write

pub fares_written : (d : Parts) (inputs : List BitRange) (k : ℕ) (t : Text d k) → IsBlock d inputs k → (late ran : Bool) (time : ℕ) (store : Store) (place : Place) (w : Write) → sizes store ≡ sizes (start_store d) →
    ((v : ℕ) → puts_out d k v ≡ true → names w v ≡ false) → (is_inside place ≡ true → ⊥) →
    Fares d inputs k t late ran time store place → Fares d inputs k t late (ran || is_awake (wakened store (put store w) place)) time (put store w) (wakened store (put store w) place)
fares_written d inputs k t block late ran time store place w started free out f = by_fares f
  where
    new : Store
    new = put store w

    After : Type 0
    After = Fares d inputs k t late (ran || is_awake (wakened store new place)) time new (wakened store new place)

    goes_still : (gait : Gait) (todo : Todo) → place ≡ going gait todo → wakened store new place ≡ going gait todo
    goes_still gait todo is = ap (wakened store new) is

    wakes_up : place ≡ home d k → list_any (is_changed store new) (control d k) ≡ true → After
    wakes_up is hit =
        let e : wakened store new place ≡ going Woken (todo_of (home d k)) = ap (wakened store new) is ∙ home_wakes d k t store new hit in
        woken e (or_last ran (is_awake (wakened store new place)) (ap is_awake e))

    stays_home : place ≡ home d k → list_any (is_changed store new) (control d k) ≡ false → wakened store new place ≡ home d k
    stays_home is miss = ap (wakened store new) is ∙ home_stays d k t store new miss

    by_fares : Fares d inputs k t late ran time store place → After
    by_fares (fresh todo is way same none first) =
        let e : wakened store new place ≡ going Fresh todo = goes_still Fresh todo is in
        fresh todo e way (outputs_stay d k store w (start_store d) free same) (or_none ran (is_awake (wakened store new place)) none (ap is_awake e)) first
    by_fares (unfed is same none) =
        elim (cases_Bool (list_any (is_changed store new) (control d k))) [
          | inl hit ↦ wakes_up is hit
          | inr miss ↦ let e : wakened store new place ≡ home d k = stays_home is miss in
              unfed e (outputs_stay d k store w (start_store d) free same) (or_none ran (is_awake (wakened store new place)) none (ap is_awake e ∙ home_asleep d k t))
        ]
    by_fares (fed is follows some) =
        elim (cases_Bool (list_any (is_changed store new) (control d k))) [
          | inl hit ↦ wakes_up is hit
          | inr miss ↦ fed (stays_home is miss) (record {
            time = follows.time;
            from = follows.from;
            end = follows.end;
            run = follows.run;
            sized = follows.sized;
            agrees = agree_then d inputs k follows.from store new follows.agrees (inputs_agree d inputs k block store new started (sym (shape-put store w)) miss);
            same = same_outputs_back d k new follows.end.view (outputs_stay d k store w follows.end.view free (same_outputs_back d k follows.end.view store follows.same));
          }) (or_some ran (is_awake (wakened store new place)) some)
        ]
    by_fares (woken is some) = woken (goes_still Woken (todo_of (home d k)) is) (or_some ran (is_awake (wakened store new place)) some)
    by_fares (inside todo from th is run sized at same some) = absurd (out (ap is_inside is))

-- ---- where nothing changes

pub fares_still : (d : Parts) (inputs : List BitRange) (k : ℕ) (t : Text d k) (late ran : Bool) (time : ℕ) (store : Store) (place : Place) → Fares d inputs k t late ran time store place → Fares d inputs k t late (ran || is_awake place) time store place
fares_still d inputs k t late ran time store place (fresh todo is way same none first) = fresh todo is way same (or_none ran (is_awake place) none (ap is_awake is)) first
fares_still d inputs k t late ran time store place (unfed is same none) = unfed is same (or_none ran (is_awake place) none (ap is_awake is ∙ home_asleep d k t))
fares_still d inputs k t late ran time store place (fed is follows some) = fed is follows (or_some ran (is_awake place) some)
fares_still d inputs k t late ran time store place (woken is some) = woken is (or_some ran (is_awake place) some)
fares_still d inputs k t late ran time store place (inside todo from th is run sized at same some) = inside todo from th is run sized at same (or_some ran (is_awake place) some)

-- ---- its own steps

pub record OwnStep (d : Parts) (inputs : List BitRange) (k : ℕ) (t : Text d k) (late ran : Bool) (time : ℕ) (store : Store) (gait : Gait) (todo : Todo) : Type 0 where
  pub made : BlockStep d k (step todo store time)
  pub fares : Fares d inputs k t late (ran || is_awake (place_after_step (going gait todo) time (step todo store time).next)) time (store_after store (step todo store time).write) (place_after_step (going gait todo) time (step todo store time).next)

-- of a run
run_goes : (d : Parts) (inputs : List BitRange) (k : ℕ) (t : Text d k) → IsBlock d inputs k → (late ran : Bool) (time : ℕ) (from : Store) (th : Thread) (gait : Gait) (todo : Todo) → ran ≡ true →
    IsRun d k time from th → sizes from ≡ sizes (start_store d) → th.place ≡ going gait todo → OwnStep d inputs k t late ran time th.view gait todo
run_goes d inputs k t block late ran time from th gait todo some run sized at = record {
  made = run_step d k t inputs block time from th gait todo run at;
  fares = by_stand (subst (λ g. GoesOrWaits d k t g next.place) way.1 (stands_next d k t gait todo th.view time way.0));
}
  where
    out : Out
    out = step todo th.view time

    next : Thread
    next = moved time k (going gait todo) out th

    next_run : IsRun d k time from next
    next_run = subst (λ p. IsRun d k time from (turn_at time k p th)) at (run_turns d k time from th run)

    way : OnWay d k t todo × (stepped_gait gait ≡ Inside)
    way = on_way d k t gait todo th.place at (run_facts d k t time from th run).stands

    facts : RunFacts d k t from next
    facts = run_facts d k t time from next next_run

    by_stand : GoesOrWaits d k t Inside next.place → Fares d inputs k t late (ran || is_awake next.place) time next.view next.place
    by_stand (goes_on other on_it is) = inside other from next is next_run sized refl refl (or_some ran (is_awake next.place) some)
    by_stand (arrives is) = fed is (record {
      time = time;
      from = from;
      end = next;
      run = record { run = next_run; home = is };
      sized = sized;
      agrees = λ r named other. not_changed from next.view r (facts.keeps r.signal other);
      same = λ v n i h. refl;
    }) (or_some ran (is_awake next.place) some)

-- of a fresh block
fresh_goes : (d : Parts) (inputs : List BitRange) (k : ℕ) (t : Text d k) (late ran : Bool) (time : ℕ) (store : Store) (todo : Todo) → ran ≡ false → late ≡ false → SameOutputs d k store (start_store d) → IsFirst d k t todo →
    OwnStep d inputs k t late ran time store Fresh todo
fresh_goes d inputs k t late ran time store todo none first same (inl is) =
    let body = perform t.process.body ∷ [] in
    let to : step body store time ≡ goes (on (perform t.event ∷ body)) = t.turn_is [] store time ∙ ap (λ l. goes (on (l ++ body))) t.flat_event in
    subst (OwnStep d inputs k t late ran time store Fresh) (sym is) (record {
      made = still_step d k (on (perform t.event ∷ body)) (step body store time) to;
      fares = subst (λ (out : Out). Fares d inputs k t late (ran || is_awake (place_after_step (going Fresh body) time out.next)) time (store_after store out.write) (place_after_step (going Fresh body) time out.next)) (sym to)
          (fresh (perform t.event ∷ body) refl (inr refl) same (or_none ran false none refl) first);
    })
fresh_goes d inputs k t late ran time store todo none first same (inr is) =
    let front = perform t.event ∷ perform t.process.body ∷ [] in
    let end = flat t.inner ++ perform t.process.body ∷ [] in
    let to : step front store time ≡ goes (wait t.number t.terms end) = t.arrival_is (perform t.process.body ∷ []) store time in
    subst (OwnStep d inputs k t late ran time store Fresh) (sym is) (record {
      made = still_step d k (wait t.number t.terms end) (step front store time) to;
      fares = subst (λ (out : Out). Fares d inputs k t late (ran || is_awake (place_after_step (going Fresh front) time out.next)) time (store_after store out.write) (place_after_step (going Fresh front) time out.next)) (sym to)
          (unfed (sym t.home_is) same (or_none ran false none refl));
    })

pub own_step : (d : Parts) (inputs : List BitRange) (k : ℕ) (t : Text d k) → IsBlock d inputs k → (late ran : Bool) (time : ℕ) (store : Store) (place : Place) (gait : Gait) (todo : Todo) → sizes store ≡ sizes (start_store d) → place ≡ going gait todo →
    Fares d inputs k t late ran time store place → OwnStep d inputs k t late ran time store gait todo
own_step d inputs k t block late ran time store place gait todo sized at (fresh other is way same none first) =
    let e : going gait todo ≡ going Fresh other = sym at ∙ is in
    let g : gait ≡ Fresh = cc in
    let l : todo ≡ other = cc in
    subst (λ g. OwnStep d inputs k t late ran time store g todo) (sym g) (fresh_goes d inputs k t late ran time store todo none first same (subst (IsFirst d k t) (sym l) way))
own_step d inputs k t block late ran time store place gait todo sized at (unfed is same none) = let e : going gait todo ≡ waiting t.terms _ = sym at ∙ is ∙ t.home_is in cc
own_step d inputs k t block late ran time store place gait todo sized at (fed is follows some) = let e : going gait todo ≡ waiting t.terms _ = sym at ∙ is ∙ t.home_is in cc
own_step d inputs k t block late ran time store place gait todo sized at (woken is some) =
    run_goes d inputs k t block late ran time store (woken_on d k store) gait todo some (run_begins d k time store) sized (sym is ∙ at)
own_step d inputs k t block late ran time store place gait todo sized at (inside other from th is run from_sized th_at same some) =
    subst (λ s. OwnStep d inputs k t late ran time s gait todo) same (run_goes d inputs k t block late ran time from th gait todo some run from_sized (th_at ∙ at))

-- a block that does not go does not ask for the time
pub fares_later : (d : Parts) (inputs : List BitRange) (k : ℕ) (t : Text d k) (late ran : Bool) (time next : ℕ) (store : Store) (place : Place) → is_going place ≡ false → Fares d inputs k t late ran time store place → Fares d inputs k t late ran next store place
fares_later d inputs k t late ran time next store place quiet (fresh todo is way same none first) = absurd (true≢false (sym (ap is_going is) ∙ quiet))
fares_later d inputs k t late ran time next store place quiet (unfed is same none) = unfed is same none
fares_later d inputs k t late ran time next store place quiet (fed is follows some) = fed is follows some
fares_later d inputs k t late ran time next store place quiet (woken is some) = absurd (true≢false (sym (ap is_going is) ∙ quiet))
fares_later d inputs k t late ran time next store place quiet (inside todo from th is run sized at same some) = absurd (true≢false (sym (ap is_going is) ∙ quiet))
