-- Steps of a process that are taken one after another.
use Rattle.std.proofs.Common.{◌≡◌, ℕ, zero, suc, ◌<◌, ◌&&◌, Bool, true, false, Option, Some, None, List, [], ◌∷◌, ◌++◌, slice_get, if◌then◌else◌, refl, sym, ◌∙◌, ap, subst, arith, eq-eqb, append_assoc}
use Rattle.std.specs.Io.KnownBytes.{Appends}
use Rattle.std.proofs.lemmas.List.{append-nil}
use Rattle.std.proofs.lemmas.Bool.{false≢true}
use Rattle.vs_design.specs.Parts.{Parts}
use Rattle.vs_run_active.specs.vs_process.specs.declared.gait.Gait.TheVariants as gaits
use Rattle.vs_run_active.specs.vs_process.specs.Places.{Place, going, sleeping, inactive, waiting, ended, is_going, is_inside}
use Rattle.vs_run_active.specs.vs_process.specs.declared.moves.Move.TheVariants.{Step}
use Rattle.vs_run_active.specs.vs_process.specs.Blocks.{is_step_of_any}
use Rattle.vs_run_active.specs.vs_process.specs.Executions.{apply, if_some, is_enabled}
use Rattle.vs_run_active.specs.vs_process.specs.States.{State}
use Rattle.vs_run_active.specs.Taken.{AreTaken, step_text}
use Rattle.vs_vcd_writing.specs.Progress.{Progress}
use Rattle.vs_vcd_writing.specs.Sinks.{AppendsPart}
use Rattle.vs_run_steps.specs.Insides.{inside_by_flags, is_block_inside}
use Rattle.vs_run_steps.specs.Points.{point}
use Rattle.vs_run_steps.specs.Taken.{TakenPart, TakesSteps}
use Rattle.vs_run_steps.specs.Turns.{AllTurned, AllTurnedPart, EventTurned, EventTurnedPart, IsReached, Turned}
use Rattle.vs_run_steps.proofs.MoveLemmas.{step_inner, step_stands}
use Rattle.vs_run_steps.proofs.PrintsLemmas.{step_prints}
use Rattle.vs_run_steps.proofs.TurnsLemmas.{one_part, one_turned}

-- ---- known bytes

-- the known bytes of a sink after a text
abbrev pub known_after : Option (List ℕ) → List ℕ → Option (List ℕ)
known_after None text = None
known_after (Some bytes) text = Some (bytes ++ text)

known_none : (old : Option (List ℕ)) → known_after old [] ≡ old
known_none None = refl
known_none (Some bytes) = ap Some (append-nil bytes)

known_more : (old : Option (List ℕ)) (xs ys : List ℕ) → Appends (known_after old xs) (known_after old (xs ++ ys)) ys
known_more None xs ys = tt
known_more (Some bytes) xs ys = sym (append_assoc bytes xs ys)

pub known_last : (old new : Option (List ℕ)) (xs ys : List ℕ) → Appends old new (xs ++ ys) → Appends (known_after old xs) new ys
known_last None new xs ys h = tt
known_last (Some bytes) None xs ys h = absurd h
known_last (Some bytes) (Some all) xs ys h = h ∙ sym (append_assoc bytes xs ys)

known_is : (old new : Option (List ℕ)) (xs : List ℕ) → Appends old new xs → (more : Option (List ℕ)) (ys : List ℕ) → AppendsPart new more ys → AppendsPart (known_after old xs) more ys
known_is None new xs h more ys part = (0, tt)
known_is (Some bytes) None xs h more ys part = absurd h
known_is (Some bytes) (Some all) xs h more ys part = subst (λ (o : Option (List ℕ)). AppendsPart o more ys) (ap Some h) part

-- ---- what steps leave

-- the end and the time
pub taken_stands : (n i : ℕ) (s t : State) (text : List ℕ) → AreTaken n i s t text → (t.over ≡ s.over) × (t.time ≡ s.time)
taken_stands zero i s t text h = (ap (λ (r : State). r.over) h.0, ap (λ (r : State). r.time) h.0)
taken_stands (suc n) i s t text h =
    let before = taken_stands n i s h.0 h.1 h.2 in
    let last = step_stands h.0 i in
    (ap (λ (r : State). r.over) h.4 ∙ last.0 ∙ before.0, ap (λ (r : State). r.time) h.4 ∙ last.1 ∙ before.1)

-- a state that is reached
pub taken_reached : (d : Parts) (n i : ℕ) (s t : State) (text : List ℕ) → IsReached d s → AreTaken n i s t text → IsReached d t
taken_reached d zero i s t text h all = subst (IsReached d) (sym all.0) h
taken_reached d (suc n) i s t text h all =
    let before : IsReached d all.0 = taken_reached d n i s all.0 all.1 h all.2 in
    (Step i ∷ before.0, ap (apply (Step i)) before.1 ∙ sym all.4)

-- ---- they are turns

-- the block that has left its control after so many steps of a process
abbrev pub inside_after : ℕ → List Bool → Option ℕ → ℕ → State → Option ℕ
inside_after zero blocks inside i t = inside
inside_after (suc n) blocks inside i t = inside_by_flags blocks t.places (Step i)

own_step : (i : ℕ) (blocks : List Bool) (xs : List Place) → is_step_of_any (inside_by_flags blocks xs (Step i)) (Step i) ≡ true
own_step i blocks xs = by_told (is_block_inside (slice_get blocks i) (slice_get xs i))
  where
    by_told : (b : Bool) → is_step_of_any (if b then Some i else None) (Step i) ≡ true
    by_told true = eq-eqb i i refl
    by_told false = refl

pub free_after : (n : ℕ) (blocks : List Bool) (inside : Option ℕ) (i : ℕ) (t : State) → is_step_of_any inside (Step i) ≡ true → is_step_of_any (inside_after n blocks inside i t) (Step i) ≡ true
free_after zero blocks inside i t free = free
free_after (suc n) blocks inside i t free = own_step i blocks t.places

-- one
step_turned : (blocks : List Bool) (inside : Option ℕ) (i : ℕ) (s t : State) (writer : Option Progress) (vcd old new : Option (List ℕ)) → is_step_of_any inside (Step i) ≡ true → is_enabled s (Step i) ≡ true →
    t ≡ apply (Step i) s → Appends old new (step_text s i) → Turned blocks (point inside s writer vcd old) (point (inside_by_flags blocks t.places (Step i)) t writer vcd new)
step_turned blocks inside i s t writer vcd old new free enabled made printed =
    one_turned blocks inside s t writer vcd old new (Step i) (step_inner i) enabled free made (subst (Appends old new) (sym (step_prints s i)) printed)

-- some, after which the bytes are known that were known before
taken_known : (blocks : List Bool) (inside : Option ℕ) (n i : ℕ) (s t : State) (text : List ℕ) (writer : Option Progress) (vcd old : Option (List ℕ)) → is_step_of_any inside (Step i) ≡ true → s.over ≡ false →
    AreTaken n i s t text → AllTurned n blocks (point inside s writer vcd old) (point (inside_after n blocks inside i t) t writer vcd (known_after old text))
taken_known blocks inside zero i s t text writer vcd old free alive h =
    ap (λ (r : State). point inside r writer vcd (known_after old text)) h.0
    ∙ ap (λ (l : List ℕ). point inside s writer vcd (known_after old l)) h.1 ∙ ap (point inside s writer vcd) (known_none old)
taken_known blocks inside (suc n) i s t text writer vcd old free alive h =
    let before = taken_stands n i s h.0 h.1 h.2 in
    let printed : Appends (known_after old h.1) (known_after old text) (step_text h.0 i) =
    subst (λ (l : List ℕ). Appends (known_after old h.1) (known_after old l) (step_text h.0 i)) (sym h.5) (known_more old h.1 (step_text h.0 i))
    in (
      point (inside_after n blocks inside i h.0) h.0 writer vcd (known_after old h.1),
      taken_known blocks inside n i s h.0 h.1 writer vcd old free alive h.2,
      before.0 ∙ alive,
      before.1,
      step_turned blocks (inside_after n blocks inside i h.0) i h.0 t writer vcd (known_after old h.1) (known_after old text) (free_after n blocks inside i h.0 free) h.3 h.4 printed,
    )

-- one at least
pub taken_turned : (blocks : List Bool) (inside : Option ℕ) (n i : ℕ) (s t : State) (text : List ℕ) (writer : Option Progress) (vcd old new : Option (List ℕ)) → is_step_of_any inside (Step i) ≡ true →
    s.over ≡ false → 0 < n → AreTaken n i s t text → Appends old new text →
    AllTurned n blocks (point inside s writer vcd old) (point (inside_by_flags blocks t.places (Step i)) t writer vcd new)
taken_turned blocks inside zero i s t text writer vcd old new free alive some h printed = absurd (omega (arith, some))
taken_turned blocks inside (suc n) i s t text writer vcd old new free alive some h printed =
    let before = taken_stands n i s h.0 h.1 h.2 in
    let last : Appends (known_after old h.1) new (step_text h.0 i) = known_last old new h.1 (step_text h.0 i) (subst (Appends old new) h.5 printed) in (
      point (inside_after n blocks inside i h.0) h.0 writer vcd (known_after old h.1),
      taken_known blocks inside n i s h.0 h.1 writer vcd old free alive h.2,
      before.0 ∙ alive,
      before.1,
      step_turned blocks (inside_after n blocks inside i h.0) i h.0 t writer vcd (known_after old h.1) new (free_after n blocks inside i h.0 free) h.3 h.4 last,
    )

-- some that failed
pub part_taken : (blocks : List Bool) (inside : Option ℕ) (limit i : ℕ) (s : State) (writer : Option Progress) (vcd old new : Option (List ℕ)) → is_step_of_any inside (Step i) ≡ true → s.over ≡ false →
    TakenPart limit i s old new → AllTurnedPart limit blocks (point inside s writer vcd old) vcd new
part_taken blocks inside limit i s writer vcd old new free alive h =
    let stands = taken_stands h.taken i s h.last h.text h.all in
    record {
      taken = h.taken;
      last = point (inside_after h.taken blocks inside i h.last) h.last writer vcd (known_after old h.text);
      within = h.within;
      turned = taken_known blocks inside h.taken i s h.last h.text writer vcd old free alive h.all;
      going = stands.0 ∙ alive;
      time = stands.1;
      failed =
          one_part (inside_after h.taken blocks inside i h.last) h.last writer vcd (known_after old h.text) new (Step i) (step_inner i) h.enabled (free_after h.taken blocks inside i h.last free)
          (subst (AppendsPart (known_after old h.text) new) (sym (step_prints h.last i)) (known_is old h.mid h.text h.printed new (step_text h.last i) h.part));
    }

-- ---- those of an event

-- a process that isn't active is no block that has left its control
not_inside : (blocks : List Bool) (i : ℕ) (t : State) → if_some is_going (slice_get t.places i) ≡ false → inside_by_flags blocks t.places (Step i) ≡ None
not_inside blocks i t stopped = by_place (slice_get blocks i) (slice_get t.places i) stopped
  where
    at_place : (x : Place) → is_going x ≡ false → is_inside x ≡ false
    at_place (going gaits.Fresh todo) h = refl
    at_place (going gaits.Woken todo) h = refl
    at_place (going gaits.Inside todo) h = absurd (false≢true (sym h))
    at_place (sleeping due todo) h = refl
    at_place (inactive todo) h = refl
    at_place (waiting terms todo) h = refl
    at_place ended h = refl

    and_false : (b c : Bool) → c ≡ false → (b && c) ≡ false
    and_false true c h = h
    and_false false c h = refl

    by_place : (block : Option Bool) (x : Option Place) → if_some is_going x ≡ false → (if is_block_inside block x then Some i else None) ≡ None
    by_place None x h = refl
    by_place (Some b) None h = refl
    by_place (Some b) (Some x) h = ap (λ (c : Bool). if c then Some i else None) (and_false b (is_inside x) (at_place x h))

pub event_taken : (blocks : List Bool) (limit n i : ℕ) (s t : State) (old new : Option (List ℕ)) → s.over ≡ false → 0 < n → TakesSteps limit n i s t old new → EventTurned limit n blocks s t old new
event_taken blocks limit n i s t old new alive some h =
    let stands = taken_stands n i s t h.text h.all in
    record {
      within = h.within;
      going = stands.0 ∙ alive;
      time = stands.1;
      now = inside_by_flags blocks t.places (Step i);
      closed = λ fewer. not_inside blocks i t (h.stopped fewer);
      turned = λ writer vcd. taken_turned blocks None n i s t h.text writer vcd old new refl alive some h.all h.printed;
    }

pub event_part : (blocks : List Bool) (limit i : ℕ) (s : State) (old new : Option (List ℕ)) → s.over ≡ false → TakenPart limit i s old new → EventTurnedPart limit blocks s old new
event_part blocks limit i s old new alive h = λ writer vcd. part_taken blocks None limit i s writer vcd old new refl alive h
