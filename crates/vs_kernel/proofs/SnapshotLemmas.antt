-- A run that goes on.
use Rattle.std.proofs.Common.{◌≡◌, ℕ, ◌+◌, ◌-◌, ◌<◌, Bool, true, false, Option, Some, None, List, slice_get, if◌then◌else◌, refl, sym, ◌∙◌, ap, ap₂, subst, arith}
use Rattle.std.proofs.lemmas.Bool.{and_parts, false≢true, true≢false}
use Rattle.vs_process.specs.declared.gait.Gait.TheVariants as gaits
use Rattle.vs_process.specs.Places.{Place, going, sleeping, inactive, waiting, ended, is_going, is_inside}
use Rattle.vs_run_active.specs.vs_process.specs.declared.moves.Move.{Move}
use Rattle.vs_run_active.specs.vs_process.specs.declared.moves.Move.TheVariants.{Step, Evaluate, Propagate, Make, Rouse, Activate, EndSlot}
use Rattle.std.specs.Io.KnownBytes.{Appends}
use Rattle.vs_run_active.specs.vs_process.specs.Blocks.{is_step_of_any}
use Rattle.vs_run_active.specs.vs_process.specs.Executions.{apply, if_some, is_enabled, move_lines}
use Rattle.vs_run_active.specs.vs_process.specs.States.{State}
use Rattle.vs_run_steps.specs.Runs.{IsRunOf, Running, marks_of, state_of}
use Rattle.vs_kernel.specs.Snapshot.{HasMoved, HasMovedPart, IsSnapshot, Snapshot, point_of}
use Rattle.vs_run_steps.specs.Insides.{inside_by_flags, is_block_inside}
use Rattle.vs_run_steps.specs.Points.{Point, point}
use Rattle.vs_run_steps.specs.Prints.{lines_text}
use Rattle.vs_run_steps.specs.Turns.{AllTurned, AllTurnedPart, EventTurned, EventTurnedPart, GoesOn, RunsTo, Turned, TurnedPart, Turning}
use Rattle.vs_run_steps.proofs.TurnsLemmas.{all_then, once_part, one_part, one_turned, turned_last, turned_so_far, turning_one, turning_part}
use Rattle.vs_vcd_writing.specs.Progress.{Progress}
use Rattle.vs_vcd_writing.specs.Sinks.{AppendsPart}
use Rattle.vs_run_steps.specs.declared.run.RunState.{RunState}
use Rattle.vs_kernel.specs.vs_run_active.specs.declared.queue.Queue.{Queue}
use Rattle.vs_kernel.specs.vs_run_regions.specs.declared.event.Event.{Event}
use Rattle.vs_kernel.specs.vs_run_regions.specs.declared.event.Event.TheVariants as e
use Rattle.vs_kernel.specs.Running.{IsMade, IsSingle, move_of}
use Rattle.vs_kernel.proofs.RunLemmas.{event_inner, queue_run}
use Rattle.vs_kernel.specs.vs_run_active.specs.Changes.{MarkChanges}
use Rattle.vs_kernel.proofs.MarkingLemmas.{kept_on}

-- where no block has left its control, none goes on
pub none_goes : (o : Option ℕ) → o ≡ None → (i : ℕ) → o ≡ Some i → ⊥
none_goes o none i some = no_some (sym none ∙ some)
  where
    no_some : None ≡ Some i → ⊥
    no_some e = cc

-- after moves of events
pub standing_on : (s t : Snapshot) → s ≡ t → IsSnapshot t → t.inside ≡ None → (r : Running) → IsRunOf s.design r →
    MarkChanges (marks_of s.running) (marks_of r) (state_of s.running).store (state_of r).store → IsSnapshot (record s { running = r })
standing_on s t same h none r run changes =
    let here : IsSnapshot s = subst IsSnapshot (sym same) h in
    let outside : s.inside ≡ None = ap (λ (x : Snapshot). x.inside) same ∙ none in
    record {
      run = run;
      recording = kept_on s.design s.running r s.writer here.recording changes;
      goes_on = λ i is. absurd (none_goes s.inside outside i is);
      first = here.first;
    }

-- ---- runs behind one another

-- a run that is this one but for its state, its block and its writer
abbrev pub IsLike : Snapshot → Snapshot → Type 0
IsLike s t = t ≡ record s { running = t.running; inside = t.inside; writer = t.writer }

pub like_like : (s t u : Snapshot) → IsLike s t → IsLike t u → IsLike s u
like_like s t u h k = k ∙ ap (λ (x : Snapshot). record x { running = u.running; inside = u.inside; writer = u.writer }) h

pub like_blocks : (s t : Snapshot) → IsLike s t → t.blocks ≡ s.blocks
like_blocks s t h = ap (λ (x : Snapshot). x.blocks) h

-- but for its state
abbrev pub IsStill : Snapshot → Snapshot → Type 0
IsStill s t = t ≡ record s { running = t.running }

still_like : (s t : Snapshot) → IsStill s t → IsLike s t
still_like s t h =
    h ∙ ap₂ (λ (o : Option ℕ) (w : Option Progress). record s { running = t.running; inside = o; writer = w }) (sym (ap (λ (x : Snapshot). x.inside) h)) (sym (ap (λ (x : Snapshot). x.writer) h))

pub like_still : (s t u : Snapshot) → IsLike s t → IsStill t u → IsLike s u
like_still s t u h k = like_like s t u h (still_like t u k)

-- but for its state and its block
abbrev pub IsMoved : Snapshot → Snapshot → Type 0
IsMoved s t = t ≡ record s { running = t.running; inside = t.inside }

pub like_moved : (s t u : Snapshot) → IsLike s t → IsMoved t u → IsLike s u
like_moved s t u h k = like_like s t u h
    (k ∙ ap (λ (w : Option Progress). record t { running = u.running; inside = u.inside; writer = w }) (sym (ap (λ (x : Snapshot). x.writer) k)))

-- but for its state and its writer
abbrev pub IsLeft : Snapshot → Snapshot → Type 0
IsLeft s t = t ≡ record s { running = t.running; writer = t.writer }

pub like_left : (s t u : Snapshot) → IsLike s t → IsLeft t u → IsLike s u
like_left s t u h k = like_like s t u h
    (k ∙ ap (λ (o : Option ℕ). record t { running = u.running; inside = o; writer = u.writer }) (sym (ap (λ (x : Snapshot). x.inside) k)))

-- ---- turns

-- the point of a run whose state is the same
pub still_point : (t u : Snapshot) (vcd lines : Option (List ℕ)) → IsStill t u → state_of u.running ≡ state_of t.running → point_of u u.inside vcd lines ≡ point_of t t.inside vcd lines
still_point t u vcd lines h state =
    ap₂ (λ (o : Option ℕ) (x : State). point o x u.writer vcd lines) (ap (λ (x : Snapshot). x.inside) h) state ∙ ap (λ (w : Option Progress). point t.inside (state_of t.running) w vcd lines) (ap (λ (x : Snapshot). x.writer) h)

pub turning_still : {blocks : List Bool} {steps left : ℕ} {p : Point} {vcd lines : Option (List ℕ)} (t u : Snapshot) → IsStill t u → state_of u.running ≡ state_of t.running →
    Turning blocks steps left p (point_of t t.inside vcd lines) → Turning blocks steps left p (point_of u u.inside vcd lines)
turning_still {blocks} {steps} {left} {p} {vcd} {lines} t u h state a = subst (Turning blocks steps left p) (sym (still_point t u vcd lines h state)) a

-- the moves of an event behind turns
pub turning_moved : {blocks : List Bool} {steps left n : ℕ} {p : Point} {vcd lines new : Option (List ℕ)} (t u : Snapshot) → t.blocks ≡ blocks → Turning blocks steps left p (point_of t t.inside vcd lines) →
    (h : HasMoved left n t u lines new) → Turning blocks steps (left - n) p (point_of u h.inside vcd new)
turning_moved {blocks} {steps} {left} {n} {p} {vcd} {lines} {new} t u same a h = record {
  taken = a.taken + n;
  count = omega (arith, a.count, h.within);
  going = h.going;
  time = h.time ∙ a.time;
  all = all_then a.taken n blocks p (point_of t t.inside vcd lines) (point_of u h.inside vcd new) a.all a.time
      (subst (λ (l : List Bool). AllTurned n l (point_of t t.inside vcd lines) (point_of u h.inside vcd new)) same (h.turned vcd));
}

-- where steps are left the run tells the block that has left its control
pub turning_told : {blocks : List Bool} {steps left n : ℕ} {p : Point} {vcd lines new : Option (List ℕ)} (t u : Snapshot) → t.blocks ≡ blocks → Turning blocks steps left p (point_of t t.inside vcd lines) →
    HasMoved left n t u lines new → 0 < left - n → Turning blocks steps (left - n) p (point_of u u.inside vcd new)
turning_told {blocks} {steps} {left} {n} {p} {vcd} {lines} {new} t u same a h some =
    subst (λ (o : Option ℕ). Turning blocks steps (left - n) p (point_of u o vcd new)) (h.told (omega (arith, some))) (turning_moved t u same a h)

-- where none are left
pub moved_ended : {blocks : List Bool} {steps left n : ℕ} {p : Point} {vcd lines new : Option (List ℕ)} (t u : Snapshot) → t.blocks ≡ blocks → Turning blocks steps left p (point_of t t.inside vcd lines) →
    HasMoved left n t u lines new → left - n ≡ 0 → RunsTo steps 0 blocks p u.inside (λ now. point_of u now vcd new)
moved_ended {blocks} {steps} {left} {n} {p} {vcd} {lines} {new} t u same a h none =
    (h.inside, turned_so_far (subst (λ (k : ℕ). Turning blocks steps k p (point_of u h.inside vcd new)) none (turning_moved t u same a h)), λ some. absurd (omega (arith, some)))

-- an event that failed
pub moved_failed : {blocks : List Bool} {steps left : ℕ} {p : Point} {vcd lines new : Option (List ℕ)} (t : Snapshot) → t.blocks ≡ blocks → Turning blocks steps left p (point_of t t.inside vcd lines) →
    HasMovedPart left t lines new → AllTurnedPart steps blocks p vcd new
moved_failed {blocks} {steps} {left} {p} {vcd} {lines} {new} t same a part =
    turning_part a (subst (λ (l : List Bool). AllTurnedPart left l (point_of t t.inside vcd lines) vcd new) same (part vcd))

-- the move between events
pub outside_point : (t : Snapshot) (vcd lines : Option (List ℕ)) → t.inside ≡ None → point_of t t.inside vcd lines ≡ point_of t None vcd lines
outside_point t vcd lines none = ap (λ (o : Option ℕ). point_of t o vcd lines) none

pub turning_outside : {blocks : List Bool} {steps left : ℕ} {p : Point} {vcd lines : Option (List ℕ)} (t : Snapshot) → t.inside ≡ None → Turning blocks steps left p (point_of t t.inside vcd lines) →
    Turning blocks steps left p (point_of t None vcd lines)
turning_outside {blocks} {steps} {left} {p} {vcd} {lines} t none a = subst (Turning blocks steps left p) (outside_point t vcd lines none) a

pub region_ended : {blocks : List Bool} {steps left : ℕ} {p : Point} {vcd lines vcd' lines' : Option (List ℕ)} (t u : Snapshot) → t.blocks ≡ blocks → t.inside ≡ None → IsLeft t u →
    Turning blocks steps left p (point_of t t.inside vcd lines) → 0 < left → Turned t.blocks (point_of t None vcd lines) (point_of u None vcd' lines') →
    RunsTo steps (left - 1) blocks p u.inside (λ now. point_of u now vcd' lines')
region_ended {blocks} {steps} {left} {p} {vcd} {lines} {vcd'} {lines'} t u same none like a some turned =
    let count : 1 + (left - 1) ≡ left = omega (arith, some) in (
      None,
      turned_last (turning_outside t none a) (left - 1) (point_of u None vcd' lines') (subst (λ (l : List Bool). Turned l (point_of t None vcd lines) (point_of u None vcd' lines')) same turned) count,
      λ more. sym (ap (λ (x : Snapshot). x.inside) like ∙ none),
    )

pub region_goes_on : {blocks : List Bool} {steps left : ℕ} {p : Point} {vcd lines vcd' lines' : Option (List ℕ)} (t u : Snapshot) → t.blocks ≡ blocks → t.inside ≡ None → IsLeft t u →
    Turning blocks steps left p (point_of t t.inside vcd lines) → 0 < left → Turned t.blocks (point_of t None vcd lines) (point_of u None vcd' lines') → (state_of u.running).over ≡ false →
    (state_of u.running).time ≡ (state_of t.running).time → Turning blocks steps (left - 1) p (point_of u u.inside vcd' lines')
region_goes_on {blocks} {steps} {left} {p} {vcd} {lines} {vcd'} {lines'} t u same none like a some turned alive time =
    let count : 1 + (left - 1) ≡ left = omega (arith, some) in
    subst (Turning blocks steps (left - 1) p) (sym (outside_point u vcd' lines' (ap (λ (x : Snapshot). x.inside) like ∙ none)))
    (turning_one (turning_outside t none a) (left - 1) (point_of u None vcd' lines')
    (subst (λ (l : List Bool). Turned l (point_of t None vcd lines) (point_of u None vcd' lines')) same turned) count alive time)

-- ---- the first event

-- the moves of an event where no block has left its control
pub first_moved : {limit n : ℕ} {lines new : Option (List ℕ)} (s t u : Snapshot) (r : Running) → s ≡ t → t.inside ≡ None → u ≡ record s { running = r } →
    EventTurned limit n s.blocks (state_of s.running) (state_of r) lines new → HasMoved limit n t u lines new
first_moved {limit} {n} {lines} {new} s t u r back none is e =
    subst (λ (x : Snapshot). HasMoved limit n x u lines new) back
    (subst (λ (y : Snapshot). HasMoved limit n s y lines new) (sym is)
    (let outside : s.inside ≡ None = ap (λ (x : Snapshot). x.inside) back ∙ none in
    record {
      within = e.within;
      going = e.going;
      time = e.time;
      inside = e.now;
      told = λ fewer. e.closed fewer ∙ sym outside;
      turned = λ vcd.
          subst (λ (o : Option ℕ). AllTurned n s.blocks (point_of s o vcd lines) (point e.now (state_of r) s.writer vcd new)) (sym outside) (e.turned s.writer vcd);
    }))

pub first_part : {limit : ℕ} {lines new : Option (List ℕ)} (s t : Snapshot) → s ≡ t → t.inside ≡ None → EventTurnedPart limit s.blocks (state_of s.running) lines new → HasMovedPart limit t lines new
first_part {limit} {lines} {new} s t back none part = λ vcd.
    subst (λ (x : Snapshot). AllTurnedPart limit x.blocks (point_of x x.inside vcd lines) vcd new) back
    (subst (λ (o : Option ℕ). AllTurnedPart limit s.blocks (point_of s o vcd lines) vcd new) (sym (ap (λ (x : Snapshot). x.inside) back ∙ none)) (part s.writer vcd))

-- where the first event is next
pub first_outside : (s : Snapshot) → IsSnapshot s → s.chooses ≡ false → s.inside ≡ None
first_outside s h off = h.first off

-- no block keeps an event from being next
pub none_free : (o : Option ℕ) (m : Move) → o ≡ None → is_step_of_any o m ≡ true
none_free o m none = subst (λ (x : Option ℕ). is_step_of_any x m ≡ true) (sym none) refl

-- ---- where a policy chooses

-- a block that has left its control goes on
pub told_goes : (blocks : List Bool) (s : State) (m : Move) → GoesOn (inside_by_flags blocks s.places m) s
told_goes blocks s (Step k) = by_told (is_block_inside (slice_get blocks k) (slice_get s.places k)) refl
  where
    at_place : (x : Place) → is_inside x ≡ true → is_going x ≡ true
    at_place (going gaits.Fresh todo) h = absurd (false≢true h)
    at_place (going gaits.Woken todo) h = absurd (false≢true h)
    at_place (going gaits.Inside todo) h = refl
    at_place (sleeping due todo) h = absurd (false≢true h)
    at_place (inactive todo) h = absurd (false≢true h)
    at_place (waiting terms todo) h = absurd (false≢true h)
    at_place ended h = absurd (false≢true h)

    by_place : (block : Option Bool) (x : Option Place) → is_block_inside block x ≡ true → if_some is_going x ≡ true
    by_place None x h = absurd (false≢true h)
    by_place (Some b) None h = absurd (false≢true h)
    by_place (Some b) (Some x) h = at_place x (and_parts b (is_inside x) h).1

    by_told : (b : Bool) → is_block_inside (slice_get blocks k) (slice_get s.places k) ≡ b → (i : ℕ) → (if b then Some k else None) ≡ Some i → is_enabled s (Step i) ≡ true
    by_told true told i is =
        let same : k ≡ i = cc in
        subst (λ (n : ℕ). is_enabled s (Step n) ≡ true) same (by_place (slice_get blocks k) (slice_get s.places k) told)
    by_told false told i is = cc
told_goes blocks s (Evaluate j) = λ i is. cc
told_goes blocks s (Propagate j) = λ i is. cc
told_goes blocks s (Make k) = λ i is. cc
told_goes blocks s Rouse = λ i is. cc
told_goes blocks s Activate = λ i is. cc
told_goes blocks s EndSlot = λ i is. cc

-- the queue has no part in how a run stands
pub queue_standing : (s : Snapshot) (q : Queue) → IsSnapshot s → IsSnapshot (record s { running = record s.running { watched = record s.running.watched { events = record s.running.watched.events { queue = q } } } })
queue_standing s q h = record {
  run = queue_run s.design s.running q h.run;
  recording = record { slots = h.recording.slots; kept = h.recording.kept; covers = h.recording.covers; room = h.recording.room; few = h.recording.few };
  goes_on = h.goes_on;
  first = h.first;
}

-- the block that is told does not depend on when the move is told
pub told_same : {Q P : Type 0} (blocks : List Bool) (xs : List Place) (r : RunState Q) (t : RunState P) (event : Event) → IsSingle event → inside_by_flags blocks xs (move_of r event) ≡ inside_by_flags blocks xs (move_of t event)
told_same blocks xs r t (e.Step i) single = refl
told_same blocks xs r t (e.Evaluate j) single = refl
told_same blocks xs r t (e.Propagate j) single = refl
told_same blocks xs r t (e.Group g) single = absurd single
told_same blocks xs r t (e.Make k) single = refl
told_same blocks xs r t e.Updates single = absurd single

-- one move that a policy has chosen
chosen_turned : {vcd lines lines' : Option (List ℕ)} (old s : Snapshot) (r : Running) (t v : Snapshot) (event : Event) → s ≡ old → IsSingle event → is_enabled (state_of s.running) (move_of s.running event) ≡ true →
    is_step_of_any s.inside (move_of s.running event) ≡ true → state_of r ≡ apply (move_of s.running event) (state_of s.running) →
    Appends lines lines' (lines_text (move_lines (move_of s.running event) (state_of s.running))) → t.inside ≡ inside_by_flags s.blocks (state_of r).places (move_of s.running event) → t.writer ≡ s.writer →
    state_of t.running ≡ state_of r → v ≡ t → Turned old.blocks (point_of old old.inside vcd lines) (point_of v v.inside vcd lines')
chosen_turned {vcd} {lines} {lines'} old s r t v event back single active free made printed told writer state last =
    let m : Move = move_of s.running event in
    let inside : Option ℕ = inside_by_flags s.blocks (state_of r).places m in
    let one : Turned s.blocks (point_of s s.inside vcd lines) (point inside (state_of r) s.writer vcd lines') =
    one_turned s.blocks s.inside (state_of s.running) (state_of r) s.writer vcd lines lines' m (event_inner s.running event single) active free made printed
    in
    let at : point_of t t.inside vcd lines' ≡ point inside (state_of r) s.writer vcd lines' =
    ap₂ (λ (o : Option ℕ) (x : State). point o x t.writer vcd lines') told state ∙ ap (λ (w : Option Progress). point inside (state_of r) w vcd lines') writer
    in
    subst (λ (x : Snapshot). Turned x.blocks (point_of x x.inside vcd lines) (point_of v v.inside vcd lines')) back
    (subst (λ (x : Snapshot). Turned s.blocks (point_of s s.inside vcd lines) (point_of x x.inside vcd lines')) (sym last)
    (subst (Turned s.blocks (point_of s s.inside vcd lines)) (sym at) one))

-- one that failed
chosen_part : {vcd lines lines' : Option (List ℕ)} (old s : Snapshot) (event : Event) → s ≡ old → IsSingle event → is_enabled (state_of s.running) (move_of s.running event) ≡ true →
    is_step_of_any s.inside (move_of s.running event) ≡ true → AppendsPart lines lines' (lines_text (move_lines (move_of s.running event) (state_of s.running))) →
    TurnedPart (point_of old old.inside vcd lines) vcd lines'
chosen_part {vcd} {lines} {lines'} old s event back single active free part =
    subst (λ (x : Snapshot). TurnedPart (point_of x x.inside vcd lines) vcd lines') back
    (one_part s.inside (state_of s.running) s.writer vcd lines lines' (move_of s.running event) (event_inner s.running event single) active free part)

-- so an event that has one move has moved
pub chosen_moved : {limit : ℕ} {lines lines' : Option (List ℕ)} (old s : Snapshot) (r : Running) (t : Snapshot) (event : Event) → s ≡ old → 0 < limit → IsSingle event → is_enabled (state_of s.running) (move_of s.running event) ≡ true →
    is_step_of_any s.inside (move_of s.running event) ≡ true → IsMade (move_of s.running event) (state_of s.running) (state_of r) lines lines' → (state_of s.running).over ≡ false → (state_of r).over ≡ false →
    (state_of r).time ≡ (state_of s.running).time → t.inside ≡ inside_by_flags s.blocks (state_of r).places (move_of s.running event) → t.writer ≡ s.writer → state_of t.running ≡ state_of r →
    HasMoved limit 1 old t lines lines'
chosen_moved {limit} {lines} {lines'} old s r t event back some single active free made before alive time told writer state = record {
  within = omega (arith, some);
  going = ap (λ (x : State). x.over) state ∙ alive;
  time = ap (λ (x : State). x.time) state ∙ time ∙ ap (λ (x : Snapshot). (state_of x.running).time) back;
  inside = t.inside;
  told = λ fewer. refl;
  turned = λ vcd. (
    point_of old old.inside vcd lines,
    refl,
    sym (ap (λ (x : Snapshot). (state_of x.running).over) back) ∙ before,
    refl,
    chosen_turned old s r t t event back single active free made.made made.printed told writer state refl,
  );
}

pub chosen_moved_part : {limit : ℕ} {lines lines' : Option (List ℕ)} (old s : Snapshot) (event : Event) → s ≡ old → 0 < limit → (state_of s.running).over ≡ false → IsSingle event →
    is_enabled (state_of s.running) (move_of s.running event) ≡ true → is_step_of_any s.inside (move_of s.running event) ≡ true →
    AppendsPart lines lines' (lines_text (move_lines (move_of s.running event) (state_of s.running))) → HasMovedPart limit old lines lines'
chosen_moved_part {limit} {lines} {lines'} old s event back some before single active free part = λ vcd.
    once_part limit old.blocks (point_of old old.inside vcd lines) vcd lines' some (sym (ap (λ (x : Snapshot). (state_of x.running).over) back) ∙ before)
    (chosen_part old s event back single active free part)

-- the run after it
pub chosen_standing : (s : Snapshot) (r : Running) (i : Option ℕ) (m : Move) → IsSnapshot s → s.chooses ≡ true → IsRunOf s.design r →
    MarkChanges (marks_of s.running) (marks_of r) (state_of s.running).store (state_of r).store → i ≡ inside_by_flags s.blocks (state_of r).places m → IsSnapshot (record s { running = r; inside = i })
chosen_standing s r i m h chooses run marked told = record {
  run = run;
  recording = kept_on s.design s.running r s.writer h.recording marked;
  goes_on = subst (λ (o : Option ℕ). GoesOn o (state_of r)) (sym told) (told_goes s.blocks (state_of r) m);
  first = λ off. absurd (true≢false (sym chooses ∙ off));
}
