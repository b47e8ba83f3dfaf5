-- Lemmas on the steps of a process in a run, one after another.
use Rattle.std.proofs.Common.{◌≡◌, ◌≢◌, ℕ, zero, suc, ◌<◌, ◌≤◌, ◌+◌, not, Bool, true, false, Option, Some, None, List, [], ◌∷◌, ◌++◌, length, slice_get, get_or, take, refl, sym, ◌∙◌, ap, subst, arith, append_assoc}
use Rattle.std.specs.Prelude.{slice_set}
use Rattle.std.specs.Io.KnownBytes.{Appends}
use Rattle.std.proofs.lemmas.Bool.{false≢true, true≢false}
use Rattle.std.proofs.lemmas.List.{append-nil}
use Rattle.std.proofs.lemmas.Option.{none-some, same_Some, slice_get_within as within}
use Rattle.vs_design.specs.Parts.{Parts}
use Rattle.vs_run_regions.specs.vs_time_wheel.specs.Bag.{SameBag}
use Rattle.vs_process.specs.declared.gait.Gait.{Gait}
use Rattle.vs_process.specs.declared.gait.Gait.TheVariants.{Fresh, Woken, Inside}
use Rattle.vs_process.specs.declared.script.Action.{Action}
use Rattle.vs_process.specs.declared.script.Instruction.{Instruction}
use Rattle.vs_process.specs.Places.{Place, Todo, active_at, going, is_going, stepped_gait, todo_of}
use Rattle.vs_process.specs.Scripts.{Does, IsScriptOf, todo_on}
use Rattle.vs_process.specs.Steps.{Out, has_nothing, on, step}
use Rattle.vs_process.specs.Texts.{HasControl, Text}
use Rattle.vs_run_active.specs.vs_process.specs.declared.moves.Move.{Move}
use Rattle.vs_run_active.specs.vs_process.specs.declared.moves.Move.TheVariants.{Step}
use Rattle.vs_run_active.specs.vs_process.specs.Executions.{after, apply, if_some, is_enabled}
use Rattle.vs_run_active.specs.vs_process.specs.States.{State, place_after_step}
use Rattle.vs_run_active.specs.declared.process.Process.{Process}
use Rattle.vs_run_active.specs.declared.process.Wait.{Wait}
use Rattle.vs_run_active.specs.declared.process.Wait.TheVariants as w
use Rattle.vs_run_active.specs.ProcessPlaces.{GoneOn, is_active, place_by, place_in, waits_some}
use Rattle.vs_run_active.specs.Taken.{AreTaken, left_by, line_at, placed, step_text, text_of_line}
use Rattle.vs_run_active.proofs.GoneLemmas.{gone_more}
use Rattle.vs_run_active.proofs.ProcessPlacesLemmas.{active_told, going_more}
use Rattle.vs_run_active.proofs.TakenLemmas.{gait_twice, taken_more, taken_none}
use Rattle.vs_run_active.proofs.MarkingLemmas.{changes_more}
use Rattle.vs_design.specs.vs_logic4.proofs.Basics.{set_here as set_there}
use Rattle.vs_run_steps.specs.vs_run_active.specs.declared.watchers.ProcessTerm.{ProcessTerm}
use Rattle.vs_run_steps.specs.vs_run_active.specs.Waiting.{places_of}
use Rattle.vs_run_steps.specs.Taken.{TakenPart}
use Rattle.vs_run_steps.proofs.Appending.{append_more, append_none, part_all}
use Rattle.vs_run_steps.proofs.TakenLemmas.{known_after, known_last}
use Rattle.vs_vcd_writing.specs.Sinks.{AppendsPart}
use Rattle.vs_run_steps.specs.declared.run.RunState.{RunState}
use Rattle.vs_run_steps.specs.declared.step.Went.{Went}
use Rattle.vs_run_steps.specs.declared.step.Went.TheVariants.{On, Rests}
use Rattle.vs_run_steps.specs.Runs.{Agrees, IsScriptIn, Keeps, counters_at, counters_of, state_of}
use Rattle.vs_run_steps.specs.Stepping.{Acts, HaveTaken, IsRest, IsValidWait, IsStepDone, IsStepping, action_text, gait_at}
use Rattle.vs_run_steps.proofs.RunsLemmas.{keeps_none, place_there, places_long, stays_there}
use Rattle.vs_run_steps.proofs.StepsLemmas.{control_in, prints}

-- ---- known bytes

take_nothing : (xs : List ℕ) → take 0 xs ≡ []
take_nothing [] = refl
take_nothing (x ∷ xs) = refl

pub part_none : (old : Option (List ℕ)) (xs : List ℕ) → AppendsPart old old xs
part_none old xs = (0, subst (Appends old old) (sym (take_nothing xs)) (append_none old))

known_first : (old : Option (List ℕ)) (xs : List ℕ) → Appends old (known_after old xs) xs
known_first None xs = tt
known_first (Some bytes) xs = refl

-- ---- a process that stands somewhere

active_todo : (gait : Gait) (todo : Todo) → todo_of (active_at gait todo) ≡ todo
active_todo gait [] = refl
active_todo gait (i ∷ rest) = refl

gait_next : (n : ℕ) (gait : Gait) → stepped_gait (gait_at n gait) ≡ gait_at (suc n) gait
gait_next zero gait = refl
gait_next (suc n) gait = gait_twice gait

-- some steps taken, its gait is known
pub gait_after_some : (n : ℕ) (gait : Gait) → 0 < n → gait_at n gait ≡ stepped_gait gait
gait_after_some zero gait h = absurd (omega arith)
gait_after_some (suc n) gait h = refl

-- at the end of the script its gait tells nothing
pub gait_at_end : (n : ℕ) (gait : Gait) (todo : Todo) → todo ≡ [] → active_at (gait_at n gait) todo ≡ active_at (stepped_gait gait) todo
gait_at_end n gait todo h = ap (active_at (gait_at n gait)) h ∙ sym (ap (active_at (stepped_gait gait)) h)

-- what holds of the process in the middle of its steps

waits_none : (wait : Wait) (gait : Gait) → wait ≡ w.Nothing gait → waits_some wait ≡ false
waits_none wait gait h = ap waits_some h

pub still_there : {Q : Type 0} (d : Parts) (terms : List ProcessTerm) (number : ℕ) (p : Process) (gait : Gait) (old now : RunState Q) → slice_get old.watched.events.processes number ≡ Some p →
    p.wait ≡ w.Nothing gait → Keeps d terms old now → slice_get now.watched.events.processes number ≡ Some p
still_there d terms number p gait old now at is h = stays_there old.watched.events.processes now.watched.events.processes number p h.gone at (waits_none p.wait gait is)

pub script_there : {Q : Type 0} (d : Parts) (terms : List ProcessTerm) (number : ℕ) (p : Process) (gait : Gait) (old now : RunState Q) → slice_get old.watched.events.processes number ≡ Some p →
    p.wait ≡ w.Nothing gait → Keeps d terms old now → IsScriptIn d.signals terms number p.script.now (counters_at number now)
script_there d terms number p gait old now at is h = h.agrees.scripts.each number p (still_there d terms number p gait old now at is h)

pub counters_below : {Q : Type 0} (d : Parts) (terms : List ProcessTerm) (number : ℕ) (p : Process) (r : RunState Q) → Agrees d terms r → slice_get r.watched.events.processes number ≡ Some p → number < length (counters_of r)
counters_below d terms number p r h at = let below : number < length r.watched.events.processes = within r.watched.events.processes number p at in omega (arith, below, h.counted)

pub places_below : {Q : Type 0} (number : ℕ) (p : Process) (r : RunState Q) → slice_get r.watched.events.processes number ≡ Some p → number < length (state_of r).places
places_below number p r at =
    let below : number < length r.watched.events.processes = within r.watched.events.processes number p at in
    omega (arith, below, places_long (counters_of r) r.watched.events.processes)

-- ---- the first one

pub stepping_first : {Q : Type 0} (d : Parts) (terms : List ProcessTerm) (number : ℕ) (p : Process) (gait : Gait) (r : RunState Q) (known : Option (List ℕ)) → Agrees d terms r →
    slice_get r.watched.events.processes number ≡ Some p → p.wait ≡ w.Nothing gait → IsStepping d terms number p.script.now p.index gait r known 0 p.index r known
stepping_first d terms number p gait r known h at is =
    let here : slice_get (state_of r).places number ≡ Some (active_at gait (todo_on p.script.now (counters_at number r) p.index)) =
    place_there (counters_of r) r.watched.events.processes number p at ∙ ap (λ (x : Wait). Some (place_by x (todo_on p.script.now (counters_at number r) p.index))) is
    in
    record { first = λ none. refl; keeps = keeps_none d terms r h; taken = ([], taken_none number (state_of r) _ here, append_none known) }

-- ---- one more

-- it is taken, and its line is written
more : {Q : Type 0} (d : Parts) (terms : List ProcessTerm) (number : ℕ) (c : Text) (from : ℕ) (gait : Gait) (old now new : RunState Q) (known mid last : Option (List ℕ)) (steps index : ℕ) (script : List Instruction)
    (x : Instruction) (went : Went) → IsScriptOf c script → slice_get script index ≡ Some x → length (counters_at number now) ≡ c.counters → number < length (state_of now).places →
    IsStepping d terms number c from gait old known steps index now mid → Appends mid last (action_text x.action now.watched.store now.regions.time) → (done : IsStepDone number c index now new went) →
    HaveTaken (suc steps) number (state_of old)
    (placed (state_of new) number (place_after_step (going (gait_at steps gait) (todo_on c (counters_at number now) index)) now.regions.time done.out.next)) known last
more d terms number c from gait old now new known mid last steps index script x went is at long below h printed done =
    let cs : List ℕ = counters_at number now in
    let todo : Todo = todo_on c cs index in
    let text : List ℕ = action_text x.action now.watched.store now.regions.time in
    let line : text_of_line done.out.line ≡ text =
    ap (λ (o : Out). text_of_line o.line) (sym done.step.out) ∙ prints c index x.next x.action (is.does index x at) cs now.watched.store now.regions.time long
    in
    let next : Place = place_after_step (going (gait_at steps gait) todo) now.regions.time done.out.next in
    let taken : AreTaken (suc steps) number (state_of old) (placed (left_by (state_of now) number done.out) number next) (h.taken.0 ++ text_of_line done.out.line) =
    taken_more steps number (state_of old) (state_of now) (gait_at steps gait) todo done.out h.taken.0 h.taken.1 below done.step
    in (
      h.taken.0 ++ text,
      subst (λ (l : List ℕ). AreTaken (suc steps) number (state_of old) (placed (state_of new) number next) (h.taken.0 ++ l)) line
          (subst (λ (s : State). AreTaken (suc steps) number (state_of old) s (h.taken.0 ++ text_of_line done.out.line)) (sym (done.left next)) taken),
      append_more known mid last h.taken.0 text h.taken.2 printed,
    )

pub keeps_more : {Q : Type 0} (d : Parts) (terms : List ProcessTerm) (old now new : RunState Q) → Keeps d terms old now → Keeps d terms now new → Keeps d terms old new
keeps_more d terms old now new h k = record {
  agrees = k.agrees;
  time = k.time ∙ h.time;
  gone = gone_more old.watched.events.processes now.watched.events.processes new.watched.events.processes h.gone k.gone;
  marked =
      changes_more old.watched.marks.items now.watched.marks.items new.watched.marks.items old.watched.store now.watched.store new.watched.store h.marked k.marked;
}

-- what a step needs
pub record MayStep {Q : Type 0} (d : Parts) (terms : List ProcessTerm) (number : ℕ) (p : Process) (gait : Gait) (old : RunState Q) (script : List Instruction) : Type 0 where
  pub at : slice_get old.watched.events.processes number ≡ Some p
  pub waits : p.wait ≡ w.Nothing gait
  pub is : IsScriptOf p.script.now script

pub stands_so : {Q : Type 0} (d : Parts) (terms : List ProcessTerm) (number : ℕ) (p : Process) (gait : Gait) (old : RunState Q) (script : List Instruction) → slice_get old.watched.events.processes number ≡ Some p →
    p.wait ≡ w.Nothing gait → IsScriptOf p.script.now script → MayStep d terms number p gait old script
stands_so d terms number p gait old script at waits is = record { at = at; waits = waits; is = is }

-- it is done
did : {Q : Type 0} (d : Parts) (terms : List ProcessTerm) (number : ℕ) (p : Process) (gait : Gait) (old now new : RunState Q) (script : List Instruction) (index : ℕ) (x : Instruction) (went : Went) →
    MayStep d terms number p gait old script → slice_get script index ≡ Some x → Keeps d terms old now → Acts number x.action x.next now new went → IsStepDone number p.script.now index now new went
did d terms number p gait old now new script index x went s at keeps acts =
    acts.done p.script.now index (s.is.does index x at) (control_in p.script.now script index x s.is at)
    (script_there d terms number p gait old now s.at s.waits keeps).counted

-- the process goes on
pub stepping_on : {Q : Type 0} (d : Parts) (terms : List ProcessTerm) (number : ℕ) (p : Process) (gait : Gait) (old now new : RunState Q) (known mid last : Option (List ℕ)) (steps index next : ℕ) (script : List Instruction)
    (x : Instruction) → MayStep d terms number p gait old script → slice_get script index ≡ Some x → IsStepping d terms number p.script.now p.index gait old known steps index now mid →
    Appends mid last (action_text x.action now.watched.store now.regions.time) → Acts number x.action x.next now new (On next) → Keeps d terms now new →
    IsStepping d terms number p.script.now p.index gait old known (suc steps) next new last
stepping_on d terms number p gait old now new known mid last steps index next script x s at h printed acts keeps =
    let c : Text = p.script.now in
    let cs : List ℕ = counters_at number now in
    let done : IsStepDone number c index now new (On next) = did d terms number p gait old now new script index x (On next) s at h.keeps acts in
    let one = more d terms number c p.index gait old now new known mid last steps index script x (On next) s.is at (script_there d terms number p gait old now s.at s.waits h.keeps).counted
    (places_below number p now (still_there d terms number p gait old now s.at s.waits h.keeps)) h printed done in
    let there : place_after_step (going (gait_at steps gait) (todo_on c cs index)) now.regions.time done.out.next ≡ active_at (gait_at (suc steps) gait) (todo_on c (counters_at number new) next) =
    ap (place_after_step (going (gait_at steps gait) (todo_on c cs index)) now.regions.time) done.leads
    ∙ ap (λ (g : Gait). active_at g (todo_on c (counters_at number new) next)) (gait_next steps gait)
    in
    record {
      first = λ none. absurd (omega (arith, none));
      keeps = keeps_more d terms old now new h.keeps keeps;
      taken = subst (λ (q : Place). HaveTaken (suc steps) number (state_of old) (placed (state_of new) number q) known last) there one;
    }

-- it waits
pub stepping_rests : {Q : Type 0} (d : Parts) (terms : List ProcessTerm) (number : ℕ) (p : Process) (gait : Gait) (old now new : RunState Q) (known mid last : Option (List ℕ)) (steps index next : ℕ) (rest : Wait)
    (script : List Instruction) (x : Instruction) → MayStep d terms number p gait old script → slice_get script index ≡ Some x → IsStepping d terms number p.script.now p.index gait old known steps index now mid →
    Appends mid last (action_text x.action now.watched.store now.regions.time) → Acts number x.action x.next now new (Rests next rest) →
    HaveTaken (suc steps) number (state_of old) (placed (state_of new) number (place_by rest (todo_on p.script.now (counters_at number new) next))) known last
stepping_rests d terms number p gait old now new known mid last steps index next rest script x s at h printed acts =
    let c : Text = p.script.now in
    let done : IsStepDone number c index now new (Rests next rest) = did d terms number p gait old now new script index x (Rests next rest) s at h.keeps acts in
    let one = more d terms number c p.index gait old now new known mid last steps index script x (Rests next rest) s.is at (script_there d terms number p gait old now s.at s.waits h.keeps).counted
    (places_below number p now (still_there d terms number p gait old now s.at s.waits h.keeps)) h printed done in
    subst (λ (q : Place). HaveTaken (suc steps) number (state_of old) (placed (state_of new) number q) known last)
    (done.leads.1 (gait_at steps gait) (todo_on c (counters_at number now) index)) one

-- it waits so
stands_of : (c : Text) (time : ℕ) (rest : Wait) → IsRest c time rest → IsValidWait c time rest
stands_of c time (w.Nothing gait) h = tt
stands_of c time (w.Until due) h = h
stands_of c time w.Inactive h = h
stands_of c time (w.Terms n terms) h = h

pub rests_stand : {Q : Type 0} (d : Parts) (terms : List ProcessTerm) (number : ℕ) (p : Process) (gait : Gait) (old now new : RunState Q) (index next : ℕ) (rest : Wait) (script : List Instruction) (x : Instruction) →
    MayStep d terms number p gait old script → slice_get script index ≡ Some x → Keeps d terms old now → Acts number x.action x.next now new (Rests next rest) → IsValidWait p.script.now old.regions.time rest
rests_stand d terms number p gait old now new index next rest script x s at keeps acts =
    let done : IsStepDone number p.script.now index now new (Rests next rest) = did d terms number p gait old now new script index x (Rests next rest) s at keeps acts in
    subst (λ (t : ℕ). IsValidWait p.script.now t rest) keeps.time (stands_of p.script.now now.regions.time rest done.leads.0)

going_not : (c : Text) (time : ℕ) (rest : Wait) (todo : Todo) → IsRest c time rest → is_going (place_by rest todo) ≡ false
going_not c time (w.Nothing gait) todo h = absurd h
going_not c time (w.Until due) todo h = refl
going_not c time w.Inactive todo h = refl
going_not c time (w.Terms n terms) todo h = refl

pub rests_stopped : {Q : Type 0} (d : Parts) (terms : List ProcessTerm) (number : ℕ) (p : Process) (gait : Gait) (old now new : RunState Q) (index next : ℕ) (rest : Wait) (script : List Instruction) (x : Instruction) (todo : Todo) →
    MayStep d terms number p gait old script → slice_get script index ≡ Some x → Keeps d terms old now → Acts number x.action x.next now new (Rests next rest) → is_going (place_by rest todo) ≡ false
rests_stopped d terms number p gait old now new index next rest script x todo s at keeps acts =
    let done : IsStepDone number p.script.now index now new (Rests next rest) = did d terms number p gait old now new script index x (Rests next rest) s at keeps acts in
    going_not p.script.now now.regions.time rest todo done.leads.0

-- ---- the end of the script

-- nothing is left to do
pub ended_stopped : (c : Text) (script : List Instruction) (index : ℕ) (gait : Gait) (cs : List ℕ) → IsScriptOf c script → slice_get script index ≡ None → is_going (active_at gait (todo_on c cs index)) ≡ false
ended_stopped c script index gait cs is at = ap (λ (t : Todo). is_going (active_at gait t)) (is.ends index cs at)

-- so the steps taken are all
pub stepping_ends : {Q : Type 0} (d : Parts) (terms : List ProcessTerm) (number : ℕ) (c : Text) (from : ℕ) (gait : Gait) (old now : RunState Q) (known mid : Option (List ℕ)) (steps index : ℕ) (script : List Instruction) →
    IsScriptOf c script → slice_get script index ≡ None → IsStepping d terms number c from gait old known steps index now mid →
    HaveTaken steps number (state_of old) (placed (state_of now) number (active_at (stepped_gait gait) (todo_on c (counters_at number now) index))) known mid
stepping_ends d terms number c from gait old now known mid steps index script is at h =
    subst (λ (q : Place). HaveTaken steps number (state_of old) (placed (state_of now) number q) known mid)
    (gait_at_end steps gait (todo_on c (counters_at number now) index) (is.ends index (counters_at number now) at)) h.taken

-- and an active process has taken one
pub stepping_some : {Q : Type 0} (d : Parts) (terms : List ProcessTerm) (number : ℕ) (p : Process) (gait : Gait) (old now : RunState Q) (known mid : Option (List ℕ)) (steps index : ℕ) (script : List Instruction) →
    MayStep d terms number p gait old script → slice_get script index ≡ None → IsStepping d terms number p.script.now p.index gait old known steps index now mid → is_active p ≡ true → 0 < steps
stepping_some d terms number p gait old now known mid zero index script s at h active =
    let none : slice_get script p.index ≡ None = ap (slice_get script) (sym (h.first refl)) ∙ at in
    let stopped : is_going (place_in p []) ≡ false =
    ap (λ (x : Wait). is_going (place_by x (todo_on p.script.now [] p.index))) s.waits ∙ ended_stopped p.script.now script p.index gait [] s.is none
    in
    absurd (true≢false (sym active ∙ stopped))
stepping_some d terms number p gait old now known mid (suc steps) index script s at h active = omega arith

-- all that were allowed
pub stepping_all : {Q : Type 0} (d : Parts) (terms : List ProcessTerm) (number : ℕ) (c : Text) (from : ℕ) (gait : Gait) (old now : RunState Q) (known mid : Option (List ℕ)) (steps index : ℕ) → 0 < steps →
    IsStepping d terms number c from gait old known steps index now mid →
    HaveTaken steps number (state_of old) (placed (state_of now) number (active_at (stepped_gait gait) (todo_on c (counters_at number now) index))) known mid
stepping_all d terms number c from gait old now known mid steps index some h =
    subst (λ (g : Gait). HaveTaken steps number (state_of old) (placed (state_of now) number (active_at g (todo_on c (counters_at number now) index))) known mid)
    (gait_after_some steps gait some) h.taken

-- ---- one that fails

enabled_at : (s : State) (number : ℕ) (gait : Gait) (todo : Todo) → number < length s.places → has_nothing todo ≡ false → is_enabled (placed s number (active_at gait todo)) (Step number) ≡ true
enabled_at s number gait todo below some =
    ap (if_some is_going) (set_there s.places number (active_at gait todo) below) ∙ going_more gait todo ∙ ap not some

text_at : (s : State) (number : ℕ) (gait : Gait) (todo : Todo) → number < length s.places → step_text (placed s number (active_at gait todo)) number ≡ text_of_line (step todo s.store s.time).line
text_at s number gait todo below =
    ap (λ (o : Option Place). text_of_line (line_at (placed s number (active_at gait todo)) o)) (set_there s.places number (active_at gait todo) below)
    ∙ ap (λ (t : Todo). text_of_line (step t s.store s.time).line) (active_todo gait todo)

pub stepping_part : {Q : Type 0} (d : Parts) (terms : List ProcessTerm) (number : ℕ) (p : Process) (gait : Gait) (old now : RunState Q) (known mid last : Option (List ℕ)) (limit steps index : ℕ) (script : List Instruction)
    (x : Instruction) → MayStep d terms number p gait old script → slice_get script index ≡ Some x → IsStepping d terms number p.script.now p.index gait old known steps index now mid → steps < limit →
    AppendsPart mid last (action_text x.action now.watched.store now.regions.time) → TakenPart limit number (state_of old) known last
stepping_part d terms number p gait old now known mid last limit steps index script x s at h below part =
    let c : Text = p.script.now in
    let cs : List ℕ = counters_at number now in
    let todo : Todo = todo_on c cs index in
    let there : number < length (state_of now).places = places_below number p now (still_there d terms number p gait old now s.at s.waits h.keeps) in
    let text : step_text (placed (state_of now) number (active_at (gait_at steps gait) todo)) number ≡ action_text x.action now.watched.store now.regions.time =
    text_at (state_of now) number (gait_at steps gait) todo there
    ∙ prints c index x.next x.action (s.is.does index x at) cs now.watched.store now.regions.time (script_there d terms number p gait old now s.at s.waits h.keeps).counted
    in
    record {
      taken = steps;
      within = below;
      last = placed (state_of now) number (active_at (gait_at steps gait) todo);
      text = h.taken.0;
      mid = mid;
      all = h.taken.1;
      printed = h.taken.2;
      enabled = enabled_at (state_of now) number (gait_at steps gait) todo there (s.is.some index x cs at);
      part = subst (AppendsPart mid last) (sym text) part;
    }

-- one whose line was written
pub stepping_lost : {Q : Type 0} (d : Parts) (terms : List ProcessTerm) (number : ℕ) (p : Process) (gait : Gait) (old now : RunState Q) (known mid last : Option (List ℕ)) (limit steps index : ℕ) (script : List Instruction)
    (x : Instruction) → MayStep d terms number p gait old script → slice_get script index ≡ Some x → IsStepping d terms number p.script.now p.index gait old known steps index now mid → steps < limit →
    Appends mid last (action_text x.action now.watched.store now.regions.time) → TakenPart limit number (state_of old) known last
stepping_lost d terms number p gait old now known mid last limit steps index script x s at h below printed =
    stepping_part d terms number p gait old now known mid last limit steps index script x s at h below (part_all mid last (action_text x.action now.watched.store now.regions.time) printed)

-- the last of some that were taken
pub taken_lost : (limit n i : ℕ) (s t : State) (old new : Option (List ℕ)) → 0 < n → n ≤ limit → HaveTaken n i s t old new → TakenPart limit i s old new
taken_lost limit zero i s t old new some within h = absurd (omega arith)
taken_lost limit (suc n) i s t old new some within h =
    let last : AreTaken (suc n) i s t h.0 = h.1 in
    record {
      taken = n;
      within = omega (arith, within);
      last = last.0;
      text = last.1;
      mid = known_after old last.1;
      all = last.2;
      printed = known_first old last.1;
      enabled = last.3;
      part = part_all (known_after old last.1) new (step_text last.0 i) (known_last old new last.1 (step_text last.0 i) (subst (Appends old new) last.5 h.2));
    }

-- ---- one that is active waits for nothing

pub waits_for_nothing : (wait : Wait) (todo : Todo) → is_going (place_by wait todo) ≡ true → ((gait : Gait) → wait ≡ w.Nothing gait → ⊥) → ⊥
waits_for_nothing (w.Nothing gait) todo active none = none gait refl
waits_for_nothing (w.Until due) todo active none = false≢true active
waits_for_nothing w.Inactive todo active none = false≢true active
waits_for_nothing (w.Terms n terms) todo active none = false≢true active
