-- Lemmas on what an instruction does in a run.
use Rattle.std.proofs.Common.{◌≡◌, ◌≢◌, ℕ, zero, suc, ◌<◌, ◌≤◌, ◌+◌, ◌==◌, Bool, true, false, Option, Some, None, List, [], ◌∷◌, length, slice_get, get_or, if◌then◌else◌, refl, sym, ◌∙◌, ap, ap₂, subst, arith}
use Rattle.std.specs.Prelude.{option_map, slice_set}
use Rattle.std.proofs.lemmas.List.{length-set}
use Rattle.vs_design.specs.vs_logic4.specs.declared.digit.Digit.{Digit}
use Rattle.vs_design.specs.vs_logic4.specs.declared.digit.Digit.TheVariants.{One, Zero, X, Z}
use Rattle.vs_design.specs.vs_logic4.specs.Comparisons.{truth}
use Rattle.vs_design.specs.vs_logic4.specs.Vectors.{resized}
use Rattle.vs_design.specs.declared.signal.Signal.{Signal}
use Rattle.vs_design.specs.declared.statement.EventTerm.{EventTerm}
use Rattle.vs_design.specs.declared.statement.Target.{Target}
use Rattle.vs_design.specs.declared.statement.Ticks.{Ticks}
use Rattle.vs_design.specs.declared.expression.Typed.{Typed}
use Rattle.vs_design.specs.Parts.{Parts}
use Rattle.vs_design.specs.Stores.{Store}
use Rattle.vs_design.specs.Writes.{Write}
use Rattle.vs_eval.specs.Values.{value_of}
use Rattle.vs_eval.specs.Meant.{Meaning}
use Rattle.vs_process.specs.vs_strobe.specs.Lines.{full_line}
use Rattle.vs_process.specs.declared.choice.Repeat.{Repeat}
use Rattle.vs_process.specs.declared.choice.Turns.{Turns}
use Rattle.vs_process.specs.declared.chosen_place.ChosenPlace.{ChosenPlace}
use Rattle.vs_process.specs.declared.draft.Op.{Op}
use Rattle.vs_process.specs.declared.script.Action.{Action}
use Rattle.vs_process.specs.declared.script.Action.TheVariants as a
use Rattle.vs_process.specs.declared.script.Instruction.{Instruction}
use Rattle.vs_process.specs.declared.spot.Spot.{Spot}
use Rattle.vs_process.specs.declared.switch.Switch.{Switch}
use Rattle.std.specs.declared.alloc.Global.{Global}
use Rattle.std.specs.declared.vec.Vec.{Vec}
use Rattle.vs_process.specs.Choices.{index_of, repeat_lands, turns_lands}
use Rattle.vs_process.specs.ChosenPlaces.{chosen_value, chosen_write}
use Rattle.vs_process.specs.Landings.{Landing, turned}
use Rattle.vs_process.specs.Places.{Place, Todo, going, inactive, sleeping}
use Rattle.vs_process.specs.Scripts.{Does, IsScriptOf, IsStep, Steps, instruction_control, spot_value, todo_landed, todo_on, AreSwitchesOf, led_by}
use Rattle.vs_process.specs.Spots.{spot_write}
use Rattle.vs_process.specs.Steps.{Next, Out, after, assignment, branch, goes, on, step, turns_for, wait}
use Rattle.vs_process.specs.Texts.{Control, HasControl, Text, controls_of}
use Rattle.vs_run_active.specs.vs_process.specs.States.{State, calls_after, paused, place_after_step, updates_after, written}
use Rattle.vs_run_active.specs.declared.process.Process.{Process}
use Rattle.vs_run_active.specs.declared.process.Wait.{Wait}
use Rattle.vs_run_active.specs.declared.process.Wait.TheVariants as w
use Rattle.vs_run_active.specs.ProcessPlaces.{place_by}
use Rattle.vs_run_active.specs.Taken.{left_by, placed, text_of_line}
use Rattle.vs_run_active.proofs.TakenLemmas.{left_call, left_finish, left_line, left_nothing, left_update, left_write}
use Rattle.std.proofs.lemmas.Option.{slice_get-map}
use Rattle.vs_run_steps.specs.vs_run_active.specs.declared.watchers.ProcessTerm.{ProcessTerm}
use Rattle.vs_run_steps.specs.vs_run_active.specs.Waiting.{places_of}
use Rattle.vs_run_steps.specs.declared.run.RunState.{RunState}
use Rattle.vs_run_steps.specs.declared.step.Went.{Went}
use Rattle.vs_run_steps.specs.declared.step.Went.TheVariants.{On, Rests}
use Rattle.vs_run_steps.specs.Runs.{Agrees, Keeps, counters_at, counters_of, state_of}
use Rattle.vs_run_steps.specs.Stepping.{Acts, IsControlIn, IsKnown, IsRest, IsStepDone, LeadsTo, action_text}
use Rattle.vs_run_steps.proofs.RunsLemmas.{counters_there, keeps_counters, places_but}

-- ---- what a script says of an instruction

-- the words that it names are those of the design
pub known_by : (signals : List Signal) (c : Text) (index next : ℕ) (action : Action) → Does c index action next → c.signals ≡ signals → IsKnown signals action
known_by signals c index next a.Nothing does same = tt
known_by signals c index next (a.Assign spot r) does same =
    subst (λ (l : List Signal). IsKnown l (a.Assign spot r)) same (does.0.inside, does.0.signals)
known_by signals c index next (a.AssignChosen place r) does same =
    subst (λ (l : List Signal). IsKnown l (a.AssignChosen place r)) same (does.0.inside, does.0.signals)
known_by signals c index next (a.AssignAny t e) does same = tt
known_by signals c index next (a.Update spot r) does same =
    subst (λ (l : List Signal). IsKnown l (a.Update spot r)) same (does.0.inside, does.0.signals)
known_by signals c index next (a.UpdateChosen place r) does same =
    subst (λ (l : List Signal). IsKnown l (a.UpdateChosen place r)) same (does.0.inside, does.0.signals)
known_by signals c index next (a.UpdateAny ticks t e) does same = tt
known_by signals c index next (a.Branch r other) does same = does.0 ∙ same
known_by signals c index next (a.Case all) does same = subst (λ (l : List Signal). AreSwitchesOf l all.items) same does.0
known_by signals c index next (a.Repeat choice) does same = tt
known_by signals c index next (a.Turns choice) does same = tt
known_by signals c index next (a.Display format) does same = tt
known_by signals c index next (a.Strobe format) does same = tt
known_by signals c index next a.Finish does same = tt
known_by signals c index next (a.Delay n ticks) does same = tt
known_by signals c index next (a.Wait n terms) does same = tt

control_by : (c : Text) (index : ℕ) (action : Action) (next : ℕ) (o : Option (Option Control)) → slice_get (controls_of c) index ≡ o →
    o ≡ Some (instruction_control (record { action = action; next = next })) → IsControlIn c action
control_by c index (a.Wait n terms) next o at is = record { index = index; at = at ∙ is }
control_by c index a.Nothing next o at is = tt
control_by c index (a.Assign spot r) next o at is = tt
control_by c index (a.AssignChosen place r) next o at is = tt
control_by c index (a.AssignAny t e) next o at is = tt
control_by c index (a.Update spot r) next o at is = tt
control_by c index (a.UpdateChosen place r) next o at is = tt
control_by c index (a.UpdateAny ticks t e) next o at is = tt
control_by c index (a.Branch r other) next o at is = tt
control_by c index (a.Case all) next o at is = tt
control_by c index (a.Repeat choice) next o at is = tt
control_by c index (a.Turns choice) next o at is = tt
control_by c index (a.Display format) next o at is = tt
control_by c index (a.Strobe format) next o at is = tt
control_by c index a.Finish next o at is = tt
control_by c index (a.Delay n ticks) next o at is = tt

-- its event control, where it is one, is one of the text
pub control_in : (c : Text) (script : List Instruction) (index : ℕ) (x : Instruction) → IsScriptOf c script → slice_get script index ≡ Some x → IsControlIn c x.action
control_in c script index x is at = control_by c index x.action x.next (slice_get (controls_of c) index) refl
    (sym (ap (λ (l : List (Option Control)). slice_get l index) is.controls) ∙ slice_get-map instruction_control script index ∙ ap (λ (o : Option Instruction). option_map instruction_control o) at)

-- what it prints is the line of the step
pub prints : (c : Text) (index next : ℕ) (action : Action) → Does c index action next → (cs : List ℕ) (store : Store) (time : ℕ) → length cs ≡ c.counters →
    text_of_line (step (todo_on c cs index) store time).line ≡ action_text action store time
prints c index next a.Nothing does cs store time long = ap (λ (o : Out). text_of_line o.line) (does.takes cs store time long).out
prints c index next (a.Assign spot r) does cs store time long = ap (λ (o : Out). text_of_line o.line) (does.1.takes cs store time long).out
prints c index next (a.AssignChosen place r) does cs store time long = ap (λ (o : Out). text_of_line o.line) (does.1.takes cs store time long).out
prints c index next (a.AssignAny t e) does cs store time long = ap (λ (o : Out). text_of_line o.line) (does.takes cs store time long).out
prints c index next (a.Update spot r) does cs store time long = ap (λ (o : Out). text_of_line o.line) (does.1.takes cs store time long).out
prints c index next (a.UpdateChosen place r) does cs store time long = ap (λ (o : Out). text_of_line o.line) (does.1.takes cs store time long).out
prints c index next (a.UpdateAny ticks t e) does cs store time long = ap (λ (o : Out). text_of_line o.line) (does.takes cs store time long).out
prints c index next (a.Branch r other) does cs store time long = ap (λ (o : Out). text_of_line o.line) (does.1.takes cs store time long).out
prints c index next (a.Case all) does cs store time long = ap (λ (o : Out). text_of_line o.line) (does.1.takes cs store time long).out
prints c index next (a.Repeat choice) does cs store time long = ap (λ (o : Out). text_of_line o.line) (does.1.takes cs store time long).out
prints c index next (a.Turns choice) does cs store time long = ap (λ (o : Out). text_of_line o.line) (does.1.takes cs store time long).out
prints c index next (a.Display format) does cs store time long = ap (λ (o : Out). text_of_line o.line) (does.takes cs store time long).out
prints c index next (a.Strobe format) does cs store time long = ap (λ (o : Out). text_of_line o.line) (does.takes cs store time long).out
prints c index next a.Finish does cs store time long = ap (λ (o : Out). text_of_line o.line) (does.takes cs store time long).out
prints c index next (a.Delay n ticks) does cs store time long = ap (λ (o : Out). text_of_line o.line) (does.takes cs store time long).out
prints c index next (a.Wait n terms) does cs store time long = ap (λ (o : Out). text_of_line o.line) (does.takes cs store time long).out

-- ---- what is done

done : {Q : Type 0} (number : ℕ) (c : Text) (index : ℕ) (old new : RunState Q) (went : Went) (out : Out) → IsStep (todo_on c (counters_at number old) index) old.watched.store old.regions.time out →
    state_of new ≡ left_by (state_of old) number out → LeadsTo c (counters_at number new) old.regions.time out.next went → IsStepDone number c index old new went
done number c index old new went out is same leads = record {
  out = out;
  step = is;
  left = λ place. ap (λ (s : State). placed s number place) same;
  leads = leads;
}

-- the process stays active, and its counters stay
same_counters : {Q : Type 0} (number : ℕ) (c : Text) (next : ℕ) (old new : RunState Q) → counters_of new ≡ counters_of old →
    on (todo_on c (counters_at number old) next) ≡ on (todo_on c (counters_at number new) next)
same_counters number c next old new same = ap (λ (css : List (List ℕ)). on (todo_on c (get_or css number []) next)) (sym same)

-- the counters of a process are those of a landing, and it leads to its place
pub record Turned {Q : Type 0} (number count : ℕ) (l : Landing) (old new : RunState Q) (went : Went) : Type 0 where
  pub below : number < length (counters_of old)
  pub index : went ≡ On (index_of count l.place)
  pub counters : counters_of new ≡ slice_set (counters_of old) number l.counters
  pub others : new ≡ record old { counters = new.counters }

-- the write that gives a place that indices choose the value of an expression
abbrev pub chosen_at : ChosenPlace → Meaning → Store → ℕ → Write
chosen_at place r store time = chosen_write place (chosen_value place r store time) store time

-- what each kind of instruction has done in a run, by its action
abbrev pub Made : {Q : Type 0} → ℕ → Action → ℕ → RunState Q → RunState Q → Went → Type 0
Made number a.Nothing next old new went = (new ≡ old) × (went ≡ On next)
Made number (a.Assign spot r) next old new went = (counters_of new ≡ counters_of old) × (went ≡ On next)
    × (state_of new ≡ written (state_of old) (spot_write spot (spot_value spot r old.watched.store old.regions.time)))
Made number (a.AssignChosen place r) next old new went = (counters_of new ≡ counters_of old) × (went ≡ On next)
    × (state_of new ≡ written (state_of old) (chosen_at place r old.watched.store old.regions.time))
Made number (a.AssignAny t e) next old new went = (counters_of new ≡ counters_of old) × (went ≡ On next)
    × (state_of new ≡ written (state_of old) (assignment t.now e.now old.watched.store old.regions.time))
Made number (a.Update spot r) next old new went = (counters_of new ≡ counters_of old) × (went ≡ On next)
    × (state_of new ≡ record (state_of old) { updates = updates_after number old.regions.time (Some (0, spot_write spot (spot_value spot r old.watched.store old.regions.time))) old.regions.updates })
Made number (a.UpdateChosen place r) next old new went = (counters_of new ≡ counters_of old) × (went ≡ On next)
    × (state_of new ≡ record (state_of old) { updates = updates_after number old.regions.time (Some (0, chosen_at place r old.watched.store old.regions.time)) old.regions.updates })
Made number (a.UpdateAny ticks t e) next old new went = (counters_of new ≡ counters_of old) × (went ≡ On next)
    × (state_of new ≡ record (state_of old) { updates = updates_after number old.regions.time (Some (ticks.count, assignment t.now e.now old.watched.store old.regions.time)) old.regions.updates })
Made number (a.Branch r other) next old new went = (new ≡ old) × (went ≡ On (branch (truth (value_of r.expression old.watched.store old.regions.time)) next other))
Made number (a.Case all) next old new went = (new ≡ old) × (went ≡ On (led_by all.items next old.watched.store old.regions.time))
Made number (a.Repeat choice) next old new went =
    Turned number choice.count (repeat_lands choice (counters_at number old) old.watched.store old.regions.time) old new went
Made number (a.Turns choice) next old new went = Turned number choice.count (turns_lands choice (counters_at number old)) old new went
Made number (a.Display format) next old new went = (new ≡ old) × (went ≡ On next)
Made number (a.Strobe format) next old new went = (counters_of new ≡ counters_of old) × (went ≡ On next)
    × (state_of new ≡ record (state_of old) { calls = calls_after number (Some format.now) old.calls.items })
Made number a.Finish next old new went = (new ≡ record old { finishing = true }) × (went ≡ On next)
Made number (a.Delay n ticks) next old new went = (new ≡ old) × (rest : Wait) × (went ≡ Rests next rest) × ((todo : Todo) → place_by rest todo ≡ paused old.regions.time ticks.count todo)
Made number (a.Wait n terms) next old new went = (new ≡ old) × (went ≡ Rests next (w.Terms n terms))

-- nothing was done where it leads on
moved : {Q : Type 0} (number : ℕ) (c : Text) (index : ℕ) (old new : RunState Q) (went other : Went) → new ≡ old → went ≡ other → IsStepDone number c index old old other → IsStepDone number c index old new went
moved number c index old new went other same is h =
    subst (λ r. IsStepDone number c index old r went) (sym same) (subst (λ (x : Went). IsStepDone number c index old old x) (sym is) h)

led : {Q : Type 0} (number : ℕ) (c : Text) (index : ℕ) (old new : RunState Q) (went other : Went) → went ≡ other → IsStepDone number c index old new other → IsStepDone number c index old new went
led number c index old new went other is h = subst (λ (x : Went). IsStepDone number c index old new x) (sym is) h

rests_if : (c : Text) (time ticks : ℕ) (b : Bool) (rest : Wait) → ((todo : Todo) → place_by rest todo ≡ (if b then inactive todo else sleeping (time + ticks) todo)) → IsRest c time rest
rests_if c time ticks true (w.Nothing gait) h = let e = h [] in absurd (cc)
rests_if c time ticks false (w.Nothing gait) h = let e = h [] in absurd (cc)
rests_if c time ticks true (w.Until due) h = let e = h [] in absurd (cc)
rests_if c time ticks false (w.Until due) h = let e = h [] in let is : due ≡ time + ticks = cc in omega (arith, is)
rests_if c time ticks b w.Inactive h = tt
rests_if c time ticks true (w.Terms n terms) h = let e = h [] in absurd (cc)
rests_if c time ticks false (w.Terms n terms) h = let e = h [] in absurd (cc)

-- where counters change
turned_done : {Q : Type 0} (number count : ℕ) (c : Text) (index : ℕ) (l : Landing) (old new : RunState Q) (went : Went) → count ≡ length c.links →
    IsStep (todo_on c (counters_at number old) index) old.watched.store old.regions.time (goes (on (todo_landed c l))) → Turned number count l old new went → IsStepDone number c index old new went
turned_done number count c index l old new went same is h =
    let n : Next = on (todo_landed c l) in
    let css : List (List ℕ) = counters_of old in
    let ps : List Process = old.watched.events.processes in
    let state : state_of new ≡ record (state_of old) { places = places_of (slice_set css number l.counters) ps } =
    ap (λ r. state_of r) h.others ∙ ap (λ (k : List (List ℕ)). record (state_of old) { places = places_of k ps }) h.counters
    in
    let there : counters_at number new ≡ l.counters = ap (λ (k : List (List ℕ)). get_or k number []) h.counters ∙ counters_there css number l.counters h.below in
    led number c index old new went (On (index_of count l.place)) h.index (record {
      out = goes n;
      step = is;
      left = λ place.
          ap (λ (s : State). placed s number place) state
          ∙ ap (λ (k : List Place). record (state_of old) { places = k }) (places_but css ps number l.counters place)
          ∙ ap (λ (s : State). placed s number place) (sym (left_nothing (state_of old) number n));
      leads =
          ap (λ (k : List ℕ). on (todo_on c k (index_of (length c.links) l.place))) (sym there)
          ∙ ap (λ (m : ℕ). on (todo_on c (counters_at number new) (index_of m l.place))) (sym same);
    })

-- each kind of instruction acts so
pub acts_of : {Q : Type 0} (number : ℕ) (action : Action) (next : ℕ) (old new : RunState Q) (went : Went) → Made number action next old new went → Acts number action next old new went
acts_of number a.Nothing next old new went h = record {
  done = λ c index does control long.
      let n : Next = on (todo_on c (counters_at number old) next) in
      moved number c index old new went (On next) h.0 h.1
      (done number c index old old (On next) (goes n) (does.takes (counters_at number old) old.watched.store old.regions.time long) (sym (left_nothing (state_of old) number n)) refl);
}
acts_of number (a.Assign spot r) next old new went h = record {
  done = λ c index does control long.
      let n : Next = on (todo_on c (counters_at number old) next) in
      let v : Write = spot_write spot (spot_value spot r old.watched.store old.regions.time) in
      led number c index old new went (On next) h.1
      (done number c index old new (On next) (record (goes n) { write = Some v }) (does.1.takes (counters_at number old) old.watched.store old.regions.time long)
      (h.2 ∙ sym (left_write (state_of old) number n v)) (same_counters number c next old new h.0));
}
acts_of number (a.AssignChosen place r) next old new went h = record {
  done = λ c index does control long.
      let n : Next = on (todo_on c (counters_at number old) next) in
      let v : Write = chosen_at place r old.watched.store old.regions.time in
      led number c index old new went (On next) h.1
      (done number c index old new (On next) (record (goes n) { write = Some v }) (does.1.takes (counters_at number old) old.watched.store old.regions.time long)
      (h.2 ∙ sym (left_write (state_of old) number n v)) (same_counters number c next old new h.0));
}
acts_of number (a.AssignAny t e) next old new went h = record {
  done = λ c index does control long.
      let n : Next = on (todo_on c (counters_at number old) next) in
      let v : Write = assignment t.now e.now old.watched.store old.regions.time in
      led number c index old new went (On next) h.1
      (done number c index old new (On next) (record (goes n) { write = Some v }) (does.takes (counters_at number old) old.watched.store old.regions.time long)
      (h.2 ∙ sym (left_write (state_of old) number n v)) (same_counters number c next old new h.0));
}
acts_of number (a.Update spot r) next old new went h = record {
  done = λ c index does control long.
      let n : Next = on (todo_on c (counters_at number old) next) in
      let v : Write = spot_write spot (spot_value spot r old.watched.store old.regions.time) in
      led number c index old new went (On next) h.1
      (done number c index old new (On next) (record (goes n) { update = Some (0, v) }) (does.1.takes (counters_at number old) old.watched.store old.regions.time long)
      (h.2 ∙ sym (left_update (state_of old) number n 0 v)) (same_counters number c next old new h.0));
}
acts_of number (a.UpdateChosen place r) next old new went h = record {
  done = λ c index does control long.
      let n : Next = on (todo_on c (counters_at number old) next) in
      let v : Write = chosen_at place r old.watched.store old.regions.time in
      led number c index old new went (On next) h.1
      (done number c index old new (On next) (record (goes n) { update = Some (0, v) }) (does.1.takes (counters_at number old) old.watched.store old.regions.time long)
      (h.2 ∙ sym (left_update (state_of old) number n 0 v)) (same_counters number c next old new h.0));
}
acts_of number (a.UpdateAny ticks t e) next old new went h = record {
  done = λ c index does control long.
      let n : Next = on (todo_on c (counters_at number old) next) in
      let v : Write = assignment t.now e.now old.watched.store old.regions.time in
      led number c index old new went (On next) h.1
      (done number c index old new (On next) (record (goes n) { update = Some (ticks.count, v) }) (does.takes (counters_at number old) old.watched.store old.regions.time long)
      (h.2 ∙ sym (left_update (state_of old) number n ticks.count v)) (same_counters number c next old new h.0));
}
acts_of number (a.Branch r other) next old new went h = record {
  done = λ c index does control long.
      let to : ℕ = branch (truth (value_of r.expression old.watched.store old.regions.time)) next other in
      let n : Next = on (todo_on c (counters_at number old) to) in
      moved number c index old new went (On to) h.0 h.1
      (done number c index old old (On to) (goes n) (does.1.takes (counters_at number old) old.watched.store old.regions.time long) (sym (left_nothing (state_of old) number n)) refl);
}
acts_of number (a.Case all) next old new went h = record {
  done = λ c index does control long.
      let to : ℕ = led_by all.items next old.watched.store old.regions.time in
      let n : Next = on (todo_on c (counters_at number old) to) in
      moved number c index old new went (On to) h.0 h.1
      (done number c index old old (On to) (goes n) (does.1.takes (counters_at number old) old.watched.store old.regions.time long) (sym (left_nothing (state_of old) number n)) refl);
}
acts_of number (a.Repeat choice) next old new went h = record {
  done = λ c index does control long.
      turned_done number choice.count c index (repeat_lands choice (counters_at number old) old.watched.store old.regions.time) old new went does.0
      (does.1.takes (counters_at number old) old.watched.store old.regions.time long) h;
}
acts_of number (a.Turns choice) next old new went h = record {
  done = λ c index does control long.
      turned_done number choice.count c index (turns_lands choice (counters_at number old)) old new went does.0
      (does.1.takes (counters_at number old) old.watched.store old.regions.time long) h;
}
acts_of number (a.Display format) next old new went h = record {
  done = λ c index does control long.
      let n : Next = on (todo_on c (counters_at number old) next) in
      let text : List ℕ = full_line format.now old.watched.store old.regions.time in
      moved number c index old new went (On next) h.0 h.1
      (done number c index old old (On next) (record (goes n) { line = Some text }) (does.takes (counters_at number old) old.watched.store old.regions.time long) (sym (left_line (state_of old) number n text)) refl);
}
acts_of number (a.Strobe format) next old new went h = record {
  done = λ c index does control long.
      let n : Next = on (todo_on c (counters_at number old) next) in
      led number c index old new went (On next) h.1
      (done number c index old new (On next) (record (goes n) { call = Some format.now }) (does.takes (counters_at number old) old.watched.store old.regions.time long)
      (h.2 ∙ sym (left_call (state_of old) number n format.now)) (same_counters number c next old new h.0));
}
acts_of number a.Finish next old new went h = record {
  done = λ c index does control long.
      let n : Next = on (todo_on c (counters_at number old) next) in
      led number c index old new went (On next) h.1
      (done number c index old new (On next) (record (goes n) { finish = true }) (does.takes (counters_at number old) old.watched.store old.regions.time long)
      (ap (λ r. state_of r) h.0 ∙ sym (left_finish (state_of old) number n)) (same_counters number c next old new (ap (λ r. counters_of r) h.0)));
}
acts_of number (a.Delay k ticks) next old new went h = record {
  done = λ c index does control long.
      let cs : List ℕ = counters_at number old in
      let n : Next = after k ticks.count (todo_on c cs next) in
      moved number c index old new went (Rests next h.1) h.0 h.2
      (done number c index old old (Rests next h.1) (goes n) (does.takes cs old.watched.store old.regions.time long) (sym (left_nothing (state_of old) number n))
      (rests_if c old.regions.time ticks.count (ticks.count == 0) h.1 h.3, λ gait todo. sym (h.3 (todo_on c cs next))));
}
acts_of number (a.Wait k terms) next old new went h = record {
  done = λ c index does control long.
      let cs : List ℕ = counters_at number old in
      let n : Next = wait k terms.now (todo_on c cs next) in
      moved number c index old new went (Rests next (w.Terms k terms)) h.0 h.1
      (done number c index old old (Rests next (w.Terms k terms)) (goes n) (does.takes cs old.watched.store old.regions.time long) (sym (left_nothing (state_of old) number n)) (control, λ gait todo. refl));
}

-- so does the one that a match has told
pub acts_as : {Q : Type 0} (number : ℕ) (x action : Action) (next : ℕ) (old new : RunState Q) (went : Went) → x ≡ action → Made number action next old new went → Acts number x next old new went
acts_as number x action next old new went is h = subst (λ (y : Action). Acts number y next old new went) (sym is) (acts_of number action next old new went h)

-- counters keep their number
pub turned_long : (left : ℕ) (x : Op) (cs : List ℕ) → length (turned left x cs).counters ≡ length cs
turned_long zero x cs = refl
turned_long (suc left) x cs = length-set cs x.counter left

-- ---- by what the code does

pub assigned_as : {Q : Type 0} (number next time : ℕ) (x : Action) (spot : Spot) (e : Meaning) (old new : RunState Q) (ds : List Digit) → x ≡ a.Assign spot e → new ≡ record old { watched = new.watched } →
    state_of new ≡ written (state_of old) (spot_write spot ds) → ds ≡ resized false spot.width (value_of e.expression old.watched.store time) → time ≡ old.regions.time → Acts number x next old new (On next)
assigned_as number next time x spot e old new ds is others state digits now =
    acts_as number x (a.Assign spot e) next old new (On next) is (
      ap (λ r. counters_of r) others,
      refl,
      state
          ∙ ap (λ (l : List Digit). written (state_of old) (spot_write spot l)) (digits ∙ ap (λ (t : ℕ). spot_value spot e old.watched.store t) now),
    )

pub updated_as : {Q : Type 0} (number next time : ℕ) (x : Action) (spot : Spot) (e : Meaning) (old new : RunState Q) (ds : List Digit) → x ≡ a.Update spot e → new ≡ record old { regions = new.regions } →
    state_of new ≡ record (state_of old) { updates = updates_after number old.regions.time (Some (0, spot_write spot ds)) old.regions.updates } → ds ≡ resized false spot.width (value_of e.expression old.watched.store time) →
    time ≡ old.regions.time → Acts number x next old new (On next)
updated_as number next time x spot e old new ds is others state digits now =
    acts_as number x (a.Update spot e) next old new (On next) is (
      ap (λ r. counters_of r) others,
      refl,
      state
          ∙ ap (λ (l : List Digit). record (state_of old) { updates = updates_after number old.regions.time (Some (0, spot_write spot l)) old.regions.updates })
          (digits ∙ ap (λ (t : ℕ). spot_value spot e old.watched.store t) now),
    )

pub cased_as : {Q : Type 0} (number next time index : ℕ) (x : Action) (all : Vec Switch Global) (given : List Switch) (old : RunState Q) → x ≡ a.Case all → given ≡ all.items →
    index ≡ led_by given next old.watched.store time → time ≡ old.regions.time → Acts number x next old old (On index)
cased_as number next time index x all given old is same there now =
    acts_as number x (a.Case all) next old old (On index) is
    (refl, ap (λ (n : ℕ). On n) (there ∙ ap₂ (λ (l : List Switch) (t : ℕ). led_by l next old.watched.store t) same now))

pub delayed_as : {Q : Type 0} (number next time n : ℕ) (x : Action) (ticks : Ticks) (rest : Wait) (old : RunState Q) → x ≡ a.Delay n ticks → ((todo : Todo) → place_by rest todo ≡ paused time ticks.count todo) →
    time ≡ old.regions.time → Acts number x next old old (Rests next rest)
delayed_as number next time n x ticks rest old is place now =
    acts_as number x (a.Delay n ticks) next old old (Rests next rest) is (refl, rest, refl, λ todo. place todo ∙ ap (λ (t : ℕ). paused t ticks.count todo) now)

pub repeat_keeps : {Q : Type 0} (d : Parts) (terms : List ProcessTerm) (number : ℕ) (x : Action) (choice : Repeat) (old new : RunState Q) → x ≡ a.Repeat choice → Agrees d terms old → new ≡ record old { counters = new.counters } →
    counters_of new ≡ slice_set (counters_of old) number (repeat_lands choice (counters_at number old) old.watched.store old.regions.time).counters → Keeps d terms old new
repeat_keeps d terms number x choice old new is h others set =
    subst (λ r. Keeps d terms old r) (sym others)
    (keeps_counters d terms old new.counters number (repeat_lands choice (counters_at number old) old.watched.store old.regions.time).counters h (sym (ap (λ r. counters_of r) others) ∙ set)
    (turned_long (turns_for choice.signed (value_of choice.e.now old.watched.store old.regions.time)) choice.op.now (counters_at number old)))

pub turn_keeps : {Q : Type 0} (d : Parts) (terms : List ProcessTerm) (number : ℕ) (x : Action) (choice : Turns) (old new : RunState Q) → x ≡ a.Turns choice → Agrees d terms old → new ≡ record old { counters = new.counters } →
    counters_of new ≡ slice_set (counters_of old) number (turns_lands choice (counters_at number old)).counters → Keeps d terms old new
turn_keeps d terms number x choice old new is h others set =
    subst (λ r. Keeps d terms old r) (sym others)
    (keeps_counters d terms old new.counters number (turns_lands choice (counters_at number old)).counters h (sym (ap (λ r. counters_of r) others) ∙ set)
    (turned_long (get_or (counters_at number old) choice.op.now.counter 0) choice.op.now (counters_at number old)))
