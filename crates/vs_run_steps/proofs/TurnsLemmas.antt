-- Steps of a run, one after another.
use Rattle.std.proofs.Common.{◌≡◌, ℕ, zero, suc, ◌+◌, ◌<◌, Bool, true, false, Option, Some, None, List, [], ◌++◌, refl, sym, ◌∙◌, ap, subst, arith, eq-eqb}
use Rattle.std.specs.Io.KnownBytes.{Appends}
use Rattle.std.proofs.lemmas.List.{append-nil}
use Rattle.vs_design.specs.Parts.{Parts}
use Rattle.vs_design.specs.Traces.{Slot}
use Rattle.vs_run_active.specs.vs_process.specs.declared.moves.Grain.TheVariants.{Statement}
use Rattle.vs_run_active.specs.vs_process.specs.declared.moves.Move.{Move}
use Rattle.vs_run_active.specs.vs_process.specs.declared.moves.Move.TheVariants.{Step, Evaluate, Propagate, Make, Rouse, Activate, EndSlot}
use Rattle.vs_run_active.specs.vs_process.specs.Blocks.{is_step_of_any}
use Rattle.vs_run_active.specs.vs_process.specs.Executions.{apply, ended_slot, is_enabled, move_lines, strobe_lines}
use Rattle.vs_run_active.specs.vs_process.specs.Permitted.{CanGo}
use Rattle.vs_run_active.specs.vs_process.specs.States.{State}
use Rattle.vs_run_active.specs.vs_process.proofs.Permitted.{state_goes}
use Rattle.std.proofs.lemmas.Bool.{and_parts}
use Rattle.vs_vcd_writing.specs.Progress.{Progress, vcd_slot}
use Rattle.vs_vcd_writing.specs.Sinks.{AppendsPart}
use Rattle.vs_vcd_writing.specs.Text.{vcd_slots}
use Rattle.vs_vcd_writing.proofs.ProgressLemmas.{vcd_slots-push}
use Rattle.vs_run_steps.specs.Insides.{inside_by_flags}
use Rattle.vs_run_steps.specs.Points.{Point, point}
use Rattle.vs_run_steps.specs.Prints.{lines_text}
use Rattle.vs_run_steps.specs.Recording.{HasNoted}
use Rattle.vs_run_steps.specs.Slots.{AppendsSlots, AppendsSlotsPart}
use Rattle.vs_run_steps.specs.Turns.{AllTurned, AllTurnedPart, GoesOn, Turned, TurnedPart, TurnedTo, Turning}
use Rattle.vs_run_steps.proofs.Appending.{append_none, part_all}
use Rattle.vs_run_steps.proofs.MoveLemmas.{not_ended}

-- ---- a step that ends no slot

-- no slot ends
pub no_slot : (old : Option (List ℕ)) (m : Move) (s : State) → (m ≡ EndSlot → ⊥) → (d : Parts) (before : List Slot) → AppendsSlots old old d before (ended_slot m s)
no_slot old m s inner d before = (
  [],
  ap (vcd_slots d) (ap (λ (l : List Slot). before ++ l) (not_ended m s inner) ∙ append-nil before) ∙ sym (append-nil (vcd_slots d before)),
  append_none old,
)

-- such a step
pub one_turned : (blocks : List Bool) (inside : Option ℕ) (s t : State) (writer : Option Progress) (vcd old new : Option (List ℕ)) (m : Move) → (m ≡ EndSlot → ⊥) → is_enabled s m ≡ true →
    is_step_of_any inside m ≡ true → t ≡ apply m s → Appends old new (lines_text (move_lines m s)) → Turned blocks (point inside s writer vcd old) (point (inside_by_flags blocks t.places m) t writer vcd new)
one_turned blocks inside s t writer vcd old new m inner enabled free made printed = record {
  choice = m;
  enabled = enabled;
  free = free;
  made = made;
  told = refl;
  written = λ d before h. subst (HasNoted writer vcd d) (sym (ap (λ (l : List Slot). before ++ l) (not_ended m s inner) ∙ append-nil before)) h;
  text = λ d before h. no_slot vcd m s inner d before;
  lines = printed;
}

-- one that failed
pub one_part : (inside : Option ℕ) (s : State) (writer : Option Progress) (vcd old new : Option (List ℕ)) (m : Move) → (m ≡ EndSlot → ⊥) → is_enabled s m ≡ true → is_step_of_any inside m ≡ true →
    AppendsPart old new (lines_text (move_lines m s)) → TurnedPart (point inside s writer vcd old) vcd new
one_part inside s writer vcd old new m inner enabled free printed = record {
  choice = m;
  enabled = enabled;
  free = free;
  text = λ d before h. let piece = no_slot vcd m s inner d before in (piece.0, piece.1, part_all vcd vcd piece.0 piece.2);
  lines = printed;
}

-- ---- a step of which nothing was written

-- what a move adds to the dump, of which nothing is written
none_noted : (vcd : Option (List ℕ)) (m : Move) (s : State) (d : Parts) (before : List Slot) → AppendsSlotsPart vcd vcd d before (ended_slot m s)
none_noted vcd EndSlot s d before =
    let slot : Slot = record { time = s.time; store = s.store; lines = strobe_lines s } in
    (vcd_slot d before slot, vcd_slots-push d before slot, (0, append_none vcd))
none_noted vcd (Step i) s d before = ([], ap (vcd_slots d) (append-nil before) ∙ sym (append-nil (vcd_slots d before)), (0, append_none vcd))
none_noted vcd (Evaluate j) s d before = ([], ap (vcd_slots d) (append-nil before) ∙ sym (append-nil (vcd_slots d before)), (0, append_none vcd))
none_noted vcd (Propagate j) s d before = ([], ap (vcd_slots d) (append-nil before) ∙ sym (append-nil (vcd_slots d before)), (0, append_none vcd))
none_noted vcd (Make i) s d before = ([], ap (vcd_slots d) (append-nil before) ∙ sym (append-nil (vcd_slots d before)), (0, append_none vcd))
none_noted vcd Rouse s d before = ([], ap (vcd_slots d) (append-nil before) ∙ sym (append-nil (vcd_slots d before)), (0, append_none vcd))
none_noted vcd Activate s d before = ([], ap (vcd_slots d) (append-nil before) ∙ sym (append-nil (vcd_slots d before)), (0, append_none vcd))

-- a move that failed before it wrote
pub none_written : (p : Point) (m : Move) → is_enabled p.state m ≡ true → is_step_of_any p.inside m ≡ true → TurnedPart p p.vcd p.lines
none_written p m enabled free = record {
  choice = m;
  enabled = enabled;
  free = free;
  text = λ d before h. none_noted p.vcd m p.state d before;
  lines = (0, append_none p.lines);
}

-- in each state that isn't over a move is enabled
some_enabled : (d : Parts) (s : State) → s.over ≡ false → (m : Move) × (is_enabled s m ≡ true)
some_enabled d s going =
    let can : CanGo Statement d s = state_goes Statement d s (λ m. refl) going in
    let first = and_parts _ _ can.1 in
    (can.0, (and_parts _ _ first.0).1)

-- so a run that isn't over may fail before the next move writes
pub none_made : (d : Parts) (p : Point) → p.state.over ≡ false → GoesOn p.inside p.state → TurnedPart p p.vcd p.lines
none_made d p going goes = by_inside p.inside refl
  where
    own : (i : ℕ) → is_step_of_any (Some i) (Step i) ≡ true
    own i = eq-eqb i i refl

    by_inside : (inside : Option ℕ) → p.inside ≡ inside → TurnedPart p p.vcd p.lines
    by_inside None is =
        let m = some_enabled d p.state going in
        none_written p m.0 m.1 (ap (λ (o : Option ℕ). is_step_of_any o m.0) is)
    by_inside (Some i) is = none_written p (Step i) (goes i is) (ap (λ (o : Option ℕ). is_step_of_any o (Step i)) is ∙ own i)

-- ---- steps one after another

-- some, and others after them
pub all_then : (n m : ℕ) (blocks : List Bool) (p q r : Point) → AllTurned n blocks p q → q.state.time ≡ p.state.time → AllTurned m blocks q r → AllTurned (n + m) blocks p r
all_then n zero blocks p q r first time more =
    let none : n ≡ n + 0 = omega arith in
    subst (λ (k : ℕ). AllTurned k blocks p r) none (subst (AllTurned n blocks p) (sym more) first)
all_then n (suc m) blocks p q r first time more =
    let all : AllTurned (suc (n + m)) blocks p r = (more.0, all_then n m blocks p q more.0 first time more.1, more.2, more.3 ∙ time, more.4) in
    let count : suc (n + m) ≡ n + suc m = omega arith in
    subst (λ (k : ℕ). AllTurned k blocks p r) count all

-- one turn that failed
pub once_part : (steps : ℕ) (blocks : List Bool) (p : Point) (vcd lines : Option (List ℕ)) → 0 < steps → p.state.over ≡ false → TurnedPart p vcd lines → AllTurnedPart steps blocks p vcd lines
once_part steps blocks p vcd lines some going t = record { taken = 0; last = p; within = some; turned = refl; going = going; time = refl; failed = t }

-- none yet
pub turning_first : (blocks : List Bool) (steps : ℕ) (p : Point) → p.state.over ≡ false → Turning blocks steps steps p p
turning_first blocks steps p going = record { taken = 0; count = omega arith; going = going; time = refl; all = refl }

-- turns that failed
pub turning_part : {blocks : List Bool} {steps left : ℕ} {p q : Point} {vcd lines : Option (List ℕ)} → Turning blocks steps left p q → AllTurnedPart left blocks q vcd lines → AllTurnedPart steps blocks p vcd lines
turning_part {blocks} {steps} {left} {p} {q} {vcd} {lines} a part = record {
  taken = a.taken + part.taken;
  last = part.last;
  within = omega (arith, a.count, part.within);
  turned = all_then a.taken part.taken blocks p q part.last a.all a.time part.turned;
  going = part.going;
  time = part.time ∙ a.time;
  failed = part.failed;
}

-- turns after turns
pub turning_then : {blocks : List Bool} {steps left rest : ℕ} {p q r : Point} → Turning blocks steps left p q → Turning blocks left rest q r → Turning blocks steps rest p r
turning_then {blocks} {steps} {left} {rest} {p} {q} {r} a b = record {
  taken = a.taken + b.taken;
  count = omega (arith, a.count, b.count);
  going = b.going;
  time = b.time ∙ a.time;
  all = all_then a.taken b.taken blocks p q r a.all a.time b.all;
}

-- one more turn, which may end the slot
pub turned_last : {blocks : List Bool} {steps left : ℕ} {p q : Point} → Turning blocks steps left p q → (rest : ℕ) (r : Point) → Turned blocks q r → 1 + rest ≡ left → TurnedTo steps rest blocks p r
turned_last {blocks} {steps} {left} {p} {q} a rest r t count =
    let more : suc a.taken ≡ a.taken + 1 = omega arith in
    let all : AllTurned (suc a.taken) blocks p r = (q, a.all, a.going, a.time, t) in
    (a.taken + 1, omega (arith, a.count, count), subst (λ (n : ℕ). AllTurned n blocks p r) more all)

-- and which doesn't
pub turning_one : {blocks : List Bool} {steps left : ℕ} {p q : Point} → Turning blocks steps left p q → (rest : ℕ) (r : Point) → Turned blocks q r → 1 + rest ≡ left → r.state.over ≡ false →
    r.state.time ≡ q.state.time → Turning blocks steps rest p r
turning_one {blocks} {steps} {left} {p} {q} a rest r t count going time =
    let last : TurnedTo steps rest blocks p r = turned_last a rest r t count in
    record { taken = last.0; count = last.1; going = going; time = time ∙ a.time; all = last.2 }

-- one that failed
pub turning_one_part : {blocks : List Bool} {steps left : ℕ} {p q : Point} {vcd lines : Option (List ℕ)} → Turning blocks steps left p q → 0 < left → TurnedPart q vcd lines → AllTurnedPart steps blocks p vcd lines
turning_one_part {blocks} {steps} {left} {p} {q} {vcd} {lines} a some t = turning_part a (once_part left blocks q vcd lines some a.going t)

-- they may stop here
pub turned_so_far : {blocks : List Bool} {steps left : ℕ} {p q : Point} → Turning blocks steps left p q → TurnedTo steps left blocks p q
turned_so_far a = (a.taken, a.count, a.all)

-- a step that was made may be told as one that failed
pub turned_part : {blocks : List Bool} {p q : Point} → Turned blocks p q → TurnedPart p q.vcd q.lines
turned_part {blocks} {p} {q} t = record {
  choice = t.choice;
  enabled = t.enabled;
  free = t.free;
  text = λ d before h. let piece = t.text d before h in (piece.0, piece.1, part_all p.vcd q.vcd piece.0 piece.2);
  lines = part_all p.lines q.lines _ t.lines;
}
