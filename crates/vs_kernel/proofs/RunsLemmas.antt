-- A run that goes on, and where it ends.
use Rattle.std.proofs.Common.{◌≡◌, ℕ, ◌+◌, ◌<◌, ◌≤◌, ◌&&◌, not, cond, Bool, true, false, Option, Some, None, List, [], ◌∷◌, ◌++◌, slice_get, zero, map, length, refl, sym, ◌∙◌, ap, subst, arith, leb, append_assoc, suc}
use Rattle.std.specs.Prelude.{filter, unwrap_or, ◌||◌, nat_lt, if◌then◌else◌}
use Rattle.std.specs.Io.KnownBytes.{Appends}
use Rattle.std.proofs.lemmas.Bool.{le-leb, le-ltb, lt-ltb, ltb-false}
use Rattle.std.proofs.lemmas.List.{append-nil}
use Rattle.std.proofs.lemmas.List.Elements.{filter-append}
use Rattle.vs_design.specs.declared.design.Process.{Process}
use Rattle.vs_design.specs.Parts.{Parts}
use Rattle.vs_design.specs.Traces.{Slot}
use Rattle.vs_run_regions.specs.vs_process.specs.declared.moves.Grain.TheVariants.{Statement, Block}
use Rattle.vs_run_regions.specs.vs_process.specs.declared.moves.Move.{Move}
use Rattle.vs_run_regions.specs.vs_process.specs.declared.moves.Move.TheVariants.{Step, Evaluate, Propagate, Make, Rouse, Activate, EndSlot}
use Rattle.vs_run_regions.specs.vs_process.specs.Executions.{after, Legal, slots, trace, is_by, is_combinational, is_enabled, is_free, allowed, apply, ended_slot, finish_time, lines_of, move_lines, is_complete, next_time, time_at}
use Rattle.vs_run_regions.specs.vs_process.specs.Places.{Place}
use Rattle.vs_run_regions.specs.vs_process.specs.Blocks.{BlocksExclude, InsideFollows, inside_after_move, inside_block, is_inside_at, is_inside_number, is_step_of_any}
use Rattle.vs_design.specs.vs_logic4.proofs.Basics.{right_false, left_false}
use Rattle.vs_kernel.specs.vs_run_steps.specs.Insides.{inside_by_flags, is_block_inside}
use Rattle.vs_run_regions.specs.vs_process.specs.States.{State, start}
use Rattle.vs_vcd_writing.specs.Progress.{Progress}
use Rattle.vs_vcd_writing.specs.Sinks.{AppendsPart}
use Rattle.vs_vcd_writing.specs.Text.{vcd_header, vcd_slots, vcd_end, vcd_text}
use Rattle.vs_kernel.specs.Ends.{end_in, outcome_in}
use Rattle.vs_kernel.specs.vs_run_steps.specs.Recording.{HasNoted}
use Rattle.vs_kernel.specs.vs_run_steps.specs.Prints.{lines_text}
use Rattle.vs_kernel.specs.vs_run_steps.proofs.Appending.{append_more, append_none, part_all, part_front, part_more}
use Rattle.vs_kernel.specs.vs_run_steps.proofs.MoveLemmas.{evaluate_over, make_over, propagate_over}
use Rattle.vs_run_regions.specs.vs_process.proofs.Times.{stepped_over}
use Rattle.vs_kernel.specs.vs_run_steps.proofs.PrintsLemmas.{lines_behind}
use Rattle.vs_kernel.specs.vs_run_steps.specs.Slots.{AppendsSlots, AppendsSlotsPart}
use Rattle.vs_kernel.specs.Runs.{RanTo, HasBegun, EndsAs, StopsAt, text_so_far}
use Rattle.vs_kernel.specs.declared.outcome.Outcome.{Outcome}
use Rattle.vs_kernel.specs.declared.outcome.Outcome.TheVariants.{Reached, Quiet, Finished, StepLimit}

-- a run of so many steps that isn't at its end: the execution so far, whose slots a writer has written and a sink has, and whose lines another one has
pub record HasRun (d : Parts) (until steps taken : ℕ) (now : State) (writer : Option Progress) (old new lold lnew : Option (List ℕ)) : Type 0 where
  pub moves : List Move
  pub statement : Legal Statement d moves
  pub block : Legal Block d moves
  pub stops : StopsAt until d moves
  pub count : length moves ≡ taken
  pub within : taken ≤ steps
  pub state : after d moves ≡ now
  pub written : HasNoted writer new d (slots d moves)
  pub text : Appends old new (vcd_header d ++ vcd_slots d (slots d moves))
  pub lines : Appends lold lnew (lines_text (lines_of d moves))

three : (over enabled free : Bool) → over ≡ false → enabled ≡ true → free ≡ true → (not over && enabled && free) ≡ true
three false true true p q r = refl
three _ _ _ p q r = cc

-- an enabled move is allowed at grain statement
pub permitted : (d : Parts) (s : State) (m : Move) → s.over ≡ false → is_enabled s m ≡ true → allowed Statement d s m ≡ true
permitted d s m over enabled = three s.over (is_enabled s m) true over enabled refl

-- at grain block it is allowed where no combinational block has left its control, or where it is a step of the one that has
pub permitted_block : {d : Parts} {until steps taken : ℕ} {now : State} {writer : Option Progress} {old new lold lnew : Option (List ℕ)} →
    (r : HasRun d until steps taken now writer old new lold lnew) → BlocksExclude → (inside : Option ℕ) (m : Move) → inside ≡ inside_block d.processes now.places →
    now.over ≡ false → is_enabled now m ≡ true → is_step_of_any inside m ≡ true → allowed Block d now m ≡ true
permitted_block {d} {until} {steps} {taken} {now} {writer} {old} {new} {lold} {lnew} r exclude inside m here over enabled free =
    let same : is_free Block d now m ≡ is_step_of_any (inside_block d.processes now.places) m =
    subst (λ (t : State). is_free Block d t m ≡ is_step_of_any (inside_block d.processes t.places) m) r.state ((exclude d r.moves r.block).1 m)
    in
    three now.over (is_enabled now m) (is_free Block d now m) over enabled (same ∙ ap (λ (o : Option ℕ). is_step_of_any o m) (sym here) ∙ free)

told_at : (ps : List Process) (xs : List Place) (i : ℕ) → is_block_inside (slice_get (map is_combinational ps) i) (slice_get xs i) ≡ is_inside_number ps xs i
told_at [] xs i = refl
told_at (p ∷ ps) [] zero = refl
told_at (p ∷ ps) [] (suc i) = told_none ps i
  where
    told_none : (ps : List Process) (i : ℕ) → is_block_inside (slice_get (map is_combinational ps) i) None ≡ is_inside_at (slice_get ps i) None
    told_none [] i = refl
    told_none (p ∷ ps) zero = refl
    told_none (p ∷ ps) (suc i) = told_none ps i
told_at (p ∷ ps) (x ∷ xs) zero = refl
told_at (p ∷ ps) (x ∷ xs) (suc i) = told_at ps xs i

told_behind : (ps : List Process) (xs : List Place) (m : Move) → inside_by_flags (map is_combinational ps) xs m ≡ inside_after_move ps xs m
told_behind ps xs (Step i) = ap (λ (b : Bool). if b then Some i else None) (told_at ps xs i)
told_behind ps xs (Evaluate j) = refl
told_behind ps xs (Propagate j) = refl
told_behind ps xs (Make i) = refl
told_behind ps xs Rouse = refl
told_behind ps xs Activate = refl
told_behind ps xs EndSlot = refl

-- the block that has left its control behind a move
pub inside_next : (d : Parts) (s t : State) (m : Move) (blocks : List Bool) (inside : Option ℕ) → InsideFollows → blocks ≡ map is_combinational d.processes → allowed Block d s m ≡ true → t ≡ apply m s →
    inside ≡ inside_by_flags blocks t.places m → inside ≡ inside_block d.processes t.places
inside_next d s t m blocks inside follows told block next is =
    is ∙ ap (λ (l : List Bool). inside_by_flags l t.places m) told ∙ told_behind d.processes t.places m
    ∙ subst (λ (r : State). inside_after_move d.processes r.places m ≡ inside_block d.processes r.places) (sym next) (sym (follows d s m block))

-- a slot that ends by the moment is one of the trace
ended_kept : (until : ℕ) (m : Move) (s : State) → s.time ≤ until → filter (is_by until) (ended_slot m s) ≡ ended_slot m s
ended_kept until EndSlot s h = ap (λ (b : Bool). cond b (ended_slot EndSlot s) []) (le-leb s.time until h)
ended_kept until (Step i) s h = refl
ended_kept until (Evaluate j) s h = refl
ended_kept until (Propagate j) s h = refl
ended_kept until (Make i) s h = refl
ended_kept until Rouse s h = refl
ended_kept until Activate s h = refl

kept_more : (p : Slot → Bool) (xs ys : List Slot) → filter p xs ≡ xs → filter p ys ≡ ys → filter p (xs ++ ys) ≡ xs ++ ys
kept_more p xs ys h k = filter-append p xs ys ∙ ap (λ (l : List Slot). l ++ filter p ys) h ∙ ap (λ (l : List Slot). xs ++ l) k

-- an execution that isn't complete isn't past the moment
pub by_then : (until : ℕ) (s : State) → is_complete until s ≡ false → s.time ≤ until
by_then until s h = ltb-false until s.time (right_false s.over (nat_lt until s.time) h)

-- an execution that isn't over and not past the moment isn't complete
pub incomplete : (until : ℕ) (s : State) → s.over ≡ false → s.time ≤ until → is_complete until s ≡ false
incomplete until s over early = ap (λ b. b || nat_lt until s.time) over ∙ le-ltb until s.time early

-- each slot that ended is one of the trace
pub all_kept : (until : ℕ) (d : Parts) (moves : List Move) → StopsAt until d moves → filter (is_by until) (slots d moves) ≡ slots d moves
all_kept until d [] h = refl
all_kept until d (m ∷ before) h =
    kept_more (is_by until) (slots d before) (ended_slot m (after d before)) (all_kept until d before h.0) (ended_kept until m (after d before) (by_then until (after d before) h.1))

-- before the first move
pub begins : {d : Parts} {until steps : ℕ} {now : State} {writer : Option Progress} {old new lines : Option (List ℕ)} → now ≡ start d → HasNoted writer new d [] → Appends old new (vcd_header d) →
    HasRun d until steps 0 now writer old new lines lines
begins {d} {until} {steps} {now} {writer} {old} {new} {lines} here written text = record {
  moves = [];
  statement = tt;
  block = tt;
  stops = tt;
  count = refl;
  within = omega arith;
  state = sym here;
  written = written;
  text = subst (Appends old new) (sym (append-nil (vcd_header d))) text;
  lines = append_none lines;
}

-- the text of one more slot
more_text : (d : Parts) (before more more' : List Slot) (piece : List ℕ) → more ≡ more' → vcd_slots d (before ++ more) ≡ vcd_slots d before ++ piece →
    (vcd_header d ++ vcd_slots d before) ++ piece ≡ vcd_header d ++ vcd_slots d (before ++ more')
more_text d before more more' piece same is =
    append_assoc (vcd_header d) (vcd_slots d before) piece ∙ ap (λ (l : List ℕ). vcd_header d ++ l) (sym is) ∙ ap (λ (l : List Slot). vcd_header d ++ vcd_slots d (before ++ l)) same

-- behind one more move
pub goes_on : {d : Parts} {until steps taken : ℕ} {now now' : State} {writer writer' : Option Progress} {old new new' lold lnew lnew' : Option (List ℕ)} →
    (r : HasRun d until steps taken now writer old new lold lnew) (m : Move) → allowed Statement d now m ≡ true → allowed Block d now m ≡ true → is_complete until now ≡ false → (taken ≡ steps → ⊥) → now' ≡ apply m now →
    ((before : List Slot) → HasNoted writer new d before → HasNoted writer' new' d (before ++ ended_slot m now)) →
    ((before : List Slot) → HasNoted writer new d before → AppendsSlots new new' d before (ended_slot m now)) →
    Appends lnew lnew' (lines_text (move_lines m now)) →
    HasRun d until steps (taken + 1) now' writer' old new' lold lnew'
goes_on {d} {until} {steps} {taken} {now} {now'} {writer} {writer'} {old} {new} {new'} {lold} {lnew} {lnew'} r m statement block going more next written appended printed =
    let s = after d r.moves in
    let slot : ended_slot m now ≡ ended_slot m s = ap (ended_slot m) (sym r.state) in
    let piece = appended (slots d r.moves) r.written in
    record {
      moves = m ∷ r.moves;
      statement = (r.statement, ap (λ (t : State). allowed Statement d t m) r.state ∙ statement);
      block = (r.block, ap (λ (t : State). allowed Block d t m) r.state ∙ block);
      stops = (r.stops, ap (is_complete until) r.state ∙ going);
      count = omega (arith, r.count);
      within = omega (arith, r.within, more);
      state = ap (apply m) r.state ∙ sym next;
      written = subst (λ (l : List Slot). HasNoted writer' new' d (slots d r.moves ++ l)) slot (written (slots d r.moves) r.written);
      text =
          subst (Appends old new') (more_text d (slots d r.moves) (ended_slot m now) (ended_slot m s) piece.0 slot piece.1)
          (append_more old new new' (vcd_header d ++ vcd_slots d (slots d r.moves)) piece.0 r.text piece.2);
      lines =
          subst (Appends lold lnew') (lines_behind d r.moves m now r.state)
          (append_more lold lnew lnew' (lines_text (lines_of d r.moves)) (lines_text (move_lines m now)) r.lines printed);
    }

-- the text of the trace, where each slot that ended is one of it
whole_text : (d : Parts) (moves : List Move) (until : ℕ) → filter (is_by until) (slots d moves) ≡ slots d moves →
    (vcd_header d ++ vcd_slots d (slots d moves)) ++ vcd_end d (slots d moves) (unwrap_or (finish_time until (after d moves)) until) ≡ vcd_text d (trace d moves until) until
whole_text d moves until kept =
    sym (ap (λ (l : List Slot). (vcd_header d ++ vcd_slots d l) ++ vcd_end d l (unwrap_or (finish_time until (after d moves)) until)) kept)

finish_by : (over finishing early : Bool) (time until : ℕ) → (over ≡ true → early ≡ true) →
    (if over && finishing then time else until) ≡ unwrap_or (if over && finishing && early then Some time else None) until
finish_by true true true time until h = refl
finish_by true true false time until h = let e = h refl in cc
finish_by true false early time until h = refl
finish_by false finishing early time until h = refl

-- the moment at which a dump ends is that of its trace
end_here : (until : ℕ) (s : State) → (s.over ≡ true → s.time ≤ until) → end_in until s ≡ unwrap_or (finish_time until s) until
end_here until s h = finish_by s.over s.finishing (leb s.time until) s.time until (λ over. le-leb s.time until (h over))

-- the text so far of an execution that isn't complete, and of one that is
so_far : (d : Parts) (moves : List Move) (until : ℕ) (b : Bool) → is_complete until (after d moves) ≡ b →
    text_so_far d moves until ≡ (if b then vcd_text d (trace d moves until) until else vcd_header d ++ vcd_slots d (slots d moves))
so_far d moves until b h = ap (λ (c : Bool). if c then vcd_text d (trace d moves until) until else vcd_header d ++ vcd_slots d (slots d moves)) h

-- at the step limit
pub limited : {d : Parts} {until steps taken : ℕ} {now : State} {writer : Option Progress} {old new lold lnew : Option (List ℕ)} (time : ℕ) →
    (r : HasRun d until steps taken now writer old new lold lnew) → is_complete until now ≡ false → time ≡ now.time → taken ≡ steps →
    RanTo d until steps (StepLimit time) old new lold lnew
limited {d} {until} {steps} {taken} {now} {writer} {old} {new} {lold} {lnew} time r going here all =
    let open_end : is_complete until (after d r.moves) ≡ false = ap (is_complete until) r.state ∙ going in
    record {
      moves = r.moves;
      statement = r.statement;
      block = r.block;
      stops = r.stops;
      end = (open_end, ap (λ (t : State). t.time) r.state ∙ sym here, r.count ∙ all);
      text = subst (Appends old new) (sym (so_far d r.moves until false open_end)) r.text;
      lines = r.lines;
    }

pub complete_past : (until : ℕ) (s : State) → s.over ≡ false → until < s.time → is_complete until s ≡ true
complete_past until s over late = ap (λ b. b || nat_lt until s.time) over ∙ lt-ltb until s.time late

pub complete_over : (until : ℕ) (s : State) → s.over ≡ true → is_complete until s ≡ true
complete_over until s over = ap (λ b. b || nat_lt until s.time) over

not_over : (a : Bool) {P : Type 0} → a ≡ true → a ≡ false → P
not_over true h k = cc
not_over false h k = cc

stays_by : (until : ℕ) (s : State) (b : Bool) → b ≡ true → s.time ≤ until → time_at b (next_time s) s.time ≤ until
stays_by until s true h early = early
stays_by until s false h early = cc

-- an execution that is over by a move wasn't past the moment
over_behind : (until : ℕ) (m : Move) (s : State) → s.over ≡ false → s.time ≤ until → (apply m s).over ≡ true → (apply m s).time ≤ until
over_behind until (Step i) s going early over = not_over _ over (stepped_over s i (slice_get s.places i) ∙ going)
over_behind until (Evaluate j) s going early over = not_over _ over (evaluate_over s j (slice_get s.assigns j) ∙ going)
over_behind until (Propagate j) s going early over = not_over _ over (propagate_over s j (slice_get s.assigns j) ∙ going)
over_behind until (Make i) s going early over = not_over _ over (make_over s i (slice_get s.updates i) ∙ going)
over_behind until Rouse s going early over = not_over _ over going
over_behind until Activate s going early over = not_over _ over going
over_behind until EndSlot s going early over = stays_by until s _ over early

-- an execution that goes on until it is complete is over by the moment, or not at all
over_by : (until : ℕ) (d : Parts) (moves : List Move) → StopsAt until d moves → (after d moves).over ≡ true → (after d moves).time ≤ until
over_by until d [] stops over = cc
over_by until d (m ∷ before) stops over =
    over_behind until m (after d before) (left_false (after d before).over (nat_lt until (after d before).time) stops.1) (by_then until (after d before) stops.1) over

-- the moment at which the dump of a run ends
run_end : {d : Parts} {until steps taken : ℕ} {now : State} {writer : Option Progress} {old new lold lnew : Option (List ℕ)} →
    (r : HasRun d until steps taken now writer old new lold lnew) → end_in until now ≡ unwrap_or (finish_time until (after d r.moves)) until
run_end {d} {until} {steps} {taken} {now} {writer} {old} {new} {lold} {lnew} r =
    ap (end_in until) (sym r.state) ∙ end_here until (after d r.moves) (over_by until d r.moves r.stops)

-- the whole text of a run is that of its trace
run_text : {d : Parts} {until steps taken : ℕ} {now : State} {writer : Option Progress} {old new lold lnew : Option (List ℕ)} (end : ℕ) →
    (r : HasRun d until steps taken now writer old new lold lnew) → is_complete until now ≡ true → end ≡ end_in until now →
    (vcd_header d ++ vcd_slots d (slots d r.moves)) ++ vcd_end d (slots d r.moves) end ≡ text_so_far d r.moves until
run_text {d} {until} {steps} {taken} {now} {writer} {old} {new} {lold} {lnew} end r complete is =
    ap (λ (t : ℕ). (vcd_header d ++ vcd_slots d (slots d r.moves)) ++ vcd_end d (slots d r.moves) t) (is ∙ run_end r)
    ∙ whole_text d r.moves until (all_kept until d r.moves r.stops)
    ∙ sym (so_far d r.moves until true (ap (is_complete until) r.state ∙ complete))

ends_as : (over finishing : Bool) (until steps taken : ℕ) (s : State) → s.over ≡ over → s.finishing ≡ finishing → is_complete until s ≡ true → (s.over ≡ true → s.time ≤ until) → taken ≤ steps →
    EndsAs (if over then (if finishing then Finished s.time else Quiet) else Reached) until steps taken s
ends_as true true until steps taken s is finish complete by within = (is, finish, refl, by is, within)
ends_as true false until steps taken s is finish complete by within = (is, finish, by is, within)
ends_as false finishing until steps taken s is finish complete by within = (is, complete, within)

-- a complete run
pub ended_run : {d : Parts} {until steps taken : ℕ} {now : State} {writer : Option Progress} {old new new' lold lnew : Option (List ℕ)} (outcome : Outcome) (end : ℕ) →
    (r : HasRun d until steps taken now writer old new lold lnew) → is_complete until now ≡ true → outcome ≡ outcome_in now → end ≡ end_in until now →
    ((before : List Slot) → HasNoted writer new d before → Appends new new' (vcd_end d before end)) → RanTo d until steps outcome old new' lold lnew
ended_run {d} {until} {steps} {taken} {now} {writer} {old} {new} {new'} {lold} {lnew} outcome end r complete out is ends =
    let s = after d r.moves in
    let whole : is_complete until s ≡ true = ap (is_complete until) r.state ∙ complete in
    let within : length r.moves ≤ steps = omega (arith, r.count, r.within) in
    record {
      moves = r.moves;
      statement = r.statement;
      block = r.block;
      stops = r.stops;
      end =
          subst (λ (o : Outcome). EndsAs o until steps (length r.moves) s) (ap outcome_in r.state ∙ sym out)
          (ends_as s.over s.finishing until steps (length r.moves) s refl refl whole (over_by until d r.moves r.stops) within);
      text =
          subst (Appends old new') (run_text end r complete is)
          (append_more old new new' (vcd_header d ++ vcd_slots d (slots d r.moves)) (vcd_end d (slots d r.moves) end) r.text (ends (slots d r.moves) r.written));
      lines = r.lines;
    }

part_by : (b : Bool) (old new : Option (List ℕ)) (whole front tail : List ℕ) → front ++ tail ≡ whole → AppendsPart old new front → AppendsPart old new (if b then whole else front)
part_by true old new whole front tail is h = subst (AppendsPart old new) is (part_front old new front tail h)
part_by false old new whole front tail is h = h

-- a beginning of the header and the slots that ended is one of the text so far
part_so_far : (old new : Option (List ℕ)) (d : Parts) (moves : List Move) (until : ℕ) → StopsAt until d moves →
    AppendsPart old new (vcd_header d ++ vcd_slots d (slots d moves)) → AppendsPart old new (text_so_far d moves until)
part_so_far old new d moves until stops h =
    part_by (is_complete until (after d moves)) old new (vcd_text d (trace d moves until) until) (vcd_header d ++ vcd_slots d (slots d moves))
    (vcd_end d (slots d moves) (unwrap_or (finish_time until (after d moves)) until)) (whole_text d moves until (all_kept until d moves stops)) h

-- the header wasn't written whole
pub header_failed : {d : Parts} {until steps : ℕ} {old new lines : Option (List ℕ)} → AppendsPart old new (vcd_header d) → HasBegun d until steps old new lines lines
header_failed {d} {until} {steps} {old} {new} {lines} h = record {
  moves = [];
  statement = tt;
  block = tt;
  stops = tt;
  within = omega arith;
  text = part_so_far old new d [] until tt (part_front old new (vcd_header d) [] h);
  lines = (0, append_none lines);
}

-- a move wasn't made, or what it prints not written whole
pub move_failed : {d : Parts} {until steps taken : ℕ} {now : State} {writer : Option Progress} {old new new' lold lnew lnew' : Option (List ℕ)} →
    (r : HasRun d until steps taken now writer old new lold lnew) (m : Move) → allowed Statement d now m ≡ true → allowed Block d now m ≡ true → is_complete until now ≡ false → (taken ≡ steps → ⊥) →
    ((before : List Slot) → HasNoted writer new d before → AppendsSlotsPart new new' d before (ended_slot m now)) →
    AppendsPart lnew lnew' (lines_text (move_lines m now)) → HasBegun d until steps old new' lold lnew'
move_failed {d} {until} {steps} {taken} {now} {writer} {old} {new} {new'} {lold} {lnew} {lnew'} r m statement block going more appended printed =
    let s = after d r.moves in
    let slot : ended_slot m now ≡ ended_slot m s = ap (ended_slot m) (sym r.state) in
    let piece = appended (slots d r.moves) r.written in
    let stops : StopsAt until d (m ∷ r.moves) = (r.stops, ap (is_complete until) r.state ∙ going) in
    let front : AppendsPart old new' (vcd_header d ++ vcd_slots d (slots d (m ∷ r.moves))) =
    subst (AppendsPart old new') (more_text d (slots d r.moves) (ended_slot m now) (ended_slot m s) piece.0 slot piece.1)
    (part_more old new new' (vcd_header d ++ vcd_slots d (slots d r.moves)) piece.0 r.text piece.2)
    in
    record {
      moves = m ∷ r.moves;
      statement = (r.statement, ap (λ (t : State). allowed Statement d t m) r.state ∙ statement);
      block = (r.block, ap (λ (t : State). allowed Block d t m) r.state ∙ block);
      stops = stops;
      within = omega (arith, r.count, r.within, more);
      text = part_so_far old new' d (m ∷ r.moves) until stops front;
      lines =
          subst (AppendsPart lold lnew') (lines_behind d r.moves m now r.state)
          (part_more lold lnew lnew' (lines_text (lines_of d r.moves)) (lines_text (move_lines m now)) r.lines printed);
    }

-- the end wasn't written whole
pub end_failed : {d : Parts} {until steps taken : ℕ} {now : State} {writer : Option Progress} {old new new' lold lnew : Option (List ℕ)} (end : ℕ) →
    (r : HasRun d until steps taken now writer old new lold lnew) → is_complete until now ≡ true → end ≡ end_in until now →
    ((before : List Slot) → HasNoted writer new d before → AppendsPart new new' (vcd_end d before end)) → HasBegun d until steps old new' lold lnew
end_failed {d} {until} {steps} {taken} {now} {writer} {old} {new} {new'} {lold} {lnew} end r complete is ends = record {
  moves = r.moves;
  statement = r.statement;
  block = r.block;
  stops = r.stops;
  within = omega (arith, r.count, r.within);
  text =
      subst (AppendsPart old new') (run_text end r complete is)
      (part_more old new new' (vcd_header d ++ vcd_slots d (slots d r.moves)) (vcd_end d (slots d r.moves) end) r.text (ends (slots d r.moves) r.written));
  lines = part_all lold lnew (lines_text (lines_of d r.moves)) r.lines;
}
