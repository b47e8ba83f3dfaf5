-- What is written of a run of a design that keeps all rules stands for each execution.
use Rattle.std.proofs.Common.{◌≡◌, ◌++◌, Bool, true, false, ℕ, Option, IfSome, List, sym, ◌∙◌, ap, subst}
use Rattle.std.specs.Prelude.{if◌then◌else◌}
use Rattle.std.specs.Io.KnownBytes.{Appends}
use Rattle.vs_design.specs.Parts.{Parts}
use Rattle.vs_design.specs.Stores.{Store}
use Rattle.vs_design.specs.Traces.{Slot, SameTrace}
use Rattle.vs_independence.specs.vs_process.specs.declared.moves.Grain.{Grain}
use Rattle.vs_independence.specs.vs_process.specs.declared.moves.Grain.TheVariants.{Block, Statement}
use Rattle.vs_independence.specs.vs_process.specs.declared.moves.Move.{Move}
use Rattle.vs_independence.specs.vs_process.specs.Executions.{after, Legal, is_complete, lines_of, slots, trace}
use Rattle.vs_independence.specs.vs_process.specs.States.{State}
use Rattle.vs_simulate.specs.vs_kernel.specs.vs_vcd_writing.specs.Shown.{Shows, slot_at}
use Rattle.vs_simulate.specs.vs_kernel.specs.vs_vcd_writing.specs.Text.{vcd_header, vcd_slots, vcd_text}
use Rattle.vs_simulate.specs.vs_kernel.specs.vs_vcd_writing.specs.Values.{shown_value}
use Rattle.vs_independence.specs.Displays.{LinesAreOfSlots}
use Rattle.vs_cert_check.specs.vs_rules.specs.Claims.{Claims}
use Rattle.vs_cert_check.specs.Means.{IsIndependent}
use Rattle.vs_simulate.specs.vs_kernel.specs.Runs.{EndsAs, RanTo, StopsAt, text_so_far}
use Rattle.vs_simulate.specs.vs_kernel.specs.Shows.{ShowsSlotEnds}
use Rattle.vs_simulate.specs.vs_kernel.specs.declared.outcome.Outcome.{Outcome}
use Rattle.vs_simulate.specs.vs_kernel.specs.declared.outcome.Outcome.TheVariants.{Finished, Quiet, Reached, StepLimit}
use Rattle.vs_simulate.specs.vs_kernel.proofs.RunsLemmas.{all_kept, complete_over}
use Rattle.vs_sign_off.specs.Certified.{RepresentsRun, is_whole}
use Rattle.vs_sign_off.proofs.LinesLemmas.{lines_alike}
use Rattle.vs_sign_off.proofs.TraceLemmas.{shown_same, text_same}

pub legal_at : (grain : Grain) (d : Parts) (moves : List Move) → Legal Statement d moves → Legal Block d moves → Legal grain d moves
legal_at Statement d moves statement block = statement
legal_at Block d moves statement block = block

-- the execution of a run is complete unless the step limit ended it
complete_by : (outcome : Outcome) (until steps taken : ℕ) (s : State) → EndsAs outcome until steps taken s → is_whole outcome ≡ true → is_complete until s ≡ true
complete_by Reached until steps taken s h whole = h.1
complete_by Quiet until steps taken s h whole = complete_over until s h.0
complete_by (Finished time) until steps taken s h whole = complete_over until s h.0
complete_by (StepLimit time) until steps taken s h whole = cc

-- what a dump shows of one execution it shows of another one with the same trace
shows_other : (d : Parts) (until : ℕ) (moves xs : List Move) → StopsAt until d moves → SameTrace (trace d xs until) (trace d moves until) →
    text_so_far d moves until ≡ vcd_text d (trace d xs until) until → (time signal : ℕ) →
    IfSome (slot_at time (slots d moves)) (λ s. Shows (text_so_far d moves until) d time signal (shown_value s.store signal)) →
    IfSome (slot_at time (trace d xs until).slots) (λ s. Shows (vcd_text d (trace d xs until) until) d time signal (shown_value s.store signal))
shows_other d until moves xs stops same text time signal h =
    shown_same (λ (store : Store). Shows (vcd_text d (trace d xs until) until) d time signal (shown_value store signal)) time
    (trace d xs until).slots (trace d moves until).slots same.slots
    (subst (λ (ss : List Slot). IfSome (slot_at time ss) (λ s. Shows (vcd_text d (trace d xs until) until) d time signal (shown_value s.store signal)))
    (sym (all_kept until d moves stops))
    (subst (λ (t : List ℕ). IfSome (slot_at time (slots d moves)) (λ s. Shows t d time signal (shown_value s.store signal))) text h))

-- so of a run that is complete to the moment
pub stands_for : {d : Parts} {c : Claims} {until steps : ℕ} {outcome : Outcome} {old new lold lnew : Option (List ℕ)} → LinesAreOfSlots → IsIndependent d c →
    (ran : RanTo d until steps outcome old new lold lnew) → ShowsSlotEnds d ran.moves until → is_whole outcome ≡ true → (xs : List Move) →
    Legal c.grain d xs → is_complete until (after d xs) ≡ true → RepresentsRun d c until ran.moves old new lold lnew xs
stands_for {d} {c} {until} {steps} {outcome} {old} {new} {lold} {lnew} law independent ran shows whole xs legal complete =
    let moves = ran.moves in
    let own = legal_at c.grain d moves ran.statement ran.block in
    let ends : is_complete until (after d moves) ≡ true = complete_by outcome until steps _ (after d moves) ran.end whole in
    let same : SameTrace (trace d xs until) (trace d moves until) = independent.traces until xs moves legal own complete ends in
    let text : text_so_far d moves until ≡ vcd_text d (trace d xs until) until =
    ap (λ (b : Bool). if b then vcd_text d (trace d moves until) until else vcd_header d ++ vcd_slots d (slots d moves)) ends
    ∙ sym (text_same d until (trace d xs until) (trace d moves until) same)
    in
    record {
      same = same;
      dump = subst (Appends old new) text ran.text;
      shows = λ time signal within. shows_other d until moves xs ran.stops same text time signal (shows time signal within);
      lines = lines_of d moves;
      written = ran.lines;
      by_slots = lines_alike until d moves (trace d xs until).slots law ran.stops ends same.slots;
      displayed = λ on. independent.lines on until xs moves legal own complete ends;
    }
