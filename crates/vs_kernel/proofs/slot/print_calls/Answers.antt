use Rattle.std.proofs.Common.{◌≡◌, ◌∙◌, ◌+◌, ◌∷◌, ◌++◌, [], ℕ, List, Option, map, take, drop, refl, sym, ap, subst}
use Rattle.std.proofs.lemmas.List.{take_more}
use Rattle.std.specs.Io.KnownBytes.{Appends}
use Rattle.vs_design.specs.Stores.{Store}
use Rattle.vs_design.specs.Traces.{Line}
use Rattle.vs_run_active.specs.vs_process.specs.Executions.{strobe_line}
use Rattle.vs_run_active.specs.vs_process.specs.States.{Called}
use Rattle.vs_process.specs.vs_strobe.specs.Lines.{Format, full_line}
use Rattle.vs_vcd_writing.specs.Sinks.{AppendsPart}
use Rattle.vs_run_steps.specs.Prints.{lines_text}
use Rattle.vs_run_steps.proofs.PrintsLemmas.{calls_more, calls_front}
use Rattle.vs_run_active.specs.vs_process.proofs.Results.{on_err}
use Rattle.vs_run_steps.proofs.Appending.{append_none, append_more, part_all, part_front, part_more}
use Rattle.vs_kernel.proofs.slot.print_calls.Goals as goal

pub loop-call-init : goal.loop-call-init
loop-call-init g c = record { text = append_none (g.L.Sink.bytes c.args.lines.now); failures = refl }

pub loop-call-preserved : goal.loop-call-preserved
loop-call-preserved g c =
    let store : Store = c.args.store.now in
    let time : ℕ = c.args.time in
    let line : Called → Line = λ x. strobe_line x store time in
    let calls : List Called = c.args.calls.now in
    let i : ℕ = c.loop-call.call-index in
    let x : Called = c.call-item.result in
    let a : Option (List ℕ) = g.L.Sink.bytes c.args.lines.now in
    let m : Option (List ℕ) = g.L.Sink.bytes c.loop-call.lines in
    let n : Option (List ℕ) = g.L.Sink.bytes c.write_all.new.sink in
    let taken : take (i + 1) calls ≡ take i calls ++ x ∷ [] =
    take_more calls i x c.loop-call-test.true ∙ ap (λ (y : Called). take i calls ++ y ∷ []) (sym c.call-item.is)
    in
    let is : c.deref.result.now ≡ full_line x.call store time =
    c.deref.ensures.value ∙ c.in_ok-text.ensures
    ∙ ap (λ (f : Format). full_line f store time) c.format.ensures
    in
    let given : Appends m n (full_line x.call store time) = subst (Appends m n) is c.in_ok-write_all.ensures.ok in
    record {
      text =
          subst (Appends a n) (calls_more line calls i x taken)
          (append_more a m n (lines_text (map line (take i calls))) (full_line x.call store time) c.loop-call.invariant.text given);
      failures = c.in_ok-write_all.ensures.failures ∙ c.loop-call.invariant.failures;
    }

pub returns-in_err-text-clause-err : goal.returns-in_err-text-clause-err
returns-in_err-text-clause-err g c =
    let line : Called → Line = λ x. strobe_line x c.args.store.now c.args.time in
    let calls : List Called = c.args.calls.now in
    let i : ℕ = c.loop-call.call-index in
    let a : Option (List ℕ) = g.L.Sink.bytes c.args.lines.now in
    let m : Option (List ℕ) = g.L.Sink.bytes c.loop-call.lines in
    let front : AppendsPart a m (lines_text (map line calls)) =
    subst (AppendsPart a m) (calls_front line calls i)
    (part_front a m (lines_text (map line (take i calls))) (lines_text (map line (drop i calls))) (part_all a m (lines_text (map line (take i calls))) c.loop-call.invariant.text))
    in
    on_err _ front

pub returns-in_err-write_all-clause-err : goal.returns-in_err-write_all-clause-err
returns-in_err-write_all-clause-err g c =
    let store : Store = c.args.store.now in
    let time : ℕ = c.args.time in
    let line : Called → Line = λ x. strobe_line x store time in
    let calls : List Called = c.args.calls.now in
    let i : ℕ = c.loop-call.call-index in
    let x : Called = c.call-item.result in
    let a : Option (List ℕ) = g.L.Sink.bytes c.args.lines.now in
    let m : Option (List ℕ) = g.L.Sink.bytes c.loop-call.lines in
    let n : Option (List ℕ) = g.L.Sink.bytes c.write_all.new.sink in
    let taken : take (i + 1) calls ≡ take i calls ++ x ∷ [] =
    take_more calls i x c.loop-call-test.true ∙ ap (λ (y : Called). take i calls ++ y ∷ []) (sym c.call-item.is)
    in
    let is : c.deref.result.now ≡ full_line x.call store time =
    c.deref.ensures.value ∙ c.in_ok-text.ensures
    ∙ ap (λ (f : Format). full_line f store time) c.format.ensures
    in
    let part : AppendsPart m n (full_line x.call store time) = subst (AppendsPart m n) is c.in_err-write_all.ensures.err in
    let next : AppendsPart a n (lines_text (map line (take (i + 1) calls))) =
    subst (AppendsPart a n) (calls_more line calls i x taken)
    (part_more a m n (lines_text (map line (take i calls))) (full_line x.call store time) c.loop-call.invariant.text part)
    in
    let front : AppendsPart a n (lines_text (map line calls)) =
    subst (AppendsPart a n) (calls_front line calls (i + 1))
    (part_front a n (lines_text (map line (take (i + 1) calls))) (lines_text (map line (drop (i + 1) calls))) next)
    in
    on_err _ front
