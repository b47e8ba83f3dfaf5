use Rattle.std.proofs.Common.{◌≡◌, ◌∙◌, ◌+◌, ◌-◌, ◌≤◌, ℕ, List, Option, refl, rules, sym, ap, subst, true, arith}
use Rattle.vs_run_regions.specs.vs_process.specs.Executions.{is_complete}
use Rattle.vs_run_regions.specs.vs_process.specs.States.{State}
use Rattle.vs_run_regions.specs.vs_process.specs.Blocks.{inside_block}
use Rattle.vs_run_regions.specs.vs_process.proofs.Results.{on_err}
use Rattle.vs_kernel.specs.vs_run_steps.specs.Runs.{state_of}
use Rattle.vs_kernel.specs.Snapshot.{Snapshot, point_of}
use Rattle.vs_kernel.specs.vs_run_steps.proofs.Appending.{append_none}
use Rattle.vs_kernel.specs.vs_run_steps.proofs.WritingLemmas.{part_failed, first_failed, failed_as, failed_from}
use Rattle.vs_kernel.specs.vs_run_steps.specs.Points.{Point}
use Rattle.vs_kernel.specs.vs_run_steps.specs.Turns.{RunsTo, TurnedTo}
use Rattle.vs_kernel.proofs.RunsLemmas.{HasRun, begins, limited, incomplete, complete_past, complete_over, ended_run, header_failed, end_failed}
use Rattle.vs_kernel.proofs.RunPointLemmas.{IsAtPoint, all_failed, all_on}
use Rattle.vs_kernel.proofs.kernel_run.execute.Goals as goal
use Rattle.vs_kernel.proofs.kernel_run.execute.Goals.{then-loop-run-test+else-time-until, else-loop-run-test}

pub loop-run-init : goal.loop-run-init
loop-run-init g c =
    let none : 0 ≡ c.args.steps - c.args.steps = omega arith in
    record {
      run =
          subst
          (λ (n : ℕ). HasRun c.args.design.now c.args.until c.args.steps n (state_of c.in_ok-run.run'.running) c.in_ok-run.run'.writer (g.V.Sink.bytes c.args.vcd.now) (g.V.Sink.bytes c.start.new.vcd)
          (g.L.Sink.bytes c.args.lines.now) (g.L.Sink.bytes c.args.lines.now)) none (begins c.in_ok-run.ensures.state c.in_ok-run.ensures.written c.in_ok-run.ensures.bytes);
      within = omega arith;
      inside = λ some.
          c.in_ok-run.ensures.inside
          ∙ sym (ap (λ (s : State). inside_block c.args.design.now.processes s.places) c.in_ok-run.ensures.state ∙ c.none_inside_first.ensures c.args.design.now);
      standing = c.in_ok-run.ensures.run;
      design = c.in_ok-run.ensures.design;
      blocks = c.in_ok-run.ensures.blocks;
      failures = c.in_ok-run.ensures.failures;
      line_failures = refl;
    }

pub loop-run-preserved : goal.loop-run-preserved
loop-run-preserved g c =
    let early : (state_of c.loop-run.run.running).time ≤ c.args.until = omega (arith, c.time.ensures, c.if-time-until.true) in
    let old : Option (List ℕ) = g.V.Sink.bytes c.args.vcd.now in
    let lold : Option (List ℕ) = g.L.Sink.bytes c.args.lines.now in
    let p : Point = point_of c.loop-run.run c.loop-run.run.inside (g.V.Sink.bytes c.loop-run.vcd) (g.L.Sink.bytes c.loop-run.lines) in
    let to : RunsTo c.loop-run.left c.in_ok-rest.rest c.loop-run.run.blocks p c.take_steps.new.self.inside
    (λ now. point_of c.take_steps.new.self now (g.V.Sink.bytes c.take_steps.new.vcd) (g.L.Sink.bytes c.take_steps.new.lines)) = c.in_ok-rest.ensures.ok in
    let q : Point = point_of c.take_steps.new.self to.0 (g.V.Sink.bytes c.take_steps.new.vcd) (g.L.Sink.bytes c.take_steps.new.lines) in
    let turned : TurnedTo c.loop-run.left c.in_ok-rest.rest c.loop-run.run.blocks p q = to.1 in
    let taken : ℕ = c.args.steps - c.loop-run.left in
    let before : IsAtPoint c.args.design.now c.args.until c.args.steps taken p old lold =
    record { run = c.loop-run.invariant.run; inside = c.loop-run.invariant.inside (omega (arith, c.if-left-eq0.false)) }
    in
    let within : taken + turned.0 ≤ c.args.steps = omega (arith, c.loop-run.invariant.within, turned.1) in
    let count : taken + turned.0 ≡ c.args.steps - c.in_ok-rest.rest = omega (arith, c.loop-run.invariant.within, turned.1) in
    let later : IsAtPoint c.args.design.now c.args.until c.args.steps (c.args.steps - c.in_ok-rest.rest) q old lold =
    subst (λ (n : ℕ). IsAtPoint c.args.design.now c.args.until c.args.steps n q old lold) count
    (all_on before turned.0 c.loop-run.run.blocks q c.blocks_exclude.ensures c.inside_follows.ensures c.loop-run.invariant.blocks early within turned.2)
    in
    record {
      run = later.run;
      within = omega (arith, c.loop-run.invariant.within, c.in_ok-rest.ensures.some);
      inside = λ some. sym (to.2 some) ∙ later.inside;
      standing = c.in_ok-rest.ensures.run;
      design = ap (λ (r : Snapshot). r.design) c.in_ok-rest.ensures.same ∙ c.loop-run.invariant.design;
      blocks = ap (λ (r : Snapshot). r.blocks) c.in_ok-rest.ensures.same ∙ c.loop-run.invariant.blocks;
      failures = c.in_ok-rest.ensures.failures.0 ∙ c.loop-run.invariant.failures;
      line_failures = c.in_ok-rest.ensures.failures.1 ∙ c.loop-run.invariant.line_failures;
    }

pub returns-then-left-eq0-clause-ran : goal.returns-then-left-eq0-clause-ran
returns-then-left-eq0-clause-ran g c =
    let early : (state_of c.loop-run.run.running).time ≤ c.args.until = omega (arith, c.time.ensures, c.if-time-until.true) in
    limited c.time-then-left-eq0.result c.loop-run.invariant.run (incomplete c.args.until (state_of c.loop-run.run.running) (sym c.is_over.ensures ∙ c.loop-run-test.true) early)
    c.time-then-left-eq0.ensures (omega (arith, c.if-left-eq0.true))

pub returns-then-left-eq0-clause-failures : goal.returns-then-left-eq0-clause-failures
returns-then-left-eq0-clause-failures g c = (c.loop-run.invariant.failures, c.loop-run.invariant.line_failures)

pub returns-clause-ran : goal.returns-clause-ran
returns-clause-ran g c =
    let complete : is_complete c.args.until (state_of c.loop-run.run.running) ≡ true =
    elim c.loop-run-test.branch [
      | then-loop-run-test+else-time-until w ↦ complete_past c.args.until (state_of c.loop-run.run.running) (sym c.is_over.ensures ∙ w.loop-run-test.true) (omega (arith, w.time.ensures, w.if-time-until.false))
      | else-loop-run-test w ↦ complete_over c.args.until (state_of c.loop-run.run.running) (sym c.is_over.ensures ∙ w.loop-run-test.false)
    ]
    in
    ended_run c.outcome_of-outcome.result c.end_of-end.result c.loop-run.invariant.run complete c.outcome_of-outcome.ensures c.end_of-end.ensures (c.in_ok-finish.ensures.bytes c.args.design.now)

pub returns-clause-failures : goal.returns-clause-failures
returns-clause-failures g c = (c.in_ok-finish.ensures.failures ∙ c.loop-run.invariant.failures, c.loop-run.invariant.line_failures)

pub returns-in_err-run-clause-begun : goal.returns-in_err-run-clause-begun
returns-in_err-run-clause-begun g c = on_err _ (header_failed c.in_err-run.ensures.part)

pub returns-in_err-run-clause-failures : goal.returns-in_err-run-clause-failures
returns-in_err-run-clause-failures g c =
    failed_as c.from_residual-in_err-run.result c.in_err-run.field-0.0 _ _ _ _ (search rules) (first_failed _ _ _ _ _ c.in_err-run.ensures.failures refl)

pub returns-in_err-rest-clause-begun : goal.returns-in_err-rest-clause-begun
returns-in_err-rest-clause-begun g c =
    let early : (state_of c.loop-run.run.running).time ≤ c.args.until = omega (arith, c.time.ensures, c.if-time-until.true) in
    let p : Point = point_of c.loop-run.run c.loop-run.run.inside (g.V.Sink.bytes c.loop-run.vcd) (g.L.Sink.bytes c.loop-run.lines) in
    let taken : ℕ = c.args.steps - c.loop-run.left in
    let before : IsAtPoint c.args.design.now c.args.until c.args.steps taken p (g.V.Sink.bytes c.args.vcd.now) (g.L.Sink.bytes c.args.lines.now) =
    record { run = c.loop-run.invariant.run; inside = c.loop-run.invariant.inside (omega (arith, c.if-left-eq0.false)) }
    in
    let within : taken + c.loop-run.left ≤ c.args.steps = omega (arith, c.loop-run.invariant.within) in
    on_err _ (all_failed before c.loop-run.run.blocks c.blocks_exclude.ensures c.inside_follows.ensures c.loop-run.invariant.blocks early within c.in_err-rest.ensures.err)

pub returns-in_err-rest-clause-failures : goal.returns-in_err-rest-clause-failures
returns-in_err-rest-clause-failures g c =
    failed_as c.from_residual-in_err-rest.result c.in_err-rest.field-0.0 _ _ _ _ (search rules)
    (failed_from _ _ _ _ _ _ _ c.loop-run.invariant.failures c.loop-run.invariant.line_failures c.in_err-rest.ensures.failures)

pub returns-in_err-finish-clause-begun : goal.returns-in_err-finish-clause-begun
returns-in_err-finish-clause-begun g c =
    let complete : is_complete c.args.until (state_of c.loop-run.run.running) ≡ true =
    elim c.loop-run-test.branch [
      | then-loop-run-test+else-time-until w ↦ complete_past c.args.until (state_of c.loop-run.run.running) (sym c.is_over.ensures ∙ w.loop-run-test.true) (omega (arith, w.time.ensures, w.if-time-until.false))
      | else-loop-run-test w ↦ complete_over c.args.until (state_of c.loop-run.run.running) (sym c.is_over.ensures ∙ w.loop-run-test.false)
    ]
    in
    on_err _
    (end_failed c.end_of-end.result c.loop-run.invariant.run complete c.end_of-end.ensures (λ before h. part_failed _ _ _ _ (c.in_err-finish.ensures.bytes c.args.design.now before h)))

pub returns-in_err-finish-clause-failures : goal.returns-in_err-finish-clause-failures
returns-in_err-finish-clause-failures g c =
    failed_as c.from_residual-in_err-finish.result c.in_err-finish.field-0.0 _ _ _ _ (search rules)
    (failed_from _ _ _ _ _ _ _ c.loop-run.invariant.failures c.loop-run.invariant.line_failures (first_failed _ _ _ _ _ c.in_err-finish.ensures.failures refl))

pub returns-in_err-scripts-clause-begun : goal.returns-in_err-scripts-clause-begun
returns-in_err-scripts-clause-begun g c = on_err _ (header_failed (0, append_none _))
