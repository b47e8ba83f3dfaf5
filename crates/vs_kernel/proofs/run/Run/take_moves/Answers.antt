use Rattle.std.proofs.Common.{◌∙◌, ◌-◌, ◌<◌, arith}
use Rattle.vs_run_active.specs.vs_process.proofs.Results.{on_err}
use Rattle.vs_kernel.proofs.SnapshotLemmas.{like_blocks, like_left, like_moved, like_still, moved_ended, moved_failed, region_ended, region_goes_on, turning_still, turning_told}
use Rattle.vs_kernel.proofs.run.Run.take_moves.Goals as goal

pub returns-in_err-taken-in-Some-clause-err : goal.returns-in_err-taken-in-Some-clause-err
returns-in_err-taken-in-Some-clause-err g c =
    let like = like_still c.args.self.now c.loop-event.self c.next.new.self c.loop-event.invariant.same c.next.ensures.same in
    on_err _
    (moved_failed c.next.new.self (like_blocks c.args.self.now c.next.new.self like)
    (turning_still c.loop-event.self c.next.new.self c.next.ensures.same c.next.ensures.state c.loop-event.invariant.turning) c.in_err-taken-in-Some.ensures.err)

pub returns-then-left-eq0-clause-ok : goal.returns-then-left-eq0-clause-ok
returns-then-left-eq0-clause-ok g c =
    let like = like_still c.args.self.now c.loop-event.self c.next.new.self c.loop-event.invariant.same c.next.ensures.same in
    moved_ended c.next.new.self c.make.new.self (like_blocks c.args.self.now c.next.new.self like)
    (turning_still c.loop-event.self c.next.new.self c.next.ensures.same c.next.ensures.state c.loop-event.invariant.turning) c.in_ok-taken-in-Some.ensures.ok (omega (arith, c.if-left-eq0.true))

pub loop-event-preserved-else-left-eq0 : goal.loop-event-preserved-else-left-eq0
loop-event-preserved-else-left-eq0 g c =
    let h = c.loop-event.invariant in
    let like = like_still c.args.self.now c.loop-event.self c.next.new.self h.same c.next.ensures.same in
    let some : 0 < c.loop-event.left - c.in_ok-taken-in-Some.taken = omega (arith, c.if-left-eq0.false) in
    record {
      turning = turning_told c.next.new.self c.make.new.self (like_blocks c.args.self.now c.next.new.self like)
          (turning_still c.loop-event.self c.next.new.self c.next.ensures.same c.next.ensures.state h.turning) c.in_ok-taken-in-Some.ensures.ok some;
      some = some;
      run = c.in_ok-taken-in-Some.ensures.run;
      same = like_moved c.args.self.now c.next.new.self c.make.new.self like c.in_ok-taken-in-Some.ensures.same;
      failures = h.failures;
      line_failures = c.in_ok-taken-in-Some.ensures.failures ∙ h.line_failures;
    }

pub returns-then-left-eq0-2-clause-ok : goal.returns-then-left-eq0-2-clause-ok
returns-then-left-eq0-2-clause-ok g c =
    let like = like_still c.args.self.now c.loop-event.self c.next.new.self c.loop-event.invariant.same c.next.ensures.same in
    region_ended c.next.new.self c.end_region.new.self (like_blocks c.args.self.now c.next.new.self like) c.in-None.ensures.idle.1 c.in_ok-goes_on-in-None.ensures.same
    (turning_still c.loop-event.self c.next.new.self c.next.ensures.same c.next.ensures.state c.loop-event.invariant.turning) c.loop-event.invariant.some c.in_ok-goes_on-in-None.ensures.ok

pub loop-event-preserved : goal.loop-event-preserved
loop-event-preserved g c =
    let h = c.loop-event.invariant in
    let like = like_still c.args.self.now c.loop-event.self c.next.new.self h.same c.next.ensures.same in
    let goes = c.in_ok-goes_on-in-None.ensures.goes_on c.if-not-goes_on.false in
    record {
      turning = region_goes_on c.next.new.self c.end_region.new.self (like_blocks c.args.self.now c.next.new.self like) c.in-None.ensures.idle.1 c.in_ok-goes_on-in-None.ensures.same
          (turning_still c.loop-event.self c.next.new.self c.next.ensures.same c.next.ensures.state h.turning) h.some c.in_ok-goes_on-in-None.ensures.ok goes.0 goes.1;
      some = omega (arith, c.if-left-eq0-2.false);
      run = c.in_ok-goes_on-in-None.ensures.run;
      same = like_left c.args.self.now c.next.new.self c.end_region.new.self like c.in_ok-goes_on-in-None.ensures.same;
      failures = c.in_ok-goes_on-in-None.ensures.failures.0 ∙ h.failures;
      line_failures = c.in_ok-goes_on-in-None.ensures.failures.1 ∙ h.line_failures;
    }
