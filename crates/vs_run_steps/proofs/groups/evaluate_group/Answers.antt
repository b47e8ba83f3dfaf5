use Rattle.std.proofs.Common.{◌+◌, ◌<◌, refl, sym, ◌∙◌, arith}
use Rattle.std.proofs.lemmas.Bool.{true≢false}
use Rattle.vs_run_active.specs.vs_process.specs.declared.moves.Move.TheVariants.{Evaluate}
use Rattle.vs_run_steps.proofs.GroupLemmas.{begun_more, done_as, one_done}
use Rattle.vs_run_steps.proofs.groups.evaluate_group.Goals as goal
use Rattle.vs_run_steps.proofs.groups.evaluate_group.Goals.{then-needs+in_ok-evaluate_alone, else-needs}

pub loop-i-preserved : goal.loop-i-preserved
loop-i-preserved g c =
    let fewer : c.loop-i.taken < c.args.limit = omega (arith, c.loop-i.invariant.done.within, c.if-taken-limit.false) in
    elim c.if-needs.branch [
      | then-needs+in_ok-evaluate_alone w ↦ record {
        done =
            done_as c.args.forms.now c.args.limit c.args.run.now (c.loop-i.taken + 1) c.if-needs.taken w.evaluate_alone.new.run c.if-needs.run w.taken-is w.run-is
            (one_done c.args.forms.now c.args.limit c.loop-i.taken c.args.run.now c.loop-i.run w.evaluate_alone.new.run (Evaluate c.in-Some.assign) c.loop-i.invariant.done fewer
            w.in_ok-evaluate_alone.ensures.run refl (sym c.needs.ensures ∙ w.if-needs.true) w.in_ok-evaluate_alone.ensures.made w.in_ok-evaluate_alone.ensures.marked);
        start = λ none. absurd (omega (arith, none));
        begun = λ some.
            begun_more Evaluate c.args.run.now c.loop-i.run c.args.group c.loop-i.i c.in-Some.assign c.loop-i.taken c.if-needs.taken c.needs.result
            c.loop-i.invariant.start c.loop-i.invariant.begun (sym c.in-Some.ensures) c.needs.ensures (λ yes. omega (arith, w.taken-is)) (omega (arith, w.taken-is));
      }
      | else-needs w ↦ record {
        done =
            done_as c.args.forms.now c.args.limit c.args.run.now c.loop-i.taken c.if-needs.taken c.loop-i.run c.if-needs.run w.taken-is w.run-is c.loop-i.invariant.done;
        start = λ none. absurd (omega (arith, none));
        begun = λ some.
            begun_more Evaluate c.args.run.now c.loop-i.run c.args.group c.loop-i.i c.in-Some.assign c.loop-i.taken c.if-needs.taken c.needs.result
            c.loop-i.invariant.start c.loop-i.invariant.begun (sym c.in-Some.ensures) c.needs.ensures
            (λ yes. absurd (true≢false (sym yes ∙ w.if-needs.false))) (omega (arith, w.taken-is));
      }
    ]
