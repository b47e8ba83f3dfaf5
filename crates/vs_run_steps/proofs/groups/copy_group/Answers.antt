use Rattle.std.proofs.Common.{◌+◌, ◌-◌, ◌<◌, ◌≤◌, refl, sym, ◌∙◌, arith}
use Rattle.std.proofs.lemmas.Bool.{true≢false}
use Rattle.vs_run_active.specs.vs_process.specs.declared.moves.Move.TheVariants.{Evaluate}
use Rattle.vs_run_steps.proofs.GroupLemmas.{begun_more, done_as, some_done}
use Rattle.vs_run_steps.proofs.groups.copy_group.Goals as goal
use Rattle.vs_run_steps.proofs.groups.copy_group.Goals.{then-needs+in_ok-made, else-needs}

pub loop-i-preserved : goal.loop-i-preserved
loop-i-preserved g c =
    elim c.if-needs.branch [
      | then-needs+in_ok-made w ↦ record {
        done =
            done_as c.args.forms.now c.args.limit c.args.run.now (c.loop-i.taken + w.in_ok-made.made) c.if-needs.taken w.evaluate.new.run c.if-needs.run w.taken-is w.run-is
            (some_done c.args.forms.now c.args.limit c.loop-i.taken w.in_ok-made.made c.args.run.now c.loop-i.run w.evaluate.new.run c.loop-i.invariant.done
            (omega (arith, c.loop-i.invariant.done.within, w.in_ok-made.ensures.within))
            w.in_ok-made.ensures.run w.in_ok-made.ensures.made w.in_ok-made.ensures.marked);
        start = λ none. absurd (omega (arith, none));
        begun = λ some.
            begun_more Evaluate c.args.run.now c.loop-i.run c.args.group c.loop-i.i c.in-Some.assign c.loop-i.taken c.if-needs.taken c.needs.result
            c.loop-i.invariant.start c.loop-i.invariant.begun (sym c.in-Some.ensures) c.needs.ensures (λ yes. omega (arith, w.taken-is, w.in_ok-made.ensures.some)) (omega (arith, w.taken-is));
      }
      | else-needs w ↦ record {
        done =
            done_as c.args.forms.now c.args.limit c.args.run.now c.loop-i.taken c.if-needs.taken c.loop-i.run c.if-needs.run w.taken-is w.run-is c.loop-i.invariant.done;
        start = λ none. absurd (omega (arith, none));
        begun = λ some.
            begun_more Evaluate c.args.run.now c.loop-i.run c.args.group c.loop-i.i c.in-Some.assign c.loop-i.taken c.if-needs.taken c.needs.result
            c.loop-i.invariant.start c.loop-i.invariant.begun (sym c.in-Some.ensures) c.needs.ensures
            (λ yes. absurd (true≢false (sym yes ∙ w.if-needs.false))) (omega (arith, w.taken-is));
      }
    ]
