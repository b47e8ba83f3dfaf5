use Rattle.std.proofs.Common.{◌+◌, ◌<◌, refl, sym, ◌∙◌, arith}
use Rattle.std.proofs.lemmas.Bool.{true≢false}
use Rattle.vs_run_active.specs.vs_process.specs.declared.moves.Move.TheVariants.{Propagate}
use Rattle.vs_run_steps.proofs.GroupLemmas.{begun_more, done_as, one_done}
use Rattle.vs_run_steps.proofs.groups.update_group.Goals as goal
use Rattle.vs_run_steps.proofs.groups.update_group.Goals.{then-branch, else-branch}

pub loop-i-preserved : goal.loop-i-preserved
loop-i-preserved g c =
    let fewer : c.loop-i.taken < c.args.limit = omega (arith, c.loop-i.invariant.done.within, c.if-taken-limit.false) in
    elim c.if-branch.branch [
      | then-branch w ↦ record {
        done =
            done_as c.args.forms.now c.args.limit c.args.run.now (c.loop-i.taken + 1) c.if-branch.taken c.update_member.new.run c.update_member.new.run w.taken-is refl
            (one_done c.args.forms.now c.args.limit c.loop-i.taken c.args.run.now c.loop-i.run c.update_member.new.run (Propagate c.in-Some.assign) c.loop-i.invariant.done fewer
            c.in_ok-update_member.ensures.run refl (sym c.in_ok-update_member.ensures.told ∙ w.if-branch.true) (c.in_ok-update_member.ensures.made w.if-branch.true)
            c.in_ok-update_member.ensures.marked);
        start = λ none. absurd (omega (arith, none));
        begun = λ some.
            begun_more Propagate c.args.run.now c.loop-i.run c.args.group c.loop-i.i c.in-Some.assign c.loop-i.taken c.if-branch.taken c.in_ok-update_member.field-0
            c.loop-i.invariant.start c.loop-i.invariant.begun (sym c.in-Some.ensures) c.in_ok-update_member.ensures.told (λ yes. omega (arith, w.taken-is)) (omega (arith, w.taken-is));
      }
      | else-branch w ↦ record {
        done =
            done_as c.args.forms.now c.args.limit c.args.run.now c.loop-i.taken c.if-branch.taken c.loop-i.run c.update_member.new.run w.taken-is
            (c.in_ok-update_member.ensures.none w.if-branch.false) c.loop-i.invariant.done;
        start = λ none. absurd (omega (arith, none));
        begun = λ some.
            begun_more Propagate c.args.run.now c.loop-i.run c.args.group c.loop-i.i c.in-Some.assign c.loop-i.taken c.if-branch.taken c.in_ok-update_member.field-0
            c.loop-i.invariant.start c.loop-i.invariant.begun (sym c.in-Some.ensures) c.in_ok-update_member.ensures.told
            (λ yes. absurd (true≢false (sym yes ∙ w.if-branch.false))) (omega (arith, w.taken-is));
      }
    ]
