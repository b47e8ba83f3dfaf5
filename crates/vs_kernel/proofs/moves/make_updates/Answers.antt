use Rattle.std.proofs.Common.{refl, sym, ◌∙◌, subst, arith}
use Rattle.std.proofs.lemmas.Bool.{true≢false}
use Rattle.vs_run_regions.specs.vs_process.specs.States.{State}
use Rattle.vs_run_steps.specs.Runs.{state_of}
use Rattle.vs_run_steps.specs.Turns.{AreMade}
use Rattle.vs_run_steps.proofs.MadeLemmas.{made_then}
use Rattle.vs_run_active.proofs.MarkingLemmas.{changes_more, changes_none}
use Rattle.vs_run_regions.specs.declared.event.Event.TheVariants as e
use Rattle.vs_kernel.proofs.RunLemmas.{own_run, positive, run_of_own, still_active}
use Rattle.vs_kernel.proofs.moves.make_updates.Goals as goal

pub loop-taken-init : goal.loop-taken-init
loop-taken-init g c = record { within = omega arith; made = refl; run = c.requires.run; marked = changes_none _ _; first = λ none. refl }

pub make_next-requires : goal.make_next-requires
make_next-requires g c = own_run c.args.run.now.design.now c.loop-taken.run c.loop-taken.invariant.run

pub loop-taken-preserved : goal.loop-taken-preserved
loop-taken-preserved g c =
    let h = c.loop-taken.invariant in
    record {
      within = omega (arith, c.loop-taken-test.true);
      made = made_then c.loop-taken.taken 1 (state_of c.args.run.now) (state_of c.loop-taken.run) (state_of c.make_next.new.run) h.made (c.in_ok-made.ensures.made c.if-not-made.false);
      run = run_of_own c.args.run.now.design.now c.loop-taken.run c.make_next.new.run h.run c.in_ok-made.ensures.run;
      marked = changes_more _ _ _ _ _ _ h.marked c.in_ok-made.ensures.marked;
      first = λ none. absurd (omega (arith, none));
    }

pub returns-then-not-made-clause-some : goal.returns-then-not-made-clause-some
returns-then-not-made-clause-some g c = positive c.loop-taken.taken
    (λ none. true≢false (sym (c.in_ok-made.ensures.active (still_active c.args.run.now c.loop-taken.run (c.loop-taken.invariant.first none) e.Updates c.requires.active)) ∙ c.if-not-made.true))

pub returns-then-not-made-clause-done : goal.returns-then-not-made-clause-done
returns-then-not-made-clause-done g c =
    let h = c.loop-taken.invariant in
    record {
      run = run_of_own c.args.run.now.design.now c.loop-taken.run c.make_next.new.run h.run c.in_ok-made.ensures.run;
      within = h.within;
      made = subst (λ (s : State). AreMade c.loop-taken.taken (state_of c.args.run.now) s) (sym (c.in_ok-made.ensures.none c.if-not-made.true)) h.made;
      marked = changes_more _ _ _ _ _ _ h.marked c.in_ok-made.ensures.marked;
    }

pub returns-clause-some : goal.returns-clause-some
returns-clause-some g c = omega (arith, c.loop-taken-test.false, c.requires.limit)
