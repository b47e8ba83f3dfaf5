use Rattle.std.proofs.Common.{ap, sym, subst}
use Rattle.vs_run_steps.specs.Runs.{IsRunOf, plan_of, state_of}
use Rattle.vs_run_steps.proofs.RunsLemmas.{plan_in}
use Rattle.vs_run_regions.specs.Regions.{Waiting}
use Rattle.vs_kernel.proofs.RunLemmas.{either_run}
use Rattle.vs_kernel.proofs.UpdateLemmas.{first_made, next_keeps, next_made, next_none, some_active}
use Rattle.vs_kernel.proofs.moves.make_next.Goals as goal

pub make-requires-clause-agrees : goal.make-requires-clause-agrees
make-requires-clause-agrees g c =
    let r = c.args.run.now in
    (next_keeps (plan_of r).design (plan_of r).terms r c.next.new.self c.in-Some.update (plan_in r.design.now r c.requires).agrees c.in-Some.ensures.rest).agrees

pub make-requires-clause-known : goal.make-requires-clause-known
make-requires-clause-known g c = c.in-Some.ensures.known

pub returns-in_default-clause-run : goal.returns-in_default-clause-run
returns-in_default-clause-run g c =
    subst (λ (w : Waiting). IsRunOf c.args.run.now.design.now (record c.args.run.now { regions = w })) (sym c.in_default.ensures.unchanged) c.requires

pub returns-in_default-clause-none : goal.returns-in_default-clause-none
returns-in_default-clause-none g c = λ unmade. ap (λ (w : Waiting). state_of (record c.args.run.now { regions = w })) c.in_default.ensures.unchanged

pub returns-clause-none : goal.returns-clause-none
returns-clause-none g c = next_none c.args.run.now c.next.new.self c.in-Some.update (state_of c.make.new.run) c.in_ok-made.made c.in-Some.ensures.rest c.in_ok-made.ensures.written

pub returns-clause-made : goal.returns-clause-made
returns-clause-made g c =
    next_made c.args.run.now c.next.new.self c.in-Some.update (state_of c.make.new.run) c.in_ok-made.made c.in-Some.ensures.taken c.in-Some.ensures.first c.in-Some.ensures.rest c.in_ok-made.ensures.written

pub returns-clause-run : goal.returns-clause-run
returns-clause-run g c =
    either_run c.args.run.now.design.now c.args.run.now c.make.new.run c.in_ok-made.made c.requires c.in_ok-made.ensures.keeps.agrees
    (next_made c.args.run.now c.next.new.self c.in-Some.update (state_of c.make.new.run) c.in_ok-made.made c.in-Some.ensures.taken c.in-Some.ensures.first c.in-Some.ensures.rest c.in_ok-made.ensures.written)
    (next_none c.args.run.now c.next.new.self c.in-Some.update (state_of c.make.new.run) c.in_ok-made.made c.in-Some.ensures.rest c.in_ok-made.ensures.written)

pub returns-clause-marked : goal.returns-clause-marked
returns-clause-marked g c = c.in_ok-made.ensures.keeps.marked

pub returns-in_default-clause-active : goal.returns-in_default-clause-active
returns-in_default-clause-active g c = λ active. absurd (some_active c.args.run.now active c.in_default.ensures.none)

pub returns-clause-active : goal.returns-clause-active
returns-clause-active g c = first_made c.args.run.now c.next.new.self c.in-Some.update (state_of c.make.new.run) c.in_ok-made.made c.in-Some.ensures.what c.in_ok-made.ensures.written
