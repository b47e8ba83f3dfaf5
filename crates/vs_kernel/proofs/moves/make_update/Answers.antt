use Rattle.std.proofs.Common.{◌∙◌, sym}
use Rattle.std.proofs.lemmas.Bool.{false≢true}
use Rattle.vs_run_regions.specs.vs_process.specs.declared.moves.Move.TheVariants.{Make}
use Rattle.vs_run_steps.specs.Runs.{plan_of, state_of}
use Rattle.vs_run_steps.proofs.RunsLemmas.{plan_in}
use Rattle.vs_run_regions.specs.Regions.{place_of_number}
use Rattle.vs_kernel.proofs.RunLemmas.{run_after}
use Rattle.vs_kernel.proofs.UpdateLemmas.{taken_keeps, taken_made}
use Rattle.vs_kernel.proofs.moves.make_update.Goals as goal

pub make-requires-clause-agrees : goal.make-requires-clause-agrees
make-requires-clause-agrees g c =
    let r = c.args.run.now in
    (taken_keeps (plan_of r).design (plan_of r).terms r c.take.new.self c.args.number (plan_in r.design.now r c.requires.run).agrees c.in-Some.ensures.rest).agrees

pub make-requires-clause-known : goal.make-requires-clause-known
make-requires-clause-known g c = c.in-Some.ensures.known

pub returns-in_default-clause-run : goal.returns-in_default-clause-run
returns-in_default-clause-run g c = absurd (false≢true (sym c.in_default.ensures.none ∙ c.requires.active.0))

pub returns-in_default-clause-made : goal.returns-in_default-clause-made
returns-in_default-clause-made g c = absurd (false≢true (sym c.in_default.ensures.none ∙ c.requires.active.0))

pub returns-clause-made : goal.returns-clause-made
returns-clause-made g c =
    taken_made c.args.run.now c.take.new.self c.in-Some.update c.args.number (state_of c.make.new.run) c.in_ok-_made._made c.in-Some.ensures.taken c.in-Some.ensures.left c.in-Some.ensures.rest
    c.in_ok-_made.ensures.written

pub returns-clause-run : goal.returns-clause-run
returns-clause-run g c =
    run_after c.args.run.now.design.now c.args.run.now c.make.new.run (Make (place_of_number c.args.number c.args.run.now.regions)) c.requires.run c.in_ok-_made.ensures.keeps.agrees
    (taken_made c.args.run.now c.take.new.self c.in-Some.update c.args.number (state_of c.make.new.run) c.in_ok-_made._made c.in-Some.ensures.taken c.in-Some.ensures.left c.in-Some.ensures.rest
    c.in_ok-_made.ensures.written)

pub returns-clause-marked : goal.returns-clause-marked
returns-clause-marked g c = c.in_ok-_made.ensures.keeps.marked
