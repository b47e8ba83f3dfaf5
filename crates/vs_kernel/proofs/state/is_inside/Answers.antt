use Rattle.std.proofs.Common.{◌∙◌, Option, sym, ap}
use Rattle.vs_run_regions.specs.vs_process.specs.Places.{Place, is_inside}
use Rattle.vs_run_regions.specs.vs_process.specs.Executions.{if_some}
use Rattle.vs_run_steps.specs.Runs.{counters_at, counters_of}
use Rattle.vs_run_steps.proofs.RunsLemmas.{place_past, place_there}
use Rattle.vs_kernel.proofs.state.is_inside.Goals as goal

pub returns-in-Some : goal.returns-in-Some
returns-in-Some g c =
    c.is_inside.ensures (counters_at c.args.process c.args.run.now)
    ∙ sym (ap (λ (o : Option Place). if_some is_inside o) (place_there (counters_of c.args.run.now) c.args.run.now.watched.events.processes c.args.process c.in-Some.x.now c.in-Some.ensures))

pub returns-in-None : goal.returns-in-None
returns-in-None g c = sym (ap (λ (o : Option Place). if_some is_inside o) (place_past (counters_of c.args.run.now) c.args.run.now.watched.events.processes c.args.process c.in-None.ensures))
