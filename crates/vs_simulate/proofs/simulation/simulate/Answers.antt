use Rattle.vs_run_regions.specs.vs_process.specs.declared.moves.Grain.TheVariants.{Statement}
use Rattle.vs_simulate.proofs.simulation.simulate.Goals as goal

pub returns-clause-honest : goal.returns-clause-honest
returns-clause-honest g c =
    let d = c.in_ok-design.design in
    let defined = c.in_ok-design.ensures in
    let ran = c.in_ok-outcome.ensures.ran in
    let names = c.names_of_one_line.ensures c.args.source.now c.args.top.now d defined in
    record {
      design = d;
      defined = defined;
      ran = ran;
      shows = c.dumps_show_slot_ends.ensures Statement d ran.moves c.args.until names c.requires.until ran.statement ran.stops;
    }
