use Rattle.std.proofs.Common.{false, refl}
use Rattle.vs_run_steps.specs.declared.run.RunState.{RunState}
use Rattle.vs_kernel.proofs.StartLemmas.{IsAtStart, start_run, start_state}
use Rattle.vs_kernel.proofs.start.state_at_start.Goals as goal

pub returns-clause-state : goal.returns-clause-state
returns-clause-state g c =
    let r : RunState g.row.Q.Denot = record {
      alloc = c.args.alloc;
      design = c.args.design;
      terms = c.args.terms;
      watched = c.args.watched;
      regions = c.start-regions.result;
      counters = c.in_ok-counters.counters;
      calls = c.new.result;
      finishing = false;
      over = false;
      changes = c.new-2.result;
      woken = c.new-3.result;
    } in
    let at : IsAtStart c.args.design.now c.args.scripts.now r = record {
      scripts_are = c.requires.scripts;
      design_is = refl;
      terms_are = c.requires.terms;
      store = c.requires.store;
      rows = c.requires.rows;
      assigns = c.requires.assigns;
      processes = c.requires.processes;
      regions = c.start-regions.ensures;
      counters = c.in_ok-counters.ensures;
      calls = c.new.ensures.items;
      finishing = refl;
      over = refl;
    } in
    start_state c.args.design.now c.args.scripts.now r at

pub returns-clause-run : goal.returns-clause-run
returns-clause-run g c =
    let r : RunState g.row.Q.Denot = record {
      alloc = c.args.alloc;
      design = c.args.design;
      terms = c.args.terms;
      watched = c.args.watched;
      regions = c.start-regions.result;
      counters = c.in_ok-counters.counters;
      calls = c.new.result;
      finishing = false;
      over = false;
      changes = c.new-2.result;
      woken = c.new-3.result;
    } in
    let at : IsAtStart c.args.design.now c.args.scripts.now r = record {
      scripts_are = c.requires.scripts;
      design_is = refl;
      terms_are = c.requires.terms;
      store = c.requires.store;
      rows = c.requires.rows;
      assigns = c.requires.assigns;
      processes = c.requires.processes;
      regions = c.start-regions.ensures;
      counters = c.in_ok-counters.ensures;
      calls = c.new.ensures.items;
      finishing = refl;
      over = refl;
    } in
    start_run c.terms_are_found.ensures c.args.design.now c.args.scripts.now r at
