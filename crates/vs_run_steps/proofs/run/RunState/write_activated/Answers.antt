use Rattle.std.proofs.Common.{◌∙◌, ap}
use Rattle.vs_design.specs.Writes.{Write}
use Rattle.vs_run_active.specs.vs_process.specs.States.{written}
use Rattle.vs_run_steps.specs.Runs.{state_of}
use Rattle.vs_run_steps.proofs.RunsLemmas.{wrote, wrote_state}
use Rattle.vs_run_steps.proofs.run.RunState.write_activated.Goals as goal

pub returns-clause-state : goal.returns-clause-state
returns-clause-state g c =
    wrote_state g.plan.design g.plan.terms c.args.self.now c.write_any.new.self c.write_any.new.changes c.write_of-write.result.now c.requires.1.0 c.in_ok-write_any.ensures.store c.in_ok-write_any.ensures.made
    ∙ ap (λ (w : Write). written (state_of c.args.self.now) w) c.write_of-write.ensures

pub returns-clause-keeps : goal.returns-clause-keeps
returns-clause-keeps g c =
    wrote g.plan.design g.plan.terms c.args.self.now c.write_any.new.self c.write_any.new.changes c.write_of-write.result.now c.requires.1.0 c.in_ok-write_any.ensures.store c.write_any.ensures.tables
    c.in_ok-write_any.ensures.made c.write_any.ensures.marked
