use Rattle.std.proofs.Common.{◌≡◌}
use Rattle.vs_run_steps.specs.Stepping.{IsStepping}
use Rattle.vs_run_steps.proofs.run.RunState.take_steps.Given as goal

abbrev pub invariant-loop-steps : goal.invariant-loop-steps
invariant-loop-steps g l = record {
  stepping :
      IsStepping g.plan.design g.plan.terms l.fn.number l.fn.process.script.now l.fn.process.index l.fn.gait l.fn.self (g.L.Sink.bytes l.fn.lines) l.steps l.index l.self (g.L.Sink.bytes l.lines);
  failures : g.L.Sink.failed l.lines ≡ g.L.Sink.failed l.fn.lines;
}

abbrev pub ghost-act : goal.ghost-act
ghost-act g a = g.plan
