use Rattle.std.specs.Prelude.{OnErr}
use Rattle.std.proofs.Common.{sym, subst}
use Rattle.vs_process.specs.declared.script.Action.{Action}
use Rattle.vs_vcd_writing.specs.Sinks.{AppendsPart}
use Rattle.vs_run_steps.specs.Stepping.{action_text}
use Rattle.vs_run_steps.proofs.run.RunState.print.Goals as goal

pub returns-in-Display-clause-err : goal.returns-in-Display-clause-err
returns-in-Display-clause-err g c =
    subst
    (λ (x : Action). OnErr c.display.result
    (AppendsPart (g.L.Sink.bytes c.args.lines.now) (g.L.Sink.bytes c.display.new.lines) (action_text x c.args.self.now.watched.store c.args.self.now.regions.time)))
    (sym c.in-Display.is) c.display.ensures.err
