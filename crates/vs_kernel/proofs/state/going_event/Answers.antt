use Rattle.std.proofs.Common.{◌∙◌, sym}
use Rattle.vs_run_steps.specs.Runs.{counters_of}
use Rattle.vs_kernel.proofs.ActiveLemmas.{going_any}
use Rattle.vs_kernel.proofs.state.going_event.Goals as goal

pub returns-then-not-has_going : goal.returns-then-not-has_going
returns-then-not-has_going g c = going_any (counters_of c.args.run.now) c.args.run.now.watched.events.processes ∙ sym c.has_going.ensures ∙ c.if-not-has_going.true
