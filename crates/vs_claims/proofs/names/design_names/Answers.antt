use Rattle.std.proofs.Common.{◌∙◌, ap}
use Rattle.vs_claims.specs.facts_passes.Kept.{paths, named_processes, named_assigns}
use Rattle.vs_claims.proofs.names.design_names.Goals as goal

pub returns : goal.returns
returns c = record {
  signals_are = c.in_ok-signals.ensures ∙ ap paths c.signals.ensures;
  processes_are = c.in_ok-processes.ensures ∙ ap named_processes c.processes.ensures;
  assigns_are = c.in_ok-assigns.ensures ∙ ap named_assigns c.assigns.ensures;
}
