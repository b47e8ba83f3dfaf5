use Rattle.std.proofs.Common.{◌∙◌, ap}
use Rattle.std.specs.List.{list_any}
use Rattle.vs_process.specs.States.{is_due}
use Rattle.vs_run_regions.specs.Regions.{Waiting}
use Rattle.vs_run_regions.proofs.HeldLemmas.{held_due}
use Rattle.vs_run_regions.proofs.regions.Regions.has_due.Goals as goal

pub returns : goal.returns
returns g c = c.has_due.ensures ∙ held_due c.self.invariant ∙ ap (λ (w : Waiting). list_any (is_due w.time) w.updates) c.self.view_is
