use Rattle.std.proofs.Common.{◌∙◌, ap}
use Rattle.std.specs.List.{list_any}
use Rattle.vs_run_regions.specs.Active.{is_active}
use Rattle.vs_run_regions.specs.Regions.{Waiting}
use Rattle.vs_run_regions.proofs.HeldLemmas.{held_any}
use Rattle.vs_run_regions.proofs.regions.Regions.has_active.Goals as goal

pub returns : goal.returns
returns g c = c.has_active.ensures ∙ held_any c.self.invariant ∙ ap (λ (w : Waiting). list_any is_active w.updates) c.self.view_is
