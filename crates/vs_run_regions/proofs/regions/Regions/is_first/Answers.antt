use Rattle.std.proofs.Common.{◌∙◌, ◌&&◌, slice_get, ap}
use Rattle.vs_process.specs.Executions.{if_some, is_first}
use Rattle.vs_run_regions.specs.Regions.{Waiting, place_of_number}
use Rattle.vs_run_regions.specs.Updates.{is_there}
use Rattle.vs_run_regions.proofs.HeldLemmas.{first_of_number}
use Rattle.vs_run_regions.proofs.regions.Regions.is_first.Goals as goal

pub returns : goal.returns
returns g c =
    c.is_first.ensures
    ∙ first_of_number c.self.inside.updates.items c.self.inside.listed.active c.args.number c.self.invariant.active_ones
    ∙ ap (λ (w : Waiting). is_there (slice_get w.listed.active c.args.number)
    && if_some (is_first w.updates (place_of_number c.args.number w)) (slice_get w.updates (place_of_number c.args.number w))) c.self.view_is
