use Rattle.std.proofs.Common.{◌∙◌, ap}
use Rattle.vs_design.specs.Stores.{put}
use Rattle.vs_design.specs.Writes.{Write}
use Rattle.vs_run_steps.proofs.RunsLemmas.{made_same, spot_same}
use Rattle.vs_run_steps.proofs.writes.Watched.write_any.Goals as goal

pub returns-clause-store : goal.returns-clause-store
returns-clause-store g c =
    c.write.ensures.store
    ∙ ap (λ (w : Write). put c.args.self.now.store w)
    (spot_same c.in-Some.found.0 c.value_plane-value.result c.unknown_plane-unknown.result c.in-Some.found.1 c.args.write.now c.in-Some.ensures.size c.value_plane-value.ensures c.unknown_plane-unknown.ensures
    c.in-Some.ensures.write)

pub returns-clause-made : goal.returns-clause-made
returns-clause-made g c =
    made_same c.args.self.now.tables c.args.self.now.store _ c.args.write.now c.args.self.now.events.assigns c.write.new.self.events.assigns c.args.self.now.events.processes c.write.new.self.events.processes
    (spot_same c.in-Some.found.0 c.value_plane-value.result c.unknown_plane-unknown.result c.in-Some.found.1 c.args.write.now c.in-Some.ensures.size c.value_plane-value.ensures c.unknown_plane-unknown.ensures
    c.in-Some.ensures.write) c.in_ok-write.ensures.made
