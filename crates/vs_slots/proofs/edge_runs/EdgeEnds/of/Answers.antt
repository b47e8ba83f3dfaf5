use Rattle.std.proofs.Common.{ℕ, ◌↔◌, sym, subst}
use Rattle.std.specs.List.{Contains}
use Rattle.std.specs.Result.{IfOk}
use Rattle.vs_claims.specs.vs_maps.specs.declared.pauses.Pause.{Pause}
use Rattle.vs_claims.specs.vs_maps.specs.Ranges.{pause_terms}
use Rattle.vs_claims.specs.vs_maps.specs.Reaches.{pause_view}
use Rattle.vs_slots.specs.Kept.{AreTermsIn}
use Rattle.vs_slots.proofs.edge_runs.EdgeEnds.of.Goals as goal

pub returns-in-Event : goal.returns-in-Event
returns-in-Event c =
    subst (λ (p : Pause). IfOk c.of_terms.result (λ all. (r : ℕ) → (Contains all.items r ↔ AreTermsIn c.args.self.now.facts.now c.args.self.now.firing.now (pause_terms (pause_view p)) r)))
    (sym c.in-Event.is) c.of_terms.ensures
