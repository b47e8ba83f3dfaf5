use Rattle.std.proofs.Common.{◌≡◌, ◌∙◌, ◌&&◌, true, slice_get, sym, ap, subst}
use Rattle.std.specs.List.{list_any}
use Rattle.vs_process.specs.Executions.{if_some, is_first}
use Rattle.vs_run_regions.specs.Active.{is_active}
use Rattle.vs_run_regions.specs.FilterLaws.{is_filled}
use Rattle.vs_run_regions.specs.Regions.{Waiting, place_of_number}
use Rattle.vs_run_regions.specs.Updates.{is_there}
use Rattle.vs_run_regions.proofs.HeldLemmas.{first_of_number, held_any}
use Rattle.vs_run_regions.proofs.regions.Regions.oldest.Goals as goal

pub returns-in-Some : goal.returns-in-Some
returns-in-Some g c =
    subst
    (λ (w : Waiting). (is_there (slice_get w.listed.active c.in-Some.number) && if_some (is_first w.updates (place_of_number c.in-Some.number w)) (slice_get w.updates (place_of_number c.in-Some.number w))) ≡ true)
    c.self.view_is (sym (first_of_number c.self.inside.updates.items c.self.inside.listed.active c.in-Some.number c.self.invariant.active_ones) ∙ c.in-Some.ensures)

pub returns-in-None : goal.returns-in-None
returns-in-None g c =
    sym (ap (λ (w : Waiting). list_any is_active w.updates) c.self.view_is) ∙ sym (held_any c.self.invariant) ∙ ap is_filled c.in-None.ensures
