use Rattle.std.proofs.Common.{ℕ, suc, ◌<◌, length, ◌∙◌, sym, ap, subst}
use Rattle.std.proofs.lemmas.List.{length-map}
use Rattle.vs_process.specs.Stops.{stop_view}
use Rattle.vs_graph.specs.Clear.{AreClear}
use Rattle.vs_maps.specs.Reaches.{Chart}
use Rattle.vs_maps.proofs.tables.Tables.places_from.Goals as goal

pub places_from-requires-clause-seeds : goal.places_from-requires-clause-seeds
places_from-requires-clause-seeds c s h =
    subst (λ (n : ℕ). s < suc n)
    (ap (λ (t : Chart). length t.stops) (sym c.self.view_is) ∙ length-map c.self.inside.text.now.stops.items stop_view ∙ ap length (sym c.deref.ensures.value))
    (c.requires.seeds s h)

pub places_from-requires-clause-marks : goal.places_from-requires-clause-marks
places_from-requires-clause-marks c =
    subst (λ (n : ℕ). AreClear (suc n) c.args.marks.now.items)
    (ap (λ (t : Chart). length t.stops) (sym c.self.view_is) ∙ length-map c.self.inside.text.now.stops.items stop_view ∙ ap length (sym c.deref.ensures.value))
    c.requires.marks
