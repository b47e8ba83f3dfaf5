use Rattle.std.proofs.Common.{◌≡◌, ℕ, suc, ◌<◌, Some, List, length, map, sym, ◌∙◌, ap, subst}
use Rattle.std.specs.List.{Contains}
use Rattle.std.proofs.lemmas.List.{length-map}
use Rattle.vs_process.specs.declared.stops.Stop as k
use Rattle.vs_process.specs.Stops.{stop_view, stop_at, stop_tos}
use Rattle.vs_maps.specs.Reaches.{Chart, stop_seen}
use Rattle.vs_maps.proofs.tables.Tables.tos.Goals as goal

pub returns-in-Some-clause-within : goal.returns-in-Some-clause-within
returns-in-Some-clause-within c q h =
    let stops = c.self.inside.text.now.stops.items in
    let here : stop_at (map stop_view stops) c.args.place ≡ Some (stop_view c.in-Some.stop.now) =
    ap (λ (l : List k.Stop). stop_at (map stop_view l) c.args.place) (sym c.deref.ensures.value) ∙ sym c.stop_at.ensures ∙ ap stop_seen c.in-Some.is in
    let leads = subst (λ (l : List ℕ). Contains l q) (c.deref-in-Some.ensures.value ∙ sym (ap stop_tos here)) h in
    subst (λ (n : ℕ). q < suc n) (sym (length-map stops stop_view) ∙ ap (λ (t : Chart). length t.stops) c.self.view_is)
    (c.self.invariant.0.leads_in.ways c.args.place q leads)
