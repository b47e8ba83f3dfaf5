use Rattle.std.proofs.Common.{ℕ, ◌<◌, ◌↔◌, refl, sym, subst, arith}
use Rattle.std.specs.List.{Contains}
use Rattle.std.proofs.lemmas.Result.{IfOk-weaker}
use Rattle.vs_process.specs.Ways as ways
use Rattle.vs_claims.specs.vs_maps.specs.Ranges.{pause_terms}
use Rattle.vs_claims.specs.vs_maps.specs.Reaches.{IsPlace, pause_at, pause_view, places}
use Rattle.vs_slots.specs.Kept.{AreTermsIn}
use Rattle.vs_slots.proofs.edge_runs.EdgeEndsListing.list.Goals as goal

pub returns : goal.returns
returns c =
    let f = c.args.self.now.facts.now in
    let x = c.args.self.now.firing.now in
    let t = c.args.self.now.tables.now in
    let within : c.args.i < places t = subst (λ (n : ℕ). c.args.i < n) c.places.ensures (omega (arith, c.if-i-places.false)) in
    let place : IsPlace t c.args.i = c.if-not-is_point.ensures.0 refl in
    IfOk-weaker c.of.result
    (λ list. (r : ℕ) → (Contains list.items r ↔ AreTermsIn f x (pause_terms (pause_view c.pause.result)) r))
    (λ list. (r : ℕ) → (Contains list.items r ↔ ((c.args.i < places t) × IsPlace t c.args.i × AreTermsIn f x (pause_terms (pause_at t c.args.i)) r)))
    (λ list h r. (
      λ y. (within, place, subst (λ (p : ways.Pause). AreTermsIn f x (pause_terms p) r) c.pause.ensures ((h r).0 y)),
      λ y. (h r).1 (subst (λ (p : ways.Pause). AreTermsIn f x (pause_terms p) r) (sym c.pause.ensures) y.2),
    ))
    c.of.ensures
