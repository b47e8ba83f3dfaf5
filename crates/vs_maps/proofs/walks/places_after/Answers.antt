use Rattle.std.proofs.Common.{ℕ, ◌↔◌, refl}
use Rattle.std.specs.List.{Contains}
use Rattle.std.proofs.lemmas.Result.{IfOk-weaker}
use Rattle.vs_graph.specs.Reached.{Reached}
use Rattle.vs_maps.specs.Reaches.{stops_along}
use Rattle.vs_maps.specs.Walks.{IsBefore}
use Rattle.vs_maps.proofs.WalkLemmas.{before_from}
use Rattle.vs_maps.proofs.walks.places_after.Goals as goal

pub returns-clause-exact : goal.returns-clause-exact
returns-clause-exact g c =
    let t = c.args.tables.now in
    let sort = g.R.Rule.keeps c.args.rule.now in
    IfOk-weaker c.places_from.result
    (λ all. (p : ℕ) → (Contains all.items p ↔ Reached (stops_along c.args.along t.stops) c.tos.result.now p))
    (λ all. (p : ℕ) → (Contains all.items p ↔ IsBefore t c.args.along sort c.args.place p))
    (λ all h p.
    let f = before_from t c.args.along sort c.args.place c.tos.result.now (c.if-not-is_point.ensures.0 refl) (c.in_ok-keeps.ensures.0 c.if-not-keeps.false) c.tos.ensures.are p in
    (λ x. f.0 ((h p).0 x), λ y. (h p).1 (f.1 y)))
    c.places_from.ensures.exact
