use Rattle.std.proofs.Common.{ℕ, Bool, List, false, IsTrue, slice_index_or, sym, subst}
use Rattle.std.proofs.lemmas.Result.{IfOk-weaker}
use Rattle.std.specs.List.{Contains}
use Rattle.vs_process.specs.Stops.{stops_tos}
use Rattle.vs_graph.specs.Reached.{AreReached}
use Rattle.vs_maps.specs.Reaches.{IsPlace, places, stops_along}
use Rattle.vs_maps.specs.Walks.{AreMarked, WalkFrom}
use Rattle.vs_maps.proofs.WalkLemmas.{seeds_are, seeds_told, seeds_in, walks_are}
use Rattle.vs_maps.proofs.walks.walks_from.Goals as goal

pub along-requires : goal.along-requires
along-requires g c =
    seeds_in c.args.tables.now (g.R.Rule.keeps c.args.rule.now) (places c.args.tables.now) c.deref-2.result.now c.leads_in.ensures.ways
    (seeds_are c.args.tables.now (g.R.Rule.keeps c.args.rule.now) (places c.args.tables.now) c.deref.result.now c.deref-2.result.now c.leads_in.ensures.points
    (subst (λ (n : ℕ). AreMarked (g.R.Rule.keeps c.args.rule.now) n c.deref.result.now) c.places.ensures
    (subst (λ (l : List Bool). AreMarked (g.R.Rule.keeps c.args.rule.now) c.places.result l) (sym c.deref.ensures.value) c.in_ok-marks.ensures.exact))
    (seeds_told (λ i r. (IsPlace c.args.tables.now i × IsTrue (slice_index_or c.deref.result.now i false)) × Contains (stops_tos c.args.tables.now.stops i) r)
    c.in_ok-seeds.seeds.items c.deref-2.result.now c.places-2.result (places c.args.tables.now) c.deref-2.ensures.value c.places-2.ensures c.in_ok-seeds.ensures))

pub returns-clause-exact : goal.returns-clause-exact
returns-clause-exact g c =
    IfOk-weaker c.along.result
    (λ marks. AreReached (stops_along c.args.along c.args.tables.now.stops) c.deref-2.result.now (places c.args.tables.now) marks.items)
    (λ marks. AreMarked (WalkFrom c.args.tables.now c.args.along (g.R.Rule.keeps c.args.rule.now)) (places c.args.tables.now) marks.items)
    (λ marks. walks_are c.args.tables.now c.args.along (g.R.Rule.keeps c.args.rule.now) (places c.args.tables.now) c.deref-2.result.now marks.items
    (seeds_are c.args.tables.now (g.R.Rule.keeps c.args.rule.now) (places c.args.tables.now) c.deref.result.now c.deref-2.result.now c.leads_in.ensures.points
    (subst (λ (n : ℕ). AreMarked (g.R.Rule.keeps c.args.rule.now) n c.deref.result.now) c.places.ensures
    (subst (λ (l : List Bool). AreMarked (g.R.Rule.keeps c.args.rule.now) c.places.result l) (sym c.deref.ensures.value) c.in_ok-marks.ensures.exact))
    (seeds_told (λ i r. (IsPlace c.args.tables.now i × IsTrue (slice_index_or c.deref.result.now i false)) × Contains (stops_tos c.args.tables.now.stops i) r)
    c.in_ok-seeds.seeds.items c.deref-2.result.now c.places-2.result (places c.args.tables.now) c.deref-2.ensures.value c.places-2.ensures c.in_ok-seeds.ensures)))
    c.along.ensures.exact
