use Rattle.std.proofs.Common.{◌≡◌, List, Some, slice_get, subst, sym}
use Rattle.vs_preprocess.specs.declared.places.Segment.{Segment}
use Rattle.vs_preprocess.specs.Places.{Map}
use Rattle.vs_preprocess.specs.passes.Segments.{IsLastAt}
use Rattle.vs_preprocess.proofs.Segments.{origin_exact}
use Rattle.vs_preprocess.proofs.places.Places.spot.Goals as goal

pub returns-in-Some-clause-exact : goal.returns-in-Some-clause-exact
returns-in-Some-clause-exact c = λ source found.
    let inside = c.self.inside in
    let number = c.in-Some.number in
    let last = subst (λ (l : List Segment). IsLastAt c.args.offset l number) c.deref.ensures.value c.in-Some.ensures.some in
    let here = subst (λ (m : Map). slice_get m.sources c.args.offset ≡ Some source) (sym c.self.view_is) found in
    origin_exact inside.files.items inside.segments.items c.args.offset number c.index.result.now c.origin.result source last c.self.invariant.2 c.self.invariant.0 c.self.invariant.3
    c.index.ensures c.origin.ensures.exact here
