use Rattle.std.proofs.Common.{get_or, length, arith}
use Rattle.std.specs.List.{Contains}
use Rattle.vs_maps.specs.vs_graph.proofs.Sets.{more, up_to}
use Rattle.vs_claims.specs.Facts.{IsRootAt}
use Rattle.vs_claims.proofs.RootLemmas.{roots_in}
use Rattle.vs_claims.proofs.facts.Facts.roots.Goals as goal

pub loop-place-preserved : goal.loop-place-preserved
loop-place-preserved c r =
    let k = c.args.self.now in
    let row = c.entries_of-place-items.result.now in
    more (λ i. IsRootAt k.design k.claims.edges (get_or row i 0) r c.args.v) (Contains c.loop-place.roots.items r) (Contains c.put_root.new.out.items r)
    c.loop-place.place-index (c.loop-place.invariant r) (c.in_ok-put_root.ensures r)

pub returns : goal.returns
returns c r =
    let k = c.args.self.now in
    let row = c.entries_of-place-items.result.now in
    roots_in k.design k.claims c.args.v r c.loop-place.roots.items row c.entries_of-place-items.ensures
    (up_to (λ i. IsRootAt k.design k.claims.edges (get_or row i 0) r c.args.v) (Contains c.loop-place.roots.items r) c.loop-place.place-index (length row)
    (omega arith) (omega arith) (c.loop-place.invariant r))
