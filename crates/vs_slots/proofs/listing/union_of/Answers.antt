use Rattle.std.proofs.Common.{ℕ, ◌<◌, List, ◌↔◌, sym, subst}
use Rattle.std.specs.List.{Contains}
use Rattle.vs_graph.proofs.Sets.{more, up_to}
use Rattle.vs_slots.proofs.Unions.{same_either, same_as}
use Rattle.vs_slots.proofs.listing.union_of.Goals as goal

pub loop-i-preserved : goal.loop-i-preserved
loop-i-preserved g c r =
    more (λ i. g.L.Listing.has c.args.listing.now i r) (Contains c.loop-i.all r) (Contains c.put.new.self r) c.loop-i.i (c.loop-i.invariant r)
    (same_either (Contains c.loop-i.all r) (Contains c.deref.result.now r) (g.L.Listing.has c.args.listing.now c.loop-i.i r) (Contains c.put.new.self r)
    (c.in_ok-put.ensures r)
    (subst (λ (l : List ℕ). (Contains l r ↔ g.L.Listing.has c.args.listing.now c.loop-i.i r)) (sym c.deref.ensures.value) (c.in_ok-list.ensures r)))

pub returns : goal.returns
returns g c r =
    same_as (Contains c.loop-i.all r) (Contains c.list-2.result.items r) ((i : ℕ) × (i < c.args.n) × g.L.Listing.has c.args.listing.now i r) (c.list-2.ensures.exact r)
    (up_to (λ i. g.L.Listing.has c.args.listing.now i r) (Contains c.loop-i.all r) c.loop-i.i c.args.n c.loop-i-test.false c.loop-i.auto.i-end (c.loop-i.invariant r))
