use Rattle.std.proofs.Common.{◌≡◌, ◌+◌, ◌*◌, max, map, drop}
use Rattle.vs_eval.specs.declared.node.Node.{size-Node}
use Rattle.vs_eval.specs.Values.{concatenated}
use Rattle.vs_eval.specs.Nodes.{planes_in, chained}
use Rattle.vs_eval.specs.PlanesOf.{digits_of}
use Rattle.vs_eval.proofs.ResolvedDepthLemmas.{links_depth, sized_depth}
use Rattle.vs_eval.proofs.evaluate.+evaluate.Given as goal

abbrev pub invariant-chain-loop-sides : goal.invariant-chain-loop-sides
invariant-chain-loop-sides l =
    chained l.all (map (λ q. (q.0, planes_in q.1 l.store l.time)) (drop l.sides-index l.links)) ≡ chained l.fn.first (map (λ q. (q.0, planes_in q.1 l.store l.time)) l.links)

abbrev pub invariant-joined-loop-size : goal.invariant-joined-loop-size
invariant-joined-loop-size l =
    concatenated l.all (map (λ q. digits_of q.0.width (planes_in q.1 l.store l.time)) (drop l.size-index l.parts))
    ≡ concatenated (digits_of l.fn.size.width l.fn.first) (map (λ q. digits_of q.0.width (planes_in q.1 l.store l.time)) l.parts)

abbrev pub decreases-planes_at : goal.decreases-planes_at
decreases-planes_at l = 3 * size-Node l.node.now + 1

abbrev pub decreases-quick_planes : goal.decreases-quick_planes
decreases-quick_planes l = 3 * size-Node l.node.now + 2

abbrev pub decreases-chain : goal.decreases-chain
decreases-chain l = 3 * links_depth l.links.now + 3

abbrev pub decreases-joined : goal.decreases-joined
decreases-joined l = 3 * sized_depth l.parts.now + 3

abbrev pub decreases-choice : goal.decreases-choice
decreases-choice l = 3 * max (size-Node l.x.now) (size-Node l.y.now) + 3
