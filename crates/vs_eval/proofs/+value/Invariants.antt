use Rattle.std.proofs.Common.{◌≡◌, ◌+◌, ◌*◌, map, drop}
use Rattle.vs_design.specs.declared.expression.Typed.{size-Typed}
use Rattle.vs_eval.proofs.DepthLemmas.{links_depth, pairs_depth, parts_depth}
use Rattle.vs_eval.specs.Values.{value_of, chained, chosen, concatenated}
use Rattle.vs_eval.proofs.+value.Given as goal

abbrev pub invariant-chain-loop-link : goal.invariant-chain-loop-link
invariant-chain-loop-link l =
    chained l.all (map (λ q. (q.0, value_of q.1 l.store l.time)) (drop l.link-index l.links)) ≡ chained l.fn.first (map (λ q. (q.0, value_of q.1 l.store l.time)) l.links)

abbrev pub invariant-choice-loop-i : goal.invariant-choice-loop-i
invariant-choice-loop-i l = l.all ≡ chosen (map (λ p. (value_of p.0 l.store l.time, value_of p.1 l.store l.time)) (drop l.i l.pairs)) l.fn.last

abbrev pub invariant-concatenation-loop-e : goal.invariant-concatenation-loop-e
invariant-concatenation-loop-e l =
    concatenated l.all (map (λ e. value_of e l.store l.time) (drop l.e-index l.others)) ≡ concatenated l.fn.first (map (λ e. value_of e l.store l.time) l.others)

abbrev pub decreases-other_value : goal.decreases-other_value
decreases-other_value l = 3 * size-Typed l.e.now + 0

abbrev pub decreases-value : goal.decreases-value
decreases-value l = 3 * size-Typed l.e.now + 1

abbrev pub decreases-quick_value : goal.decreases-quick_value
decreases-quick_value l = 3 * size-Typed l.e.now + 2

abbrev pub decreases-chain : goal.decreases-chain
decreases-chain l = 3 * links_depth l.links.now + 3

abbrev pub decreases-choice : goal.decreases-choice
decreases-choice l = 3 * pairs_depth l.pairs.now + 2

abbrev pub decreases-concatenation : goal.decreases-concatenation
decreases-concatenation l = 3 * parts_depth l.others.now + 2
