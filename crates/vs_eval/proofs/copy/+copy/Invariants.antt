use Rattle.std.proofs.Common.{◌+◌, ◌*◌, take}
use Rattle.vs_design.specs.declared.expression.Typed.{size-Typed}
use Rattle.vs_eval.proofs.DepthLemmas.{links_depth, pairs_depth, parts_depth}
use Rattle.vs_eval.specs.Copies.{HaveLinksOf, HavePairsOf, HavePartsOf}
use Rattle.vs_eval.proofs.copy.+copy.Given as goal

abbrev pub invariant-copied_links-loop-link : goal.invariant-copied_links-loop-link
invariant-copied_links-loop-link l = HaveLinksOf l.all.items (take l.link-index l.links)

abbrev pub invariant-copied_pairs-loop-condition : goal.invariant-copied_pairs-loop-condition
invariant-copied_pairs-loop-condition l = HavePairsOf l.all.items (take l.condition-index l.pairs)

abbrev pub invariant-copied_parts-loop-part : goal.invariant-copied_parts-loop-part
invariant-copied_parts-loop-part l = HavePartsOf l.all.items (take l.part-index l.parts)

abbrev pub decreases-copied : goal.decreases-copied
decreases-copied l = 3 * size-Typed l.e.now

abbrev pub decreases-boxed : goal.decreases-boxed
decreases-boxed l = 3 * size-Typed l.e.now + 1

abbrev pub decreases-copied_links : goal.decreases-copied_links
decreases-copied_links l = 3 * links_depth l.links.now + 2

abbrev pub decreases-copied_pairs : goal.decreases-copied_pairs
decreases-copied_pairs l = 3 * pairs_depth l.pairs.now + 2

abbrev pub decreases-copied_parts : goal.decreases-copied_parts
decreases-copied_parts l = 3 * parts_depth l.parts.now + 2
