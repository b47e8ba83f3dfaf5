use Rattle.std.proofs.Common.{◌+◌, ◌*◌, max, take, drop}
use Rattle.vs_design.specs.declared.expression.Typed.{size-Typed}
use Rattle.vs_eval.proofs.DepthLemmas.{links_depth, pairs_depth, parts_depth}
use Rattle.vs_eval.specs.Values.{chosen}
use Rattle.vs_eval.specs.Copies.{pairs_of}
use Rattle.vs_eval.specs.Meant.{Means, Values}
use Rattle.vs_eval.proofs.OperandLemmas.{AreJoined, AreLinked}
use Rattle.vs_eval.proofs.resolve.+resolve.Given as goal

abbrev pub invariant-chain-loop-link : goal.invariant-chain-loop-link
invariant-chain-loop-link l =
    (values : Values) → Means l.fn.design.signals values l.fn.first.0 l.fn.first.1.width →
    AreLinked l.fn.design.signals values l.fn.first.0 (take l.link-index l.links) l.all.items l.size.width

abbrev pub invariant-choice-loop-i : goal.invariant-choice-loop-i
invariant-choice-loop-i l =
    (values : Values) → Means l.fn.design.signals values l.fn.last.0 l.fn.last.1.width →
    Means l.fn.design.signals (λ store time. chosen (pairs_of (drop l.i l.pairs) store time) (values store time)) l.node l.fn.last.1.width

abbrev pub invariant-concatenated-loop-part : goal.invariant-concatenated-loop-part
invariant-concatenated-loop-part l =
    (values : Values) → Means l.fn.design.signals values l.fn.first.0 l.fn.first.1.width →
    AreJoined l.fn.design.signals values (take l.part-index l.others) l.parts.items l.size.width

abbrev pub decreases-resolve : goal.decreases-resolve
decreases-resolve l = 3 * size-Typed l.e.now

abbrev pub decreases-pair : goal.decreases-pair
decreases-pair l = 3 * size-Typed l.e.now + 1

abbrev pub decreases-chain : goal.decreases-chain
decreases-chain l = 3 * links_depth l.links.now + 2

abbrev pub decreases-alternative : goal.decreases-alternative
decreases-alternative l = 3 * max (size-Typed l.condition.now) (size-Typed l.e.now) + 1

abbrev pub decreases-choice : goal.decreases-choice
decreases-choice l = 3 * pairs_depth l.pairs.now + 2

abbrev pub decreases-concatenated : goal.decreases-concatenated
decreases-concatenated l = 3 * parts_depth l.others.now + 2

abbrev pub decreases-select : goal.decreases-select
decreases-select l = 3 * max (size-Typed l.word.now) (size-Typed l.low.now) + 1
