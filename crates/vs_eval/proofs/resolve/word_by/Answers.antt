use Rattle.std.proofs.Common.{ap}
use Rattle.vs_eval.proofs.WordLemmas.{element_means, indexed_means}
use Rattle.vs_eval.proofs.resolve.word_by.Goals as goal

pub returns-then-is_plain : goal.returns-then-is_plain
returns-then-is_plain c = λ signals signal values r m.
    element_means signals signal values c.args.array c.args.axis c.in_ok-x.x c.args.x.0 c.args.x.1.width c.in_ok-x.ensures.ok m r
    c.counting.result c.counting.ensures (c.is_plain.ensures c.if-is_plain.true)

pub returns : goal.returns
returns c = λ signals signal values r m.
    indexed_means signals signal values c.args.array c.args.axis c.in_ok-x.x c.args.x.0 c.args.x.1.width c.in_ok-x.ensures.ok m r c.in_ok-index.index
    (ap (λ t. t.axis) c.in_ok-index.ensures.ok) (ap (λ t. t.size) c.in_ok-index.ensures.ok)
