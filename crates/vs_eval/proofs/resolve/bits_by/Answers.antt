use Rattle.std.proofs.Common.{ap}
use Rattle.vs_eval.proofs.WordLemmas.{bit_means, ranged_means}
use Rattle.vs_eval.proofs.resolve.bits_by.Goals as goal

pub returns-then-is_plain : goal.returns-then-is_plain
returns-then-is_plain c = λ signals signal values r m.
    bit_means signals signal values c.args.array c.args.axis c.in_ok-x.x c.args.x.0 c.args.x.1.width c.in_ok-x.ensures.ok m r
    c.counting.result c.args.size.width c.counting.ensures c.if-size-eq1.true (c.is_plain.ensures c.if-is_plain.true)

pub returns : goal.returns
returns c = λ signals signal values r m.
    ranged_means signals signal values c.args.array c.args.axis c.in_ok-x.x c.args.x.0 c.args.x.1.width c.in_ok-x.ensures.ok m r c.in_ok-range.range c.args.size.width
    (ap (λ t. t.index.axis) c.in_ok-range.ensures.ok) (ap (λ t. t.index.size) c.in_ok-range.ensures.ok) (ap (λ t. t.width) c.in_ok-range.ensures.ok)
