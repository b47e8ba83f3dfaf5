use Rattle.std.proofs.Common.{arith}
use Rattle.vs_drivers.proofs.ListLemmas.{two_not_only, all_only}
use Rattle.vs_drivers.proofs.lists.only.Goals as goal

pub returns-then-x-first : goal.returns-then-x-first
returns-then-x-first c = two_not_only c.args.xs.now c.loop-x.x-index c.loop-x-test.true (λ e. c.if-x-first.true e)

pub returns : goal.returns
returns c = all_only c.args.xs.now c.loop-x.x-index c.loop-x.invariant.some (omega arith) c.loop-x.invariant.same
