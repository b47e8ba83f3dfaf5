use Rattle.std.proofs.Common.{get_or, subst}
use Rattle.vs_slots_constants.proofs.OtherLemmas.{SoFar, contains_at, found_is, two_others}
use Rattle.std.proofs.Common.{arith}
use Rattle.vs_slots_constants.proofs.clocks.other.Goals as goal

pub returns-then-j-x : goal.returns-then-j-x
returns-then-j-x c =
    let so = subst (SoFar c.args.xs.now c.args.i c.loop-x.x-index) c.in-Some.is c.loop-x.invariant in
    two_others c.args.xs.now c.args.i c.in-Some.j (get_or c.args.xs.now c.loop-x.x-index 0) so.0 so.1
    (contains_at c.args.xs.now c.loop-x.x-index c.loop-x-test.true) c.if-x-i.true c.if-j-x.true

pub returns : goal.returns
returns c = found_is c.args.xs.now c.args.i c.loop-x.x-index c.loop-x.found (omega arith) c.loop-x.invariant
