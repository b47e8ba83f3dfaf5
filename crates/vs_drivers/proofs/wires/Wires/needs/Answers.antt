use Rattle.std.proofs.Common.{arith}
use Rattle.vs_drivers.proofs.Tables.{needs_more, needs_all}
use Rattle.vs_drivers.proofs.wires.Wires.needs.Goals as goal

pub loop-n-preserved : goal.loop-n-preserved
loop-n-preserved c =
    needs_more c.args.self.now c.loop-n.n c.loop-n.table.items c.push.new.self.items c.in_ok-ranges.ranges c.in_ok-push.ensures.items c.in_ok-ranges.ensures c.loop-n.invariant

pub returns : goal.returns
returns c =
    needs_all c.args.self.now c.loop-n.n c.loop-n.table.items (omega (arith, c.count-n-end.ensures, c.loop-n-test.false, c.loop-n.auto.n-end)) c.loop-n.invariant
