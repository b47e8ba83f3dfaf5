use Rattle.std.proofs.Common.{length, ap, arith}
use Rattle.vs_propose.proofs.Gathered.{none_needed, one_needed, all_needed}
use Rattle.vs_propose.proofs.order.needs_of.Goals as goal

pub loop-x-init : goal.loop-x-init
loop-x-init c = none_needed c.args.design.now c.new-needs.result.items c.new-needs.ensures.items

pub loop-x-preserved : goal.loop-x-preserved
loop-x-preserved c =
    one_needed c.args.design.now c.loop-x.x c.loop-x.needs.items c.push.new.self.items c.in_ok-needed.needed c.in_ok-needed.ensures c.in_ok-push.ensures.items
    c.loop-x.invariant

pub returns : goal.returns
returns c = all_needed c.args.design.now c.loop-x.x c.loop-x.needs.items (omega (arith, ap length c.assigns-count.ensures)) c.loop-x.invariant
