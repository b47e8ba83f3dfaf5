use Rattle.std.proofs.Common.{ap}
use Rattle.vs_propose.proofs.Gathered.{none_put, one_put, none_put_more, all_put}
use Rattle.vs_propose.proofs.order.put_needed.Goals as goal
use Rattle.vs_propose.proofs.order.put_needed.Goals.{then-share+in_ok-push, else-share}

pub loop-written-init : goal.loop-written-init
loop-written-init c = none_put c.args.design.now c.args.row.now c.args.range c.args.needed.now.items

pub loop-written-preserved : goal.loop-written-preserved
loop-written-preserved c = elim c.if-share.branch [
  | then-share+in_ok-push w ↦
      one_put c.args.design.now c.args.row.now c.args.range c.args.needed.now.items c.loop-written.written-index c.loop-written.needed c.if-share.needed w.push.new.self.items _
      c.loop-written-test.true c.share.result c.share.ensures w.if-share.true w.in_ok-push.ensures.items (ap (λ v. v.items) w.needed-is) c.loop-written.invariant
  | else-share w ↦
      none_put_more c.args.design.now c.args.row.now c.args.range c.args.needed.now.items c.loop-written.written-index c.loop-written.needed c.if-share.needed _
      c.loop-written-test.true c.share.result c.share.ensures w.if-share.false w.needed-is c.loop-written.invariant
]

pub returns : goal.returns
returns c =
    all_put c.args.design.now c.args.row.now c.args.range c.args.needed.now.items c.loop-written.written-index c.loop-written.needed.items c.loop-written-test.false
    c.loop-written.invariant
