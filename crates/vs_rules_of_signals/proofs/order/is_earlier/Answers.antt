use Rattle.vs_rules_of_signals.specs.Order.{MayRead}
use Rattle.vs_drivers.specs.Ranges.{Share}
use Rattle.vs_rules_of_signals.proofs.OrderLemmas.{one_more, not_shared}
use Rattle.vs_rules_of_signals.proofs.order.is_earlier.Goals as goal
use Rattle.vs_rules_of_signals.proofs.order.is_earlier.Goals.{else-share-via-then-share+else-not-may_read, else-share-via-else-share}

pub loop-written-preserved : goal.loop-written-preserved
loop-written-preserved c =
    let f = c.args.facts.now in
    one_more c.args.row.now (λ w. Share f.design c.args.range w.range → MayRead f.design f.claims c.args.reader w.driver) c.loop-written.written-index _
    c.loop-written-test.true c.loop-written.invariant (elim c.else-share.branch [
      | else-share-via-then-share+else-not-may_read w ↦ λ h. w.may_read.ensures.0 w.if-not-may_read.false
      | else-share-via-else-share w ↦
          λ h. absurd (not_shared f.design c.design.result.now c.args.range _ c.design.ensures c.share.result c.share.ensures w.if-share.false h)
    ])
