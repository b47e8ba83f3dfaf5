use Rattle.vs_widths.proofs.LinkingLemmas.{operated_more}
use Rattle.vs_widths.proofs.linking.operated.Goals as goal

pub returns-in_ok-push-in-Ok : goal.returns-in_ok-push-in-Ok
returns-in_ok-push-in-Ok c = rw c.in-Ok.ensures (operated_more c.in-Ok.first c.in-Ok.others c.push.new.self c.args.operator c.args.right c.in_ok-push-in-Ok.ensures.items)
