use Rattle.vs_rules_of_processes.proofs.FirstReads.{past_told}
use Rattle.vs_rules_of_processes.proofs.first_slot.IsPastSiteRule.test.Goals as goal

pub returns : goal.returns
returns c =
    let k = c.args.self.now.facts.now in
    past_told k.charts c.args.self.now.reader c.args.process c.args.place c.is_slot0.result c.if-process-self.false c.is_slot0.ensures
