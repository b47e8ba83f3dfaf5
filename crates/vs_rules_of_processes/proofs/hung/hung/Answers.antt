use Rattle.vs_rules_of_processes.proofs.HungLemmas.{hung_is}
use Rattle.vs_rules_of_processes.proofs.hung.hung.Goals as goal

pub returns : goal.returns
returns c =
    let k = c.args.facts.now in
    hung_is k.design k.claims c.in_ok-ranges.ranges.items c.deref.result.now c.in_ok-marks.marks.items c.deref.ensures.value c.in_ok-ranges.ensures
    (c.in_ok-marks.ensures.exact k.design k.claims c.requires)
