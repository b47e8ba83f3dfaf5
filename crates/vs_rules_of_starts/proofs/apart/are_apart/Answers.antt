use Rattle.vs_rules_of_starts.proofs.StartLemmas.{apart_is}
use Rattle.vs_rules_of_starts.proofs.apart.are_apart.Goals as goal

pub returns : goal.returns
returns c =
    let k = c.args.facts.now in
    apart_is k.design k.claims c.args.cones.now c.requires c.in_ok-needs.needs.items c.deref.result.now c.in_ok-passed.passed.items c.deref-2.result.now c.deref.ensures.value c.deref-2.ensures.value
    c.in_ok-needs.ensures c.in_ok-passed.ensures c.no_starter_in.result c.no_starter_in.ensures
