use Rattle.std.proofs.Common.{refl, sym, subst}
use Rattle.vs_rules_of_processes.specs.EdgePlaces.{IsPair}
use Rattle.vs_rules_of_processes.proofs.PairLemmas.{all_keep_it, one_breaks, one_more}
use Rattle.vs_rules_of_processes.proofs.edges.all_pair_with.Goals as goal

pub returns-then-not-is_pair : goal.returns-then-not-is_pair
returns-then-not-is_pair c =
    one_breaks (IsPair c.args.a.now) c.args.others.now c.loop-b.b-index c.b-item.result c.loop-b-test.true
    (λ h. c.if-not-is_pair.ensures.1 (subst (IsPair c.args.a.now) (sym c.b-item.is) h))

pub loop-b-preserved : goal.loop-b-preserved
loop-b-preserved c =
    one_more (IsPair c.args.a.now) c.args.others.now c.loop-b.b-index c.b-item.result c.loop-b-test.true c.loop-b.invariant
    (subst (IsPair c.args.a.now) c.b-item.is (c.if-not-is_pair.ensures.0 refl))

pub returns : goal.returns
returns c = all_keep_it (IsPair c.args.a.now) c.args.others.now c.loop-b.b-index c.loop-b-test.false c.loop-b.invariant
