use Rattle.vs_rules_of_starts.proofs.BeginningLemmas.{at_index}
use Rattle.vs_rules_of_starts.proofs.StartedLemmas.{of_all, of_next, of_none}
use Rattle.vs_rules_of_starts.proofs.starter.named_of.Goals as goal

pub loop-term-init : goal.loop-term-init
loop-term-init c = of_none c.args.copies.now c.args.g c.args.terms.now c.new-named.result.items c.new-named.ensures.items

pub loop-term-preserved : goal.loop-term-preserved
loop-term-preserved c =
    of_next c.args.copies.now c.args.g c.args.terms.now c.loop-term.term-index _ (at_index c.args.terms.now c.loop-term.term-index _ c.loop-term-test.true) c.loop-term.named.items
    c.push_named.new.named.items c.in_ok-push_named.ensures c.loop-term.invariant

pub returns : goal.returns
returns c = of_all c.args.copies.now c.args.g c.args.terms.now c.loop-term.term-index c.loop-term.named.items c.loop-term-test.false c.loop-term.invariant
