use Rattle.std.proofs.Common.{refl}
use Rattle.vs_rules_of_starts.proofs.BeginningLemmas.{at_index}
use Rattle.vs_rules_of_starts.proofs.StartLemmas.{all_fine, fine_more, not_fine}
use Rattle.vs_rules_of_starts.proofs.starts.are_fine.Goals as goal

pub loop-term-preserved : goal.loop-term-preserved
loop-term-preserved c =
    fine_more c.args.facts.now.design c.args.facts.now.claims c.args.written.now c.args.terms.now c.loop-term.term-index _
    (at_index c.args.terms.now c.loop-term.term-index _ c.loop-term-test.true) c.loop-term.invariant (c.if-not-is_fine.ensures.0 refl)

pub returns-then-not-is_fine : goal.returns-then-not-is_fine
returns-then-not-is_fine c =
    not_fine c.args.facts.now.design c.args.facts.now.claims c.args.written.now c.args.terms.now c.loop-term.term-index _
    (at_index c.args.terms.now c.loop-term.term-index _ c.loop-term-test.true) c.if-not-is_fine.ensures.1

pub returns : goal.returns
returns c =
    all_fine c.args.facts.now.design c.args.facts.now.claims c.args.written.now c.args.terms.now c.loop-term.term-index c.loop-term-test.false c.loop-term.invariant
