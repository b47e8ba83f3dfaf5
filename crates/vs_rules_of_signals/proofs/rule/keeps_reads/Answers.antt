use Rattle.vs_drivers.specs.Wires.{driver_at}
use Rattle.vs_rules_of_signals.specs.Order.{KeepsRead}
use Rattle.vs_rules_of_signals.proofs.OrderLemmas.{one_breaks, one_more, all_kept}
use Rattle.vs_rules_of_signals.proofs.rule.keeps_reads.Goals as goal

pub keeps_range-requires-clause-row : goal.keeps_range-requires-clause-row
keeps_range-requires-clause-row c = c.writers-row.ensures c.args.facts.now.design c.args.facts.now.claims c.requires

pub keeps_range-requires-clause-source : goal.keeps_range-requires-clause-source
keeps_range-requires-clause-source c = c.is_source-is_source.ensures c.args.facts.now.design c.args.facts.now.claims c.requires

pub returns-then-not-branch : goal.returns-then-not-branch
returns-then-not-branch c =
    let f = c.args.facts.now in
    one_breaks c.args.read.now (λ r. KeepsRead f.design f.claims (driver_at f.design c.args.reader) r) c.loop-range.range-index _ c.loop-range-test.true
    c.in_ok-keeps_range.field-0 c.in_ok-keeps_range.ensures c.if-not-branch.true

pub loop-range-preserved : goal.loop-range-preserved
loop-range-preserved c =
    let f = c.args.facts.now in
    one_more c.args.read.now (λ r. KeepsRead f.design f.claims (driver_at f.design c.args.reader) r) c.loop-range.range-index _ c.loop-range-test.true
    c.loop-range.invariant (c.in_ok-keeps_range.ensures.0 c.if-not-branch.false)

pub returns : goal.returns
returns c =
    let f = c.args.facts.now in
    all_kept c.args.read.now (λ r. KeepsRead f.design f.claims (driver_at f.design c.args.reader) r) c.loop-range.range-index c.loop-range-test.false
    c.loop-range.invariant
