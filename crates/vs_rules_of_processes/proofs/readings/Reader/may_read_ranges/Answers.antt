use Rattle.std.proofs.Common.{sym, ◌∙◌}
use Rattle.vs_design.specs.declared.range.BitRange.{BitRange}
use Rattle.vs_rules_of_processes.specs.ReadingPlaces.{MayReadRange}
use Rattle.vs_rules_of_processes.proofs.PairLemmas.{all_keep_it, one_breaks, one_more}
use Rattle.vs_rules_of_processes.proofs.readings.Reader.may_read_ranges.Goals as goal

pub returns-then-not-kept : goal.returns-then-not-kept
returns-then-not-kept c = one_breaks (λ (r : BitRange). MayReadRange c.args.self.now.slots.now.design c.args.self.now.slots.now.claims c.args.self.now.process c.args.self.now.tables.now c.args.place r) c.args.ranges.now c.loop-i.i _ c.loop-i-test.true (λ h. sym c.if-not-kept.true ∙ c.in_ok-kept.ensures.1 h)

pub loop-i-preserved : goal.loop-i-preserved
loop-i-preserved c = one_more (λ (r : BitRange). MayReadRange c.args.self.now.slots.now.design c.args.self.now.slots.now.claims c.args.self.now.process c.args.self.now.tables.now c.args.place r) c.args.ranges.now c.loop-i.i _ c.loop-i-test.true c.loop-i.invariant (c.in_ok-kept.ensures.0 c.if-not-kept.false)

pub returns : goal.returns
returns c = all_keep_it (λ (r : BitRange). MayReadRange c.args.self.now.slots.now.design c.args.self.now.slots.now.claims c.args.self.now.process c.args.self.now.tables.now c.args.place r) c.args.ranges.now c.loop-i.i c.loop-i-test.false c.loop-i.invariant
