use Rattle.std.proofs.Common.{ℕ, sym, ◌∙◌}
use Rattle.vs_rules_of_processes.specs.ReadingPlaces.{MayReadOf}
use Rattle.vs_rules_of_processes.proofs.PairLemmas.{all_in, one_more, one_out}
use Rattle.vs_rules_of_processes.proofs.readings.Reader.may_read_all.Goals as goal

pub returns-then-not-kept : goal.returns-then-not-kept
returns-then-not-kept c = one_out (λ (u : ℕ). MayReadOf c.args.self.now.slots.now.design c.args.self.now.slots.now.claims c.args.self.now.process c.args.self.now.tables.now c.args.place c.args.v u) c.args.us.now c.loop-u.u-index 0 c.loop-u-test.true (λ h. sym c.if-not-kept.true ∙ c.in_ok-kept.ensures.1 h)

pub loop-u-preserved : goal.loop-u-preserved
loop-u-preserved c = one_more (λ (u : ℕ). MayReadOf c.args.self.now.slots.now.design c.args.self.now.slots.now.claims c.args.self.now.process c.args.self.now.tables.now c.args.place c.args.v u) c.args.us.now c.loop-u.u-index 0 c.loop-u-test.true c.loop-u.invariant (c.in_ok-kept.ensures.0 c.if-not-kept.false)

pub returns : goal.returns
returns c = all_in (λ (u : ℕ). MayReadOf c.args.self.now.slots.now.design c.args.self.now.slots.now.claims c.args.self.now.process c.args.self.now.tables.now c.args.place c.args.v u) c.args.us.now c.loop-u.u-index c.loop-u-test.false c.loop-u.invariant
