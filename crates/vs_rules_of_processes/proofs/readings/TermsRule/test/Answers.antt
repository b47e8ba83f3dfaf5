use Rattle.std.proofs.Common.{arith}
use Rattle.vs_rules_of_processes.specs.ReadingPlaces.{IsTermApart}
use Rattle.vs_rules_of_processes.proofs.PairLemmas.{here_only, none_past}
use Rattle.vs_rules_of_processes.proofs.readings.TermsRule.test.Goals as goal

pub returns-then-i-self : goal.returns-then-i-self
returns-then-i-self c =
    none_past (IsTermApart c.args.self.now.slots.now.design c.args.self.now.slots.now.claims c.args.self.now.root) c.args.self.now.terms.now c.args.i
    (omega (arith, c.if-i-self.true))

pub returns : goal.returns
returns c =
    here_only (IsTermApart c.args.self.now.slots.now.design c.args.self.now.slots.now.claims c.args.self.now.root) c.args.self.now.terms.now c.args.i _ c.in_ok-apart.apart
    (omega (arith, c.if-i-self.false)) c.in_ok-apart.ensures
