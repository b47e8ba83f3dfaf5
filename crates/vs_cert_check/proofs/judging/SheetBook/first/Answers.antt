use Rattle.std.proofs.Common.{ℕ, subst}
use Rattle.vs_rules_of_signals.specs.vs_graph.specs.Verdicts.{IsFirst}
use Rattle.vs_cert_check.specs.Verdicts.{KeepsAt}
use Rattle.vs_cert_check.proofs.judging.SheetBook.first.Goals as goal

pub returns : goal.returns
returns c =
    let k = c.args.self.now in
    subst (λ (n : ℕ). IsFirst (KeepsAt k.design k.claims c.args.rule) n c.in_ok-first.first) c.count.ensures c.in_ok-first.ensures
