use Rattle.std.proofs.Common.{Bool, ◌↔◌, IsTrue, List, subst}
use Rattle.std.proofs.lemmas.Result.{IfOk-weaker}
use Rattle.vs_design.specs.declared.range.BitRange.{BitRange}
use Rattle.vs_drivers.specs.Wires.{driver_at}
use Rattle.vs_rules_of_signals.specs.Order.{KeepsReads}
use Rattle.vs_rules_of_signals.proofs.OrderLemmas.{same_reads}
use Rattle.vs_rules_of_signals.proofs.rule.keeps_once.Goals as goal

pub returns : goal.returns
returns c =
    let f = c.args.facts.now in
    let x = driver_at f.design c.args.reader in
    IfOk-weaker c.keeps_reads.result (λ b. (IsTrue b ↔ KeepsReads f.design f.claims x c.deref.result.now)) (λ b. (IsTrue b ↔ KeepsReads f.design f.claims x c.args.read.items))
    (λ b h. same_reads f.design f.claims x c.args.read.items c.distinct-once.result.items b c.distinct-once.ensures
    (subst (λ (l : List BitRange). (IsTrue b ↔ KeepsReads f.design f.claims x l)) c.deref.ensures.value h)) c.keeps_reads.ensures
