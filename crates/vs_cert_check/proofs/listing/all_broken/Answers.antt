use Rattle.std.proofs.Common.{◌≡◌, ℕ, List, Some, length, inl, inr, sym, subst, arith}
use Rattle.std.proofs.lemmas.Result.{IfOk-weaker}
use Rattle.std.specs.Prelude.{Vec}
use Rattle.std.specs.Global.{Global}
use Rattle.vs_cert_check.specs.declared.verdict.Broken.{Broken}
use Rattle.vs_rules_of_signals.specs.vs_graph.specs.Verdicts.{IsLeast}
use Rattle.vs_rules_of_starts.specs.vs_rules.specs.Verdict.{subjects}
use Rattle.vs_cert_check.specs.Broken.{AreFirstBroken, IsBrokenList}
use Rattle.vs_cert_check.specs.Verdicts.{KeepsAt}
use Rattle.vs_cert_check.proofs.BrokenLemmas.{none_told}
use Rattle.vs_cert_check.proofs.listing.all_broken.Goals as goal

pub returns-in-None : goal.returns-in-None
returns-in-None c =
    let d = c.args.sheet.now.design in
    let n = c.args.sheet.now.claims in
    let least = subst (IsLeast (KeepsAt d n) 11 (length (subjects d n))) c.in-None.is c.requires in
    subst (λ (l : List Broken). IsBrokenList d n c.args.most l) (sym c.new.ensures.items) (inl (none_told d n 11 c.args.most least))

pub broken_from-requires-clause-kept : goal.broken_from-requires-clause-kept
broken_from-requires-clause-kept c =
    let d = c.args.sheet.now.design in
    let n = c.args.sheet.now.claims in
    (subst (IsLeast (KeepsAt d n) 11 (length (subjects d n))) c.in-Some.is c.requires).1

pub broken_starts-requires : goal.broken_starts-requires
broken_starts-requires c =
    let d = c.args.sheet.now.design in
    let n = c.args.sheet.now.claims in
    let least = subst (IsLeast (KeepsAt d n) 11 (length (subjects d n))) c.in-Some.is c.requires in
    λ k below i within. least.1 k (omega (arith, below, c.if-rule-lt-BEFORE.false)) i within

pub returns-then-rule-lt-BEFORE : goal.returns-then-rule-lt-BEFORE
returns-then-rule-lt-BEFORE c =
    let d = c.args.sheet.now.design in
    let n = c.args.sheet.now.claims in
    let least = subst (IsLeast (KeepsAt d n) 11 (length (subjects d n))) c.in-Some.is c.requires in
    IfOk-weaker c.broken_from.result (λ (l : Vec Broken Global). AreFirstBroken d n 10 c.args.most l.items) (λ (l : Vec Broken Global). IsBrokenList d n c.args.most l.items)
    (λ l listed. inr (λ kept. least.2.1 (kept c.in-Some.rule c.if-rule-lt-BEFORE.true c.in-Some.field-0-1 least.2.0), listed)) c.broken_from.ensures

pub returns-else-rule-lt-BEFORE : goal.returns-else-rule-lt-BEFORE
returns-else-rule-lt-BEFORE c =
    let d = c.args.sheet.now.design in
    let n = c.args.sheet.now.claims in
    IfOk-weaker c.broken_starts.result (λ (l : Vec Broken Global). AreFirstBroken d n 11 c.args.most l.items) (λ (l : Vec Broken Global). IsBrokenList d n c.args.most l.items)
    (λ l listed. inl listed) c.broken_starts.ensures
