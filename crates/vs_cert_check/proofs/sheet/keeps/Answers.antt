use Rattle.std.proofs.Common.{◌↔◌, IfOk, IsTrue, sym, subst}
use Rattle.vs_claims.specs.declared.subjects.Subject.{Subject}
use Rattle.vs_claims.specs.Subjects.{subject_view}
use Rattle.vs_rules_of_starts.specs.vs_rules.specs.Verdict.{Keeps}
use Rattle.vs_cert_check.specs.Verdicts.{rule_of}
use Rattle.vs_cert_check.proofs.sheet.keeps.Goals as goal

pub returns-in-Signal : goal.returns-in-Signal
returns-in-Signal c =
    let d = c.args.sheet.now.design in
    let n = c.args.sheet.now.claims in
    subst (λ (s : Subject). IfOk c.keeps_of_signal.result (λ b. (IsTrue b ↔ Keeps d n (rule_of c.args.rule) (subject_view s)))) (sym c.in-Signal.is) c.keeps_of_signal.ensures

pub returns-in-Assign : goal.returns-in-Assign
returns-in-Assign c =
    let d = c.args.sheet.now.design in
    let n = c.args.sheet.now.claims in
    subst (λ (s : Subject). IfOk c.keeps_of_assign.result (λ b. (IsTrue b ↔ Keeps d n (rule_of c.args.rule) (subject_view s)))) (sym c.in-Assign.is) c.keeps_of_assign.ensures

pub returns-in-Process : goal.returns-in-Process
returns-in-Process c =
    let d = c.args.sheet.now.design in
    let n = c.args.sheet.now.claims in
    subst (λ (s : Subject). IfOk c.keeps_of_process.result (λ b. (IsTrue b ↔ Keeps d n (rule_of c.args.rule) (subject_view s)))) (sym c.in-Process.is) c.keeps_of_process.ensures
