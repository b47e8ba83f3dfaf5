use Rattle.std.proofs.Common.{◌↔◌, IsTrue, option_map, sym, ◌∙◌, ap}
use Rattle.std.proofs.lemmas.Result.{IfOk-weaker}
use Rattle.vs_claims.specs.Subjects.{subject_view}
use Rattle.vs_rules_of_starts.specs.vs_rules.specs.Verdict.{Keeps}
use Rattle.vs_cert_check.specs.Verdicts.{rule_of, KeepsAt}
use Rattle.vs_cert_check.proofs.Judged.{kept_at, none_at}
use Rattle.vs_cert_check.proofs.SubjectLemmas.{subject_of}
use Rattle.vs_cert_check.proofs.judging.OfRuleRule.test.Goals as goal

pub returns-in-None : goal.returns-in-None
returns-in-None c =
    let k = c.args.self.now.sheet.now in
    none_at k.design k.claims c.args.self.now.rule c.args.i (ap (option_map subject_view) (sym c.in-None.is) ∙ c.subject.ensures)

pub keeps-requires-clause-of : goal.keeps-requires-clause-of
keeps-requires-clause-of c =
    let k = c.args.self.now.sheet.now in
    subject_of k.design k.claims c.args.i (subject_view c.in-Some.subject) (sym (ap (option_map subject_view) (sym c.in-Some.is) ∙ c.subject.ensures))

pub returns-in-Some : goal.returns-in-Some
returns-in-Some c =
    let f = c.args.self.now in
    let k = f.sheet.now in
    let s = subject_view c.in-Some.subject in
    IfOk-weaker c.keeps.result (λ b. (IsTrue b ↔ Keeps k.design k.claims (rule_of f.rule) s)) (λ b. (IsTrue b ↔ KeepsAt k.design k.claims f.rule c.args.i))
    (λ b told. kept_at k.design k.claims f.rule c.args.i s b (ap (option_map subject_view) (sym c.in-Some.is) ∙ c.subject.ensures) told) c.keeps.ensures
