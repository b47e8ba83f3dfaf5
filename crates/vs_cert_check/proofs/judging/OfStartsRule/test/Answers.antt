use Rattle.std.proofs.Common.{◌↔◌, IsTrue, option_map, sym, ◌∙◌, ap}
use Rattle.std.proofs.lemmas.Result.{IfOk-weaker}
use Rattle.vs_claims.specs.Subjects.{subject_view}
use Rattle.vs_rules_of_starts.specs.vs_rules.specs.Verdict.{Keeps, k11}
use Rattle.vs_cert_check.specs.Verdicts.{KeepsAt}
use Rattle.vs_cert_check.proofs.Judged.{kept_at, none_at}
use Rattle.vs_cert_check.proofs.judging.OfStartsRule.test.Goals as goal

pub returns-in-None : goal.returns-in-None
returns-in-None c =
    let k = c.args.self.now.sheet.now in
    none_at k.design k.claims 10 c.args.i (ap (option_map subject_view) (sym c.in-None.is) ∙ c.subject.ensures)

pub returns-in-Some : goal.returns-in-Some
returns-in-Some c =
    let k = c.args.self.now.sheet.now in
    let s = subject_view c.in-Some.subject in
    IfOk-weaker c.starts_well.result (λ b. (IsTrue b ↔ Keeps k.design k.claims k11 s)) (λ b. (IsTrue b ↔ KeepsAt k.design k.claims 10 c.args.i))
    (λ b told. kept_at k.design k.claims 10 c.args.i s b (ap (option_map subject_view) (sym c.in-Some.is) ∙ c.subject.ensures) told) c.starts_well.ensures
