use Rattle.std.proofs.Common.{◌≤◌, length, ap, subst, sym, ◌∙◌}
use Rattle.std.proofs.lemmas.Result.{IfOk-weaker}
use Rattle.serde_json.specs.Written.{has_float, compact_text}
use Rattle.vs_certificate.specs.JsonValue.{value_of}
use Rattle.vs_certificate.specs.Reading.{max_len, PassesAs}
use Rattle.vs_certificate.proofs.Law.{reads_back}
use Rattle.vs_certificate.proofs.Written.{has_float-value_of}
use Rattle.vs_certificate.proofs.writing.to_json.Goals as goal

pub returns-clause-text : goal.returns-clause-text
returns-clause-text c =
    let same = c.in_ok-to_value.ensures in
    IfOk-weaker c.to_vec.result _ _ (λ text h. h (ap has_float same ∙ has_float-value_of c.args.certificate.now) ∙ ap compact_text same) c.to_vec.ensures.text

pub returns-clause-reads_back : goal.returns-clause-reads_back
returns-clause-reads_back c =
    let same = c.in_ok-to_value.ensures in
    let value = value_of c.args.certificate.now in
    IfOk-weaker c.to_vec.result _ _
    (λ text h own within short.
    let is = h (ap has_float same ∙ has_float-value_of c.args.certificate.now) ∙ ap compact_text same in
    subst (PassesAs c.args.certificate.now) (sym is) (reads_back c.args.certificate.now own within (subst (λ bytes. length bytes ≤ max_len) is short))) c.to_vec.ensures.text
