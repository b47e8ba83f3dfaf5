use Rattle.std.proofs.Common.{Err, IfOk, IfErr, sym, ◌∙◌, rules}
use Rattle.serde_json.specs.View.{view}
use Rattle.vs_certificate.specs.declared.fault.CertFault.TheVariants as faults
use Rattle.vs_certificate.specs.JsonValue.{value_of}
use Rattle.vs_certificate.specs.Reading.{PassesBy, IsFaultBy, other_by}
use Rattle.vs_certificate.proofs.Only.{only_value, passes_from, fault_from}
use Rattle.vs_certificate.proofs.reading.from_json_by.Goals as goal

pub returns-in_err-json-clause-only : goal.returns-in_err-json-clause-only
returns-in_err-json-clause-only c =
    let ok : IfOk c.from_residual.result (λ r. PassesBy (other_by c.args.rules) c.args.bytes.now (value_of r)) = search rules in
    let fault : IfErr c.from_residual.result (IsFaultBy (other_by c.args.rules) c.args.bytes.now) = search rules in
    only_value (other_by c.args.rules) c.args.bytes.now c.from_residual.result ok fault

pub returns-then-is_other-clause-only : goal.returns-then-is_other-clause-only
returns-then-is_other-clause-only c =
    only_value (other_by c.args.rules) c.args.bytes.now (Err faults.Version) tt (view c.in_ok-json.json, c.in_ok-json.ensures.ok, sym c.is_other.ensures ∙ c.if-is_other.true)

pub returns-then-is_other-clause-fault : goal.returns-then-is_other-clause-fault
returns-then-is_other-clause-fault c = (view c.in_ok-json.json, c.in_ok-json.ensures.ok, sym c.is_other.ensures ∙ c.if-is_other.true)

pub returns-clause-ok : goal.returns-clause-ok
returns-clause-ok c =
    let known = sym c.is_other.ensures ∙ c.if-is_other.false in
    passes_from (other_by c.args.rules) c.args.bytes.now _ c.in_ok-json.ensures.ok known c.certificate_from.result c.certificate_from.ensures.value c.certificate_from.ensures.shape c.certificate_from.ensures.limits

pub returns-clause-only : goal.returns-clause-only
returns-clause-only c =
    let known = sym c.is_other.ensures ∙ c.if-is_other.false in
    only_value (other_by c.args.rules) c.args.bytes.now c.certificate_from.result
    (passes_from (other_by c.args.rules) _ _ c.in_ok-json.ensures.ok known _ c.certificate_from.ensures.value c.certificate_from.ensures.shape c.certificate_from.ensures.limits)
    (fault_from (other_by c.args.rules) _ _ c.in_ok-json.ensures.ok known _ c.certificate_from.ensures.fault)

pub returns-clause-fault : goal.returns-clause-fault
returns-clause-fault c = fault_from (other_by c.args.rules) c.args.bytes.now _ c.in_ok-json.ensures.ok (sym c.is_other.ensures ∙ c.if-is_other.false) c.certificate_from.result c.certificate_from.ensures.fault
