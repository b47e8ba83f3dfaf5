use Rattle.std.proofs.Common.{sym, ap, ◌∙◌}
use Rattle.vs_certificate.specs.Limits.{is_within_limits}
use Rattle.serde_json.specs.View.{view}
use Rattle.vs_certificate.proofs.Natural.{is_within_limits-negative}
use Rattle.vs_certificate.proofs.reading.certificate_from.Goals as goal

pub returns-then-not-has_form-2-clause-fault : goal.returns-then-not-has_form-2-clause-fault
returns-then-not-has_form-2-clause-fault c =
    let whole = sym c.has_form.ensures ∙ c.if-not-has_form.false in
    (whole, is_within_limits-negative (view c.args.json.now) whole (sym c.has_form-2.ensures ∙ c.if-not-has_form-2.true))

pub returns-clause-shape : goal.returns-clause-shape
returns-clause-shape c = sym c.has_form.ensures ∙ c.if-not-has_form.false

pub returns-clause-limits : goal.returns-clause-limits
returns-clause-limits c = ap is_within_limits (sym c.in-Ok.ensures) ∙ sym c.is_within_limits.ensures ∙ c.if-not-is_within_limits.false
