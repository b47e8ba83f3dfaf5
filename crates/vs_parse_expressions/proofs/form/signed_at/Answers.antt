use Rattle.vs_parse_expressions.proofs.Forms.{is_signed, no_sign}
use Rattle.vs_parse_expressions.proofs.form.signed_at.Goals as goal

pub returns-in-Some : goal.returns-in-Some
returns-in-Some c = λ depth. is_signed depth _ _ c.in-Some.ensures

pub returns-in-None : goal.returns-in-None
returns-in-None c = λ depth. no_sign depth _ c.in-None.ensures
