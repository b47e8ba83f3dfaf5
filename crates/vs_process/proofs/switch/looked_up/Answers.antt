use Rattle.std.proofs.Common.{refl, sym, ◌∙◌, rules}
use Rattle.std.specs.Prelude.{Some, None}
use Rattle.std.proofs.lemmas.Bool.{eq-eqb, ne_eqb}
use Rattle.vs_process.proofs.SwitchLemmas.{looked_far, looked_near}
use Rattle.vs_process.proofs.switch.looked_up.Goals as goal

pub returns-then-width : goal.returns-then-width
returns-then-width c =
    sym (looked_far c.args.digits c.args.width c.args.indices.now c.args.otherwise (ne_eqb _ _ (λ e. c.if-width.true (c.width.ensures.digits ∙ e))))

pub returns-in-Some : goal.returns-in-Some
returns-in-Some c =
    looked_near c.args.digits c.args.width c.args.indices.now c.args.otherwise (Some c.in-Some.number) c.unwrap_or.result
    (eq-eqb _ _ (sym c.width.ensures.digits ∙ c.if-width.false)) (sym c.in-Some.is ∙ c.to_number.ensures) (search rules)

pub returns-in-None : goal.returns-in-None
returns-in-None c =
    looked_near c.args.digits c.args.width c.args.indices.now c.args.otherwise None c.args.otherwise
    (eq-eqb _ _ (sym c.width.ensures.digits ∙ c.if-width.false)) (sym c.in-None.is ∙ c.to_number.ensures) refl
