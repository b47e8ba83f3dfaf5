use Rattle.std.proofs.Common.{◌≡◌, ◌-◌, Some, slice_get, sym, subst, ◌∙◌, arith}
use Rattle.vs_vcd_lines.proofs.ValueLemmas.{kept_one, kept_two}
use Rattle.vs_vcd_lines.proofs.values.gives_first_back.Goals as goal

pub returns-then-width-eq1-clause-kept : goal.returns-then-width-eq1-clause-kept
returns-then-width-eq1-clause-kept c = λ _. kept_one c.args.value (sym c.width-width.ensures.digits ∙ c.if-width-eq1.true)

pub returns-clause-kept : goal.returns-clause-kept
returns-clause-kept c =
    (kept_two c.args.value c.digit-high.result c.digit-low.result c.is_extension.result (omega (arith, c.width-width.ensures.digits, c.width-width.ensures.some, c.if-width-eq1.false))
    (subst (λ n. slice_get c.args.value (n - 1) ≡ Some c.digit-high.result) c.width-width.ensures.digits c.digit-high.ensures)
    (subst (λ n. slice_get c.args.value (n - 2) ≡ Some c.digit-low.result) c.width-width.ensures.digits c.digit-low.ensures)
    (sym c.is_extension.ensures)).0

pub returns-clause-given : goal.returns-clause-given
returns-clause-given c =
    (kept_two c.args.value c.digit-high.result c.digit-low.result c.is_extension.result (omega (arith, c.width-width.ensures.digits, c.width-width.ensures.some, c.if-width-eq1.false))
    (subst (λ n. slice_get c.args.value (n - 1) ≡ Some c.digit-high.result) c.width-width.ensures.digits c.digit-high.ensures)
    (subst (λ n. slice_get c.args.value (n - 2) ≡ Some c.digit-low.result) c.width-width.ensures.digits c.digit-low.ensures)
    (sym c.is_extension.ensures)).1
