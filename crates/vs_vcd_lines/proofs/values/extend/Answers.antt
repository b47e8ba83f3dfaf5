use Rattle.std.proofs.Common.{◌≡◌, ◌-◌, Some, length, slice_get, ap, subst, ◌∙◌, arith}
use Rattle.vs_design.specs.vs_logic4.specs.Extensions.{length-resized}
use Rattle.vs_vcd_lines.proofs.ValueLemmas.{extend_is}
use Rattle.vs_vcd_lines.proofs.values.extend.Goals as goal

pub returns-clause-wide : goal.returns-clause-wide
returns-clause-wide c = ap length c.resize.ensures ∙ length-resized c.extends_by_itself-by_itself.result c.args.width c.args.value

pub returns-clause-digits : goal.returns-clause-digits
returns-clause-digits c =
    let top = subst (λ n. slice_get c.args.value (n - 1) ≡ Some c.digit-top.result) c.width-last.ensures.digits c.digit-top.ensures in
    extend_is c.args.value c.resize.result c.args.width c.digit-top.result c.extends_by_itself-by_itself.result
    (omega (arith, c.width-last.ensures.digits, c.width-last.ensures.some)) c.requires.least top (c.extends_by_itself-by_itself.ensures c.args.value top) c.resize.ensures
