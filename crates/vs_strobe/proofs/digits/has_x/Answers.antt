use Rattle.std.proofs.Common.{suc, drop, arith, ◌+◌, ◌≡◌, ap, ◌∙◌}
use Rattle.std.specs.List.{list_any}
use Rattle.vs_design.specs.vs_logic4.specs.declared.digit.Digit.TheVariants.{X}
use Rattle.vs_design.specs.vs_logic4.specs.Vectors.{same_digit}
use Rattle.vs_strobe.proofs.ValueLemmas.{x_found, x_passed}
use Rattle.vs_strobe.proofs.digits.has_x.Goals as goal

pub returns-in-X : goal.returns-in-X
returns-in-X c = x_found c.args.value c.loop-i.i c.digit.result c.digit.ensures c.in-X.is c.loop-i.invariant

pub loop-i-preserved : goal.loop-i-preserved
loop-i-preserved c =
    let next : c.loop-i.i + 1 ≡ suc c.loop-i.i = omega arith in
    ap (λ i. list_any (same_digit X) (drop i c.args.value)) next
    ∙ x_passed c.args.value c.loop-i.i c.digit.result c.digit.ensures c.in_default.not-X c.loop-i.invariant
