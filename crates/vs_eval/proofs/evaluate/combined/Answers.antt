use Rattle.std.proofs.Common.{◌≡◌, ◌∙◌, List, length, sym, ap}
use Rattle.std.specs.Prelude.{true}
use Rattle.vs_design.specs.vs_logic4.specs.declared.digit.Digit.{Digit}
use Rattle.vs_design.specs.vs_logic4.specs.Operators.{is_even, sizing_of}
use Rattle.vs_design.specs.vs_logic4.specs.PlaneLaws.{length-digits_of_planes}
use Rattle.vs_eval.specs.declared.node.Planes.{Planes}
use Rattle.vs_eval.specs.declared.node.Sides.{Sides}
use Rattle.vs_eval.specs.PlanesOf.{digits_of}
use Rattle.vs_eval.proofs.evaluate.combined.Goals as goal

-- sides of one size hold vectors of one length
one_size : (sides : Sides) (p q : Planes) (x y : List Digit) → x ≡ digits_of sides.left p → y ≡ digits_of sides.right q → is_even (sizing_of sides.operator) ≡ true → length x ≡ length y
one_size sides p q x y left right even =
    ap length left ∙ length-digits_of_planes sides.left p.value p.unknown ∙ sides.even even ∙ sym (ap length right ∙ length-digits_of_planes sides.right q.value q.unknown)

pub add-requires : goal.add-requires
add-requires c =
    one_size c.args.sides.now c.args.left c.args.right c.vector-x.result c.vector-y.result c.vector-x.ensures c.vector-y.ensures (ap (λ o. is_even (sizing_of o)) c.in-Add.is)

pub sub-requires : goal.sub-requires
sub-requires c =
    one_size c.args.sides.now c.args.left c.args.right c.vector-x.result c.vector-y.result c.vector-x.ensures c.vector-y.ensures (ap (λ o. is_even (sizing_of o)) c.in-Subtract.is)

pub and-requires : goal.and-requires
and-requires c =
    one_size c.args.sides.now c.args.left c.args.right c.vector-x.result c.vector-y.result c.vector-x.ensures c.vector-y.ensures (ap (λ o. is_even (sizing_of o)) c.in-And.is)

pub or-requires : goal.or-requires
or-requires c =
    one_size c.args.sides.now c.args.left c.args.right c.vector-x.result c.vector-y.result c.vector-x.ensures c.vector-y.ensures (ap (λ o. is_even (sizing_of o)) c.in-Or.is)

pub xor-requires : goal.xor-requires
xor-requires c =
    one_size c.args.sides.now c.args.left c.args.right c.vector-x.result c.vector-y.result c.vector-x.ensures c.vector-y.ensures (ap (λ o. is_even (sizing_of o)) c.in-Xor.is)

pub eq-requires : goal.eq-requires
eq-requires c =
    one_size c.args.sides.now c.args.left c.args.right c.vector-x.result c.vector-y.result c.vector-x.ensures c.vector-y.ensures (ap (λ o. is_even (sizing_of o)) c.in-Equal.is)

pub eq-requires-in-NotEqual : goal.eq-requires-in-NotEqual
eq-requires-in-NotEqual c =
    one_size c.args.sides.now c.args.left c.args.right c.vector-x.result c.vector-y.result c.vector-x.ensures c.vector-y.ensures (ap (λ o. is_even (sizing_of o)) c.in-NotEqual.is)
