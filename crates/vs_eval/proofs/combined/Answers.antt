use Rattle.std.proofs.Common.{◌∙◌, sym, ap, ap₂, length}
use Rattle.vs_design.specs.vs_logic4.specs.Operators.{binary, sizing_of}
use Rattle.vs_eval.proofs.SizesHold.{one_size}
use Rattle.vs_eval.proofs.combined.Goals as goal

pub of-requires : goal.of-requires
of-requires c =
    let sizing = sizing_of c.args.link.operator in
    record { one_size = λ even. ap length c.left_side.ensures ∙ one_size sizing c.args.link.width c.args.left c.args.right even ∙ sym (ap length c.right_side.ensures) }

pub returns : goal.returns
returns c = c.of.ensures ∙ ap₂ (binary c.args.link.operator c.args.link.signed) c.left_side.ensures c.right_side.ensures
