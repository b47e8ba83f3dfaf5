use Rattle.std.proofs.Common.{◌∙◌, sym, ap, length}
use Rattle.vs_design.specs.vs_logic4.specs.PlaneLaws.{length-digits_of_planes}
use Rattle.vs_eval.proofs.evaluate.rare_binary.Goals as goal

pub of-requires : goal.of-requires
of-requires c = record {
  one_size = λ even.
      ap length c.vector-x.ensures ∙ length-digits_of_planes c.args.sides.now.left c.args.left.value c.args.left.unknown
      ∙ c.args.sides.now.even even
      ∙ sym (ap length c.vector.ensures ∙ length-digits_of_planes c.args.sides.now.right c.args.right.value c.args.right.unknown);
}
