use Rattle.std.proofs.Common.{◌∙◌, sym, ap, length}
use Rattle.vs_design.specs.vs_logic4.specs.PlaneLaws.{length-digits_of_planes}
use Rattle.vs_eval.proofs.evaluate.merged.Goals as goal

pub merge-requires : goal.merge-requires
merge-requires c =
    ap length c.vector.ensures ∙ length-digits_of_planes c.args.size.width c.args.value.value c.args.value.unknown
    ∙ sym (ap length c.vector-2.ensures ∙ length-digits_of_planes c.args.size.width c.args.other.value c.args.other.unknown)
