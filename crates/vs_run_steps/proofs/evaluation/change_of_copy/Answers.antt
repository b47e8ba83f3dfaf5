use Rattle.std.proofs.Common.{sym, ◌∙◌, arith}
use Rattle.vs_run_steps.proofs.evaluation.change_of_copy.Goals as goal

pub returns : goal.returns
returns c = record {
  value = c.planes_of-value.ensures.value;
  unknown = c.planes_of-value.ensures.unknown;
  new_value = c.planes_of-new_value.ensures.value;
  new_unknown = c.planes_of-new_value.ensures.unknown;
  size = c.requires.whole ∙ sym c.requires.sized;
  limit = omega (arith, c.requires.whole, c.args.spot.now.sized);
}
