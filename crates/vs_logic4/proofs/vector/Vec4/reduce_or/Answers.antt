use Rattle.std.proofs.Common.{◌∙◌}
use Rattle.vs_logic4.proofs.Comparisons.{truth_is_reduced_or}
use Rattle.vs_logic4.proofs.vector.Vec4.reduce_or.Goals as goal

pub returns : goal.returns
returns c = c.truth.ensures ∙ truth_is_reduced_or c.args.self
