use Rattle.std.proofs.Common.{ap, ◌∙◌}
use Rattle.vs_eval.specs.Values.{value_of}
use Rattle.vs_widths.proofs.constants.value_alone.Goals as goal

pub returns : goal.returns
returns c = c.value.ensures ∙ ap (λ s. value_of c.args.y.now s 0) c.without_signals-store.ensures
