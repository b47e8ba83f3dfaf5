use Rattle.vs_vcd_reader.proofs.BeginningLemmas.{top_tells}
use Rattle.vs_vcd_reader.proofs.parts.top_goes_on.Goals as goal

pub returns : goal.returns
returns c = top_tells c.args.part.now c.begins_scope.result c.begins_scope.ensures
