use Rattle.vs_vcd_reader.proofs.OutlineLemmas.{outlines}
use Rattle.vs_vcd_reader.proofs.outline_laws.outlines_are_in_order.Goals as goal

pub returns : goal.returns
returns c = outlines
