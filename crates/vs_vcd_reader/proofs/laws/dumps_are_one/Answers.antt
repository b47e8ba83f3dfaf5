use Rattle.vs_vcd_reader.proofs.LawLemmas.{dumps_once}
use Rattle.vs_vcd_reader.proofs.laws.dumps_are_one.Goals as goal

pub returns : goal.returns
returns c = dumps_once
