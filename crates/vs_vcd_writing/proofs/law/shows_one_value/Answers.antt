use Rattle.vs_vcd_writing.proofs.LawLemmas.{one_value}
use Rattle.vs_vcd_writing.proofs.law.shows_one_value.Goals as goal

pub returns : goal.returns
returns c = one_value
