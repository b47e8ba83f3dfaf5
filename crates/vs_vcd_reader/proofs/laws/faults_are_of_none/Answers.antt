use Rattle.vs_vcd_reader.proofs.LawLemmas.{faults_of_none}
use Rattle.vs_vcd_reader.proofs.laws.faults_are_of_none.Goals as goal

pub returns : goal.returns
returns c = faults_of_none
