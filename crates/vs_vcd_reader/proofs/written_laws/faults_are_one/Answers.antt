use Rattle.vs_vcd_reader.proofs.OneFaultLemmas.{one_fault}
use Rattle.vs_vcd_reader.proofs.written_laws.faults_are_one.Goals as goal

pub returns : goal.returns
returns c = one_fault
