use Rattle.vs_vcd_writing.specs.Text.{end_time}
use Rattle.vs_vcd_reader.proofs.WrittenLawLemmas.{values_ended, values_begun}
use Rattle.vs_vcd_reader.proofs.written_laws.dumps_give_values.Goals as goal

pub returns-clause-whole : goal.returns-clause-whole
returns-clause-whole c = λ d trace until time whole. values_ended d trace.slots (end_time trace until) time whole

pub returns-clause-begun : goal.returns-clause-begun
returns-clause-begun c = λ d slots time whole. values_begun d slots time whole
