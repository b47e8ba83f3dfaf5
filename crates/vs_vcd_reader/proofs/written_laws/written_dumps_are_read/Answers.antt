use Rattle.vs_vcd_writing.specs.Text.{vcd_text, end_time}
use Rattle.vs_vcd_reader.specs.Plain.{plain_dump}
use Rattle.vs_vcd_reader.proofs.LawLemmas.{dumps_once}
use Rattle.vs_vcd_reader.specs.Said.{dump_of}
use Rattle.vs_vcd_reader.proofs.WrittenLawLemmas.{layout_ended, layout_begun, no_fault}
use Rattle.vs_vcd_reader.proofs.written_laws.written_dumps_are_read.Goals as goal

pub returns-clause-whole : goal.returns-clause-whole
returns-clause-whole c = λ d trace until outlined whole ended. layout_ended d trace.slots (end_time trace until) outlined whole ended

pub returns-clause-begun : goal.returns-clause-begun
returns-clause-begun c = λ d slots outlined whole. layout_begun d slots outlined whole

pub returns-clause-alone : goal.returns-clause-alone
returns-clause-alone c = λ d trace until outlined whole ended.
    let is = layout_ended d trace.slots (end_time trace until) outlined whole ended in (
      λ x h. dumps_once (vcd_text d trace until) (plain_dump x) (dump_of d trace until) h is,
      λ fault h. no_fault (vcd_text d trace until) fault (dump_of d trace until) is h,
    )
