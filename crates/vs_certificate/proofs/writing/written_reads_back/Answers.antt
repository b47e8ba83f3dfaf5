use Rattle.vs_certificate.proofs.Law.{reads_back}
use Rattle.vs_certificate.proofs.writing.written_reads_back.Goals as goal

pub returns : goal.returns
returns c = reads_back
