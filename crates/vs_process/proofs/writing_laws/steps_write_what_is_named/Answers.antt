use Rattle.vs_process.proofs.Named.{begun, left, updated, written}
use Rattle.vs_process.proofs.writing_laws.steps_write_what_is_named.Goals as goal

pub returns : goal.returns
returns c = record { written = written; updated = updated; left = left; begun = begun }
