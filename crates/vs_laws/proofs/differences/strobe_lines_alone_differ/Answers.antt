use Rattle.vs_laws.proofs.Alone.{lines_differ}
use Rattle.vs_laws.proofs.differences.strobe_lines_alone_differ.Goals as goal

pub returns : goal.returns
returns c = lines_differ
