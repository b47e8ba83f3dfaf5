use Rattle.vs_laws.proofs.Lines.{formed, seen}
use Rattle.vs_laws.proofs.disciplined.lines_are_seen.Goals as goal

pub returns : goal.returns
returns c = λ g grain. (formed g, seen g grain)
