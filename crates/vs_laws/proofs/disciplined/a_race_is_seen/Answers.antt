use Rattle.vs_laws.proofs.Race.{formed, race}
use Rattle.vs_laws.proofs.disciplined.a_race_is_seen.Goals as goal

pub returns : goal.returns
returns c = λ g grain. (formed g, race g grain)
