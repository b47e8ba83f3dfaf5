use Rattle.vs_rules_of_processes.proofs.ReadingLemmas.{readings_are_by_places}
use Rattle.vs_rules_of_processes.proofs.laws.readings_are_by_places.Goals as goal

pub returns : goal.returns
returns c = readings_are_by_places
