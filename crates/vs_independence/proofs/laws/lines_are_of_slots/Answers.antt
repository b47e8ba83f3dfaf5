use Rattle.vs_independence.proofs.DisplayLines.{lines_are_of_slots}
use Rattle.vs_independence.proofs.laws.lines_are_of_slots.Goals as goal

pub returns : goal.returns
returns c = lines_are_of_slots
