use Rattle.vs_elaborate.proofs.NameLemmas.{all_printable}
use Rattle.vs_elaborate.proofs.printable.names_are_printable.Goals as goal

pub returns : goal.returns
returns c = λ source tokens a. all_printable a.spells
