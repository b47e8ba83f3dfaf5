use Rattle.vs_elab_constants.proofs.SearchLemmas.{Numbers}
use Rattle.vs_elab_constants.proofs.finding.numbered.Given as goal

abbrev pub invariant-loop-number : goal.invariant-loop-number
invariant-loop-number l = Numbers l.list l.number l.numbers
