use Rattle.vs_elab_constants.proofs.NumberingLemmas.{AllTaken}
use Rattle.vs_elab_constants.proofs.numbering.free_zeros.Given as goal

-- the names with fewer zeros are all taken
abbrev pub invariant-loop-zeros : goal.invariant-loop-zeros
invariant-loop-zeros l = AllTaken l.limit l.zeros l.number l.own
