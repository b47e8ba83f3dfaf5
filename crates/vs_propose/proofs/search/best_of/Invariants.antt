use Rattle.vs_propose.specs.Proposals.{MayBeProposalBy}
use Rattle.vs_propose.proofs.search.best_of.Given as goal

abbrev pub invariant-loop-modulus : goal.invariant-loop-modulus
invariant-loop-modulus l = MayBeProposalBy l.rules l.design l.grain l.best
