use Rattle.vs_rules_of_starts.specs.Beginnings.{GivesAim}
use Rattle.vs_rules_of_starts.proofs.BeginningLemmas.{NoneBelow}
use Rattle.vs_rules_of_starts.proofs.begins.gives_named.Given as goal

abbrev pub invariant-loop-aim : goal.invariant-loop-aim
invariant-loop-aim l = NoneBelow (GivesAim l.design l.named l.target l.value l.g l.width) l.target.parts.items l.aim-index
