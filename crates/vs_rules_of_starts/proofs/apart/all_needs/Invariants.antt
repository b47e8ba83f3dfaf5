use Rattle.vs_rules_of_starts.proofs.StartLemmas.{AreNeedsBelow}
use Rattle.vs_rules_of_starts.proofs.apart.all_needs.Given as goal

abbrev pub invariant-loop-i : goal.invariant-loop-i
invariant-loop-i l = AreNeedsBelow l.facts.design l.facts.claims l.i l.all.items
