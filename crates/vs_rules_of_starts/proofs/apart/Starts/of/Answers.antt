use Rattle.vs_rules_of_starts.proofs.apart.Starts.of.Goals as goal

pub invariant_of-result : goal.invariant_of-result
invariant_of-result c = c.in_ok-apart.ensures.0
