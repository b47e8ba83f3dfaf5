use Rattle.vs_laws.proofs.Roots.{two_roots_keep_the_rules}
use Rattle.vs_laws.proofs.staggered.two_roots_keep_the_rules.Goals as goal

pub returns : goal.returns
returns c = two_roots_keep_the_rules
