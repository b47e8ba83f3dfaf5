use Rattle.std.proofs.Common.{arith}
use Rattle.vs_rules_of_processes.proofs.forward.reached.Goals as goal

pub reach-requires : goal.reach-requires
reach-requires c s h = let l = c.requires.seeds s h in omega (arith, l)
