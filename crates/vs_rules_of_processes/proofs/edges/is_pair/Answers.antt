use Rattle.std.proofs.Common.{refl}
use Rattle.vs_rules_of_processes.proofs.edges.is_pair.Goals as goal

pub returns : goal.returns
returns c = (λ t. (c.if-not-is_one_signal.ensures.0 refl, c.are_roots_apart.ensures.0 t), λ h. c.are_roots_apart.ensures.1 h.1)
