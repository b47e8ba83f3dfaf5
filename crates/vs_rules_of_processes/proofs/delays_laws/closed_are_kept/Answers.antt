use Rattle.vs_rules_of_processes.proofs.Kept.{closed_are_kept}
use Rattle.vs_rules_of_processes.proofs.delays_laws.closed_are_kept.Goals as goal

pub returns : goal.returns
returns c = closed_are_kept
