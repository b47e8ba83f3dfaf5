use Rattle.vs_rules_of_processes.proofs.Shifts.{mod_both}
use Rattle.vs_rules_of_processes.proofs.residues.shifted.Goals as goal

pub returns : goal.returns
returns c = mod_both c.args.r c.args.ticks c.args.modulus
