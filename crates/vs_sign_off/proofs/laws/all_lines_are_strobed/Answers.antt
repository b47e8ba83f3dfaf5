use Rattle.vs_sign_off.proofs.StrobeLemmas.{all_lines_are_strobed}
use Rattle.vs_sign_off.proofs.laws.all_lines_are_strobed.Goals as goal

pub returns : goal.returns
returns c = all_lines_are_strobed
