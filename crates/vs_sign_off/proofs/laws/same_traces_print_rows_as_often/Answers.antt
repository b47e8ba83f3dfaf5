use Rattle.vs_sign_off.proofs.StrobeLemmas.{same_traces_print_rows_as_often}
use Rattle.vs_sign_off.proofs.laws.same_traces_print_rows_as_often.Goals as goal

pub returns : goal.returns
returns c = same_traces_print_rows_as_often
