use Rattle.vs_elab_constants.proofs.EarlyLemmas.{unsized_is}
use Rattle.vs_elab_constants.proofs.early.unsized_signal.Goals as goal

pub returns : goal.returns
returns c = unsized_is c.args.kind _ _
