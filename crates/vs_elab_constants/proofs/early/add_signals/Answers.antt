use Rattle.vs_elab_constants.specs.passes.Early.{bound_by}
use Rattle.vs_elab_constants.proofs.EarlyLemmas.{adds_none, quiet_signals}
use Rattle.vs_elab_constants.proofs.early.add_signals.Goals as goal

pub returns-in_default : goal.returns-in_default
returns-in_default c = adds_none c.args.names.now _ (quiet_signals (bound_by c.args.signals) c.args.piece c.in_default.not-Plain c.in_default.not-Local c.in_default.not-Net)
