use Rattle.std.proofs.Common.{arith}
use Rattle.vs_elab_constants.proofs.EarlyLemmas.{names_step}
use Rattle.vs_elab_constants.proofs.early.add_names.Goals as goal

pub loop-name-preserved : goal.loop-name-preserved
loop-name-preserved c =
    names_step c.args.list.now c.loop-name.name-index _ c.args.names.now c.loop-name.names c.add_first.new.names (omega arith) c.in_ok-add_first.ensures c.loop-name.invariant
