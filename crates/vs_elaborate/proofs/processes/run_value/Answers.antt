use Rattle.std.proofs.Common.{refl}
use Rattle.vs_elab_statements.specs.Members.{named_signal, sets}
use Rattle.vs_elaborate.proofs.processes.run_value.Goals as goal

pub returns : goal.returns
returns c envs s f =
    c.run.ensures envs s (sets (record { target = named_signal c.args.name.now; value = c.args.value.now })) f refl (c.set_body-body.ensures.answer envs s.path f.view)
