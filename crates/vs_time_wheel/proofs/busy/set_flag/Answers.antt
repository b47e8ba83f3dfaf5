use Rattle.vs_time_wheel.proofs.Flags.{flag_at-set}
use Rattle.vs_time_wheel.proofs.busy.set_flag.Goals as goal

pub returns : goal.returns
returns c = flag_at-set c.args.flags.now c.args.slot c.told-flags c.requires
