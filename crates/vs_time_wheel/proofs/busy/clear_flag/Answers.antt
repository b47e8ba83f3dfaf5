use Rattle.vs_time_wheel.proofs.Flags.{flag_at-clear}
use Rattle.vs_time_wheel.proofs.busy.clear_flag.Goals as goal

pub returns : goal.returns
returns c = flag_at-clear c.args.flags.now c.args.slot c.told-flags c.requires
