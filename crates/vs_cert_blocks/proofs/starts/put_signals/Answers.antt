use Rattle.std.proofs.Common.{refl}
use Rattle.vs_cert_blocks.proofs.StartLemmas.{put_more, put_same}
use Rattle.vs_cert_blocks.proofs.starts.put_signals.Goals as goal

pub loop-range-init : goal.loop-range-init
loop-range-init c = put_same c.args.starts.now c.args.starts.now c.args.seen.now c.args.place refl

pub loop-range-preserved : goal.loop-range-preserved
loop-range-preserved c = put_more c.args.starts.now c.loop-range.starts c.put_start.new.starts c.args.seen.now c.args.place c.loop-range.invariant c.in_ok-put_start.ensures
