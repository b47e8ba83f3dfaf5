use Rattle.std.proofs.Common.{arith}
use Rattle.vs_process.proofs.SpotLemmas.{mask_grows}
use Rattle.vs_process.proofs.spots.mask_of.Goals as goal

pub overflow_sub-result-else-shift-width-gt63 : goal.overflow_sub-result-else-shift-width-gt63
overflow_sub-result-else-shift-width-gt63 c = mask_grows c.args.shift c.args.width (omega (arith, c.if-shift-width-gt63.false))
