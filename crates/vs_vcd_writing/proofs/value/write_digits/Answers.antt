use Rattle.std.proofs.Common.{◌-◌, arith}
use Rattle.vs_vcd_writing.proofs.DigitLemmas.{eight_more}
use Rattle.vs_vcd_writing.proofs.value.write_digits.Goals as goal

pub loop-done-preserved : goal.loop-done-preserved
loop-done-preserved c = record {
  whole = omega arith;
  most = omega arith;
  written = eight_more c.loop-done.room c.eight_digits.result c.args.value c.args.unknown (57 - c.loop-done.done) c.loop-done.done (omega arith) c.eight_digits.ensures.long (omega arith) c.loop-done.invariant.written c.eight_digits.ensures.digits;
}
