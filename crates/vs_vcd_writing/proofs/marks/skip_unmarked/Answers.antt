use Rattle.std.proofs.Common.{arith}
use Rattle.vs_vcd_writing.proofs.MarkLemmas.{four_more}
use Rattle.vs_vcd_writing.proofs.marks.skip_unmarked.Goals as goal

pub loop-word-preserved : goal.loop-word-preserved
loop-word-preserved c = record {
  order = omega arith;
  most = omega arith;
  unmarked = four_more c.args.marks.now c.args.from c.loop-word.word c.if-bits-ne0.false c.loop-word.invariant.unmarked;
}
