use Rattle.vs_outputs.proofs.Buffers.{moved, within}
use Rattle.vs_outputs.proofs.buffered.write_from.Goals as goal

pub loop-written-preserved : goal.loop-written-preserved
loop-written-preserved g c = record {
  bytes = moved _ _ _ c.args.bytes.now c.args.from c.loop-written.written c.in-Ok.taken c.loop-written.invariant.bytes c.in-Ok.ensures.bytes;
  bound = λ h. within c.args.bytes.now c.loop-written.written c.in-Ok.taken (c.loop-written.invariant.bound h) c.in-Ok.ensures.bound;
}
