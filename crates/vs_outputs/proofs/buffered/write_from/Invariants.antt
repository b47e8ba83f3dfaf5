use Rattle.std.proofs.Common.{◌-◌, ◌≤◌, length, drop}
use Rattle.std.specs.Io.KnownBytes.{Keeps, append_known}
use Rattle.vs_outputs.proofs.buffered.write_from.Given as goal

abbrev pub invariant-loop-written : goal.invariant-loop-written
invariant-loop-written g l = record {
  bytes : Keeps (append_known (g.W.Write.contents l.initial.writer) (drop l.from l.bytes)) (append_known (g.W.Write.contents l.writer) (drop l.written l.bytes));
  bound : l.from ≤ length l.bytes → l.written ≤ length l.bytes;
}

abbrev pub decreases-loop-written : goal.decreases-loop-written
decreases-loop-written g l = length l.bytes - l.written
