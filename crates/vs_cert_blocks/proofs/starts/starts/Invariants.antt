use Rattle.std.proofs.Common.{suc, ◌-◌}
use Rattle.vs_cert_blocks.specs.Early.{IsScanned}
use Rattle.vs_cert_blocks.specs.Starts.{AreStarts, IsJoin}
use Rattle.vs_cert_blocks.proofs.starts.starts.Given as goal

abbrev pub invariant-loop-back : goal.invariant-loop-back
invariant-loop-back l = record {
  scanned : IsScanned l.tables l.high (suc l.high - l.back) l.least l.seen;
  join : IsJoin l.tables l.seen l.join;
  starts : AreStarts l.tables l.starts;
}
