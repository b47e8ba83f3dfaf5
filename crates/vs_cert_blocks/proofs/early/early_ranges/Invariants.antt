use Rattle.std.proofs.Common.{suc, ◌-◌}
use Rattle.vs_cert_blocks.specs.Early.{AreEarly, IsScanned}
use Rattle.vs_cert_blocks.proofs.early.early_ranges.Given as goal

abbrev pub invariant-loop-back : goal.invariant-loop-back
invariant-loop-back l = IsScanned l.tables l.high (suc l.high - l.back) l.least l.seen × AreEarly l.tables l.out.items
