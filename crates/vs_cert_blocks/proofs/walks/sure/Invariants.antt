use Rattle.std.proofs.Common.{ℕ, ◌<◌}
use Rattle.std.specs.List.{Contains}
use Rattle.vs_design.specs.declared.range.BitRange.{BitRange}
use Rattle.vs_cert_blocks.specs.Walks.{sure_at}
use Rattle.vs_cert_blocks.proofs.walks.sure.Given as goal

abbrev pub invariant-loop-p : goal.invariant-loop-p
invariant-loop-p l = (k : ℕ) (r : BitRange) → k < l.p → Contains (sure_at l.tables k) r → Contains l.out.items r
