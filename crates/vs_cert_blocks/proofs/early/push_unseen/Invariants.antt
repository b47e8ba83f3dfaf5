use Rattle.std.proofs.Common.{◌⊎◌}
use Rattle.std.specs.List.{Contains}
use Rattle.vs_design.specs.declared.range.BitRange.{BitRange}
use Rattle.vs_cert_blocks.specs.Early.{IsUnseen}
use Rattle.vs_cert_blocks.proofs.early.push_unseen.Given as goal

abbrev pub invariant-loop-range : goal.invariant-loop-range
invariant-loop-range l = (r : BitRange) → Contains l.out.items r → (Contains l.fn.out.items r ⊎ IsUnseen l.ranges l.seen r)
