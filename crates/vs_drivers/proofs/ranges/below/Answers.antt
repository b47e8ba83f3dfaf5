use Rattle.std.proofs.Common.{ltb, ltb-false, ltb-true, arith, rules}
use Rattle.std.proofs.lemmas.List.Sorted.{IsPartitionPoint-from_clause, IsPartitionedBy-ltb}
use Rattle.vs_design.specs.declared.range.BitRange.{BitRange}
use Rattle.vs_drivers.proofs.ranges.below.Goals as goal

pub returns : goal.returns
returns c =
    let parted = IsPartitionedBy-ltb (λ (r : BitRange). r.signal) _ c.args.signal c.requires in
    let point = IsPartitionPoint-from_clause (λ (r : BitRange). ltb r.signal c.args.signal) _ _ c.partition_point.ensures.partitioned parted (λ a r q k. search rules) in
    record {
      few = c.partition_point.ensures.bound;
      before = λ k r h. ltb-true _ _ (point.0 k r (omega arith) h);
      others = λ k r h l. ltb-false _ _ (point.1 k r h l);
    }
