use Rattle.std.proofs.Common.{leb, leb-false, leb-true, arith, rules}
use Rattle.std.proofs.lemmas.List.Sorted.{IsPartitionPoint-from_clause, IsPartitionedBy-leb}
use Rattle.vs_design.specs.declared.range.BitRange.{BitRange}
use Rattle.vs_drivers.proofs.ranges.up_to.Goals as goal

pub returns : goal.returns
returns c =
    let parted = IsPartitionedBy-leb (λ (r : BitRange). r.signal) _ c.args.signal c.requires in
    let point = IsPartitionPoint-from_clause (λ (r : BitRange). leb r.signal c.args.signal) _ _ c.partition_point.ensures.partitioned parted (λ a r q k. search rules) in
    record {
      few = c.partition_point.ensures.bound;
      up_to = λ k r h. leb-true _ _ (point.0 k r (omega arith) h);
      others = λ k r h l. leb-false _ _ (point.1 k r h l);
    }
