use Rattle.std.proofs.Common.{rules}
use Rattle.std.proofs.lemmas.List.Sorted.{IsPartitionPoint-from_clause}
use Rattle.vs_claims.proofs.OrderLemmas.{lt, says_below, parted_below}
use Rattle.vs_claims.specs.passes.Placed.{Placed}
use Rattle.vs_claims.proofs.index.below.Goals as goal

pub returns : goal.returns
returns c =
    let parted = parted_below c.args.sorted.now c.requires c.args.name.now in
    record {
      few = c.partition_point.ensures.bound;
      point = IsPartitionPoint-from_clause (λ (m : Placed). lt m.0.now c.args.name.now) _ _ c.partition_point.ensures.partitioned parted (λ a r q k. search (rules, says_below));
    }
