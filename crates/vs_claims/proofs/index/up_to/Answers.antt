use Rattle.std.proofs.Common.{rules}
use Rattle.std.proofs.lemmas.List.Sorted.{IsPartitionPoint-from_clause}
use Rattle.std.specs.Cmp.Lexicographic.{slice_cmp}
use Rattle.std.specs.Ordering.{is_le, nat_cmp}
use Rattle.vs_claims.proofs.OrderLemmas.{says_up_to, parted_up_to}
use Rattle.vs_claims.specs.passes.Placed.{Placed}
use Rattle.vs_claims.proofs.index.up_to.Goals as goal

pub returns : goal.returns
returns c =
    let parted = parted_up_to c.args.sorted.now c.requires c.args.name.now in
    record {
      few = c.partition_point.ensures.bound;
      point = IsPartitionPoint-from_clause (λ (m : Placed). is_le (slice_cmp nat_cmp m.0.now c.args.name.now)) _ _ c.partition_point.ensures.partitioned parted (λ a r q k. search (rules, says_up_to));
    }
