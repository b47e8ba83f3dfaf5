use Rattle.std.proofs.lemmas.List.Filters.{dedup_is}
use Rattle.std.proofs.lemmas.List.Kept.{Contains-dedup_nat, Contains-from_dedup}
use Rattle.std.proofs.lemmas.List.Sorted.{Contains-permutation, IsPermutation-sym}
use Rattle.vs_claims.specs.vs_maps.specs.Ranges.{HasSignal}
use Rattle.vs_graph.proofs.RowLemmas.{into_empty}
use Rattle.vs_cert_blocks.proofs.blocks.signals_of.Goals as goal

pub returns : goal.returns
returns c v =
    let is = dedup_is _ _ _ c.dedup.ensures.filtered in
    let moved = c.sort_unstable.ensures.permutation in
    let of = into_empty (HasSignal c.args.ranges.now) c.new-signals.result.items c.push_signals.new.out.items c.new-signals.ensures.items v (c.in_ok-push_signals.ensures v) in (
      λ h. of.0 (Contains-permutation _ _ v (IsPermutation-sym _ _ moved) (Contains-from_dedup _ _ v (rw is at h))),
      λ h. rw is (Contains-dedup_nat _ v (Contains-permutation _ _ v moved (of.1 h))),
    )
