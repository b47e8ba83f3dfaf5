use Rattle.std.proofs.Common.{rules}
use Rattle.std.proofs.lemmas.List.Sorted.{Contains-permutation, IsNonDecreasingBy-from_sort_by_key, IsPermutation-sym}
use Rattle.vs_design.specs.declared.range.BitRange.{BitRange}
use Rattle.vs_drivers.proofs.ranges.BySignal.of.Goals as goal

pub invariant_of-result : goal.invariant_of-result
invariant_of-result c = IsNonDecreasingBy-from_sort_by_key (λ (r : BitRange). r.signal) _ c.sort_unstable_by_key.ensures.sorted (λ a r q k. search rules)

pub returns : goal.returns
returns c r =
    let moved = c.sort_unstable_by_key.ensures.permutation in
    (λ h. Contains-permutation _ _ r (IsPermutation-sym _ _ moved) h, λ h. Contains-permutation _ _ r moved h)
