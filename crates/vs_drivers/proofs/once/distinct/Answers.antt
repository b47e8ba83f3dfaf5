use Rattle.std.proofs.Common.{rules, sym, subst, List}
use Rattle.std.specs.List.{Contains, dedup}
use Rattle.std.proofs.lemmas.Fn.{dedup_same}
use Rattle.std.proofs.lemmas.List.Kept.{Contains-dedup, Contains-from_dedup}
use Rattle.std.proofs.lemmas.List.Sorted.{Contains-permutation, IsPermutation-sym}
use Rattle.vs_design.specs.declared.range.BitRange.{BitRange}
use Rattle.vs_drivers.specs.Same.{same_range}
use Rattle.vs_drivers.proofs.DistinctLemmas.{same_equivalence, same_is}
use Rattle.vs_drivers.proofs.once.distinct.Goals as goal

pub returns : goal.returns
returns c r =
    let moved = c.sort_unstable_by_key.ensures.permutation in
    let is = dedup_same _ same_range _ (λ x y b f' x' y' k. search rules) _ _ c.dedup_by.ensures.filtered in (
      λ h. Contains-permutation _ _ r (IsPermutation-sym _ _ moved) (Contains-from_dedup same_range _ r (subst (λ (l : List BitRange). Contains l r) is h)),
      λ h. subst (λ (l : List BitRange). Contains l r) (sym is) (Contains-dedup same_equivalence same_is _ r (Contains-permutation _ _ r moved h)),
    )
