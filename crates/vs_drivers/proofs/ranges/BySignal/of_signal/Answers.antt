use Rattle.std.proofs.Common.{◌-◌, List, drop, length, refl, sym, take, ◌∙◌, subst}
use Rattle.std.specs.List.Sorted.{IsNonDecreasingBy}
use Rattle.std.proofs.lemmas.List.{take_rest}
use Rattle.std.proofs.lemmas.List.Sorted.{IsNonDecreasingBy-drop, IsNonDecreasingBy-take}
use Rattle.vs_design.specs.declared.range.BitRange.{BitRange}
use Rattle.vs_drivers.proofs.SignalLemmas.{part_of}
use Rattle.vs_drivers.proofs.ranges.BySignal.of_signal.Goals as goal

pub below-first-requires : goal.below-first-requires
below-first-requires c =
    subst (λ (l : List BitRange). IsNonDecreasingBy (λ (r : BitRange). r.signal) l) (sym c.as_slice-all.ensures.value) c.self.invariant

pub up_to-end-requires : goal.up_to-end-requires
up_to-end-requires c =
    let all = c.as_slice-all.result.now in
    let first = c.below-first.result in
    IsNonDecreasingBy-take (λ (r : BitRange). r.signal) (length all - first) (drop first all) (IsNonDecreasingBy-drop (λ (r : BitRange). r.signal) first all
    (subst (λ (l : List BitRange). IsNonDecreasingBy (λ (r : BitRange). r.signal) l) (sym c.as_slice-all.ensures.value) c.self.invariant))

pub returns : goal.returns
returns c =
    let all = c.as_slice-all.result.now in
    let first = c.below-first.result in
    let end = c.up_to-end.result in
    let rest = take (length all - first) (drop first all) in
    part_of all c.args.self.now rest (take end rest) c.args.signal first end (c.as_slice-all.ensures.value ∙ c.self.view_is) c.below-first.ensures (take_rest all first)
    c.up_to-end.ensures refl
