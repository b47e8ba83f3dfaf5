use Rattle.std.proofs.Common.{◌∷◌, [], ◌++◌, map, refl, sym, append_assoc}
use Rattle.vs_design.specs.declared.range.BitRange.{BitRange}
use Rattle.vs_design.proofs.LoopLemmas.{images_pushed, went_on}
use Rattle.vs_maps.specs.Sites.{site_of}
use Rattle.vs_maps.proofs.sites.push_ranges.Goals as goal

pub loop-range-preserved : goal.loop-range-preserved
loop-range-preserved c =
    let f = site_of c.args.process c.args.place c.args.usage in
    went_on (λ ys out. out ++ map f ys) (λ (x : BitRange) out. out ++ f x ∷ []) (λ x ys out. sym (append_assoc out (f x ∷ []) (map f ys)))
    c.args.ranges.now c.loop-range.range-index _ _ c.loop-range.sites.items c.push.new.self.items _ c.loop-range-test.true refl c.in_ok-push.ensures.items c.loop-range.invariant

pub returns : goal.returns
returns c = images_pushed (site_of c.args.process c.args.place c.args.usage) c.args.ranges.now c.loop-range.range-index c.loop-range.sites.items _ c.loop-range-test.false c.loop-range.invariant
