use Rattle.std.proofs.Common.{◌++◌, ◌∷◌, [], map, refl, sym, append_assoc}
use Rattle.vs_design.specs.declared.range.BitRange.{BitRange}
use Rattle.vs_design.proofs.LoopLemmas.{went_on, images_pushed}
use Rattle.vs_maps.proofs.SignalLemmas.{images_put}
use Rattle.vs_maps.proofs.signals.push_signals.Goals as goal

pub loop-r-preserved : goal.loop-r-preserved
loop-r-preserved c =
    went_on (λ ys zs. zs ++ map (λ (r : BitRange). r.signal) ys) (λ y zs. zs ++ (λ (r : BitRange). r.signal) y ∷ [])
    (λ y ys zs. sym (append_assoc zs ((λ (r : BitRange). r.signal) y ∷ []) (map (λ (r : BitRange). r.signal) ys))) c.args.ranges.now c.loop-r.r-index _ _ c.loop-r.out.items c.push.new.self.items _
    c.loop-r-test.true refl c.in_ok-push.ensures.items c.loop-r.invariant

pub returns : goal.returns
returns c =
    images_put (λ (r : BitRange). r.signal) c.args.out.now.items c.loop-r.out.items c.args.ranges.now
    (images_pushed (λ (r : BitRange). r.signal) c.args.ranges.now c.loop-r.r-index c.loop-r.out.items _ c.loop-r-test.false c.loop-r.invariant)
