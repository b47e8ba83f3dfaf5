use Rattle.std.proofs.Common.{◌∙◌, refl, ap}
use Rattle.vs_design.specs.Drivers.{driven_by, all_driven}
use Rattle.vs_design.proofs.LoopLemmas.{went_on, went_through}
use Rattle.vs_design.proofs.store.fill_all.Goals as goal

pub loop-assign-preserved : goal.loop-assign-preserved
loop-assign-preserved c =
    went_on all_driven (λ a words. driven_by a.target.parts.items words) (λ a assigns words. refl) c.args.assigns.now c.loop-assign.assign-index c.assign-item.result c.assign-item.result
    c.loop-assign.words.items c.fill_each.new.words.items _
    c.loop-assign-test.true c.assign-item.is (c.fill_each.ensures ∙ ap (λ aims. driven_by aims c.loop-assign.words.items) c.deref.ensures.value) c.loop-assign.invariant

pub returns : goal.returns
returns c =
    went_through all_driven (λ words. refl) c.args.assigns.now c.loop-assign.assign-index c.loop-assign.words.items _ c.loop-assign-test.false c.loop-assign.invariant
