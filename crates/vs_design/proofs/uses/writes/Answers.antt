use Rattle.std.proofs.Common.{◌++◌, ◌∷◌, [], ◌∙◌, ap, map}
use Rattle.vs_design.specs.Uses.{aim_range}
use Rattle.vs_design.proofs.LoopLemmas.{image_pushed, images_pushed}
use Rattle.vs_design.proofs.uses.writes.Goals as goal

pub loop-aim-preserved : goal.loop-aim-preserved
loop-aim-preserved c =
    image_pushed aim_range c.deref-aim-items.result.now c.loop-aim.aim-index c.aim-item.result c.loop-aim.out.items c.push.new.self.items _
    c.loop-aim-test.true c.aim-item.is (c.in_ok-push.ensures.items ∙ ap (λ r. c.loop-aim.out.items ++ r ∷ []) c.aim_range.ensures) c.loop-aim.invariant

pub returns : goal.returns
returns c =
    images_pushed aim_range c.deref-aim-items.result.now c.loop-aim.aim-index c.loop-aim.out.items _ c.loop-aim-test.false c.loop-aim.invariant
    ∙ ap (map aim_range) c.deref-aim-items.ensures.value
