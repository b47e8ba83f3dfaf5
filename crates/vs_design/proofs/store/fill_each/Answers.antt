use Rattle.std.proofs.Common.{refl}
use Rattle.vs_design.specs.Drivers.{driven_at, driven_by}
use Rattle.vs_design.proofs.LoopLemmas.{went_on, went_through}
use Rattle.vs_design.proofs.store.fill_each.Goals as goal

pub loop-aim-preserved : goal.loop-aim-preserved
loop-aim-preserved c =
    went_on driven_by driven_at (λ a aims words. refl) c.args.aims.now c.loop-aim.aim-index c.aim-item.result c.aim-item.result c.loop-aim.words.items c.fill_x.new.words.items _
    c.loop-aim-test.true c.aim-item.is c.fill_x.ensures c.loop-aim.invariant

pub returns : goal.returns
returns c =
    went_through driven_by (λ words. refl) c.args.aims.now c.loop-aim.aim-index c.loop-aim.words.items _ c.loop-aim-test.false c.loop-aim.invariant
