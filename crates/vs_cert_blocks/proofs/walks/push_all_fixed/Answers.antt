use Rattle.vs_design.proofs.LoopLemmas.{each_pushed, all_pushed}
use Rattle.vs_cert_blocks.specs.Walks.{fixed_range}
use Rattle.vs_cert_blocks.proofs.walks.push_all_fixed.Goals as goal

pub loop-aim-preserved : goal.loop-aim-preserved
loop-aim-preserved c =
    each_pushed fixed_range c.args.aims.now c.loop-aim.aim-index c.aim-item.result c.loop-aim.out.items c.push_fixed.new.out.items _
    c.loop-aim-test.true c.aim-item.is c.in_ok-push_fixed.ensures c.loop-aim.invariant

pub returns : goal.returns
returns c = all_pushed fixed_range c.args.aims.now c.loop-aim.aim-index c.loop-aim.out.items _ c.loop-aim-test.false c.loop-aim.invariant
