use Rattle.std.proofs.Common.{◌++◌, ◌∙◌, ap, map}
use Rattle.vs_design.specs.Uses.{aim_reads, joined}
use Rattle.vs_design.proofs.LoopLemmas.{each_pushed, all_pushed}
use Rattle.vs_design.proofs.uses.push_target_reads.Goals as goal

pub loop-aim-preserved : goal.loop-aim-preserved
loop-aim-preserved c =
    each_pushed aim_reads c.deref-aim-items.result.now c.loop-aim.aim-index c.aim-item.result c.loop-aim.out.items c.push_aim_reads.new.out.items _
    c.loop-aim-test.true c.aim-item.is c.in_ok-push_aim_reads.ensures c.loop-aim.invariant

pub returns : goal.returns
returns c =
    all_pushed aim_reads c.deref-aim-items.result.now c.loop-aim.aim-index c.loop-aim.out.items _ c.loop-aim-test.false c.loop-aim.invariant
    ∙ ap (λ aims. c.args.out.now.items ++ joined (map aim_reads aims)) c.deref-aim-items.ensures.value
