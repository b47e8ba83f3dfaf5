use Rattle.std.proofs.Common.{◌++◌, ◌∙◌, ap}
use Rattle.vs_design.specs.Uses.{reads}
use Rattle.vs_design.proofs.LoopLemmas.{each_pushed, all_pushed}
use Rattle.vs_maps.proofs.ranges.push_label_reads.Goals as goal

pub loop-e-preserved : goal.loop-e-preserved
loop-e-preserved c =
    each_pushed reads c.args.labels.now c.loop-e.e-index c.e-item.result c.loop-e.out.items c.extend_from_slice.new.self.items _
    c.loop-e-test.true c.e-item.is (c.in_ok-extend_from_slice.ensures.items ∙ ap (λ rs. c.loop-e.out.items ++ rs) (c.deref.ensures.value ∙ c.in_ok-ranges.ensures)) c.loop-e.invariant

pub returns : goal.returns
returns c = all_pushed reads c.args.labels.now c.loop-e.e-index c.loop-e.out.items _ c.loop-e-test.false c.loop-e.invariant
