use Rattle.std.proofs.Common.{◌++◌, ◌∙◌, ap}
use Rattle.vs_design.proofs.LoopLemmas.{each_pushed, all_pushed}
use Rattle.vs_design.specs.Statements.{all_reads}
use Rattle.vs_rules.specs.vs_process.specs.Threads.{item_reads}
use Rattle.vs_maps.proofs.ranges.case_reads.Goals as goal

pub loop-labels-preserved : goal.loop-labels-preserved
loop-labels-preserved c =
    each_pushed item_reads c.args.items.now c.loop-labels.labels-index c.loop-labels-item.result c.loop-labels.out.items c.push_label_reads.new.out.items _
    c.loop-labels-test.true c.loop-labels-item.is (c.in_ok-push_label_reads.ensures ∙ ap (λ es. c.loop-labels.out.items ++ all_reads es) c.deref.ensures.value) c.loop-labels.invariant

pub returns : goal.returns
returns c = all_pushed item_reads c.args.items.now c.loop-labels.labels-index c.loop-labels.out.items _ c.loop-labels-test.false c.loop-labels.invariant
