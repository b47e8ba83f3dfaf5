use Rattle.std.proofs.Common.{◌<◌, length, arith}
use Rattle.vs_elab_signals.proofs.CountingLemmas.{counts_at, count_most}
use Rattle.vs_elab_signals.proofs.counts.counted.Goals as goal

pub loop-name-preserved : goal.loop-name-preserved
loop-name-preserved c =
    counts_at c.args.names.now c.loop-name.name-index _ c.loop-name.counts c.bind.new.self c.count-before.result (omega arith) c.count-before.ensures c.in_ok-bind.ensures c.loop-name.invariant

pub overflow_add-before : goal.overflow_add-before
overflow_add-before c =
    let most : c.count-before.result < length c.args.names.now =
    count_most c.args.names.now c.loop-name.name-index _ c.loop-name.counts c.count-before.result c.count-before.ensures c.loop-name.invariant (omega arith) in
    omega arith
