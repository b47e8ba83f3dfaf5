use Rattle.std.proofs.Common.{refl}
use Rattle.vs_design.specs.declared.range.BitRange.{BitRange}
use Rattle.vs_design.proofs.LoopLemmas.{went_on, went_through}
use Rattle.vs_graph.specs.Rows.{with_all, with_one}
use Rattle.vs_rules_of_processes.specs.Forward.{signals_of}
use Rattle.vs_rules_of_processes.proofs.forward.put_signals.Goals as goal

pub loop-range-preserved : goal.loop-range-preserved
loop-range-preserved c =
    went_on (λ ys table. with_all (signals_of ys) c.args.number table) (λ (x : BitRange) table. with_one x.signal c.args.number table) (λ x ys table. refl) c.args.ranges.now c.loop-range.range-index _ _
    c.loop-range.table c.put.new.self _ c.loop-range-test.true refl c.in_ok-put.ensures c.loop-range.invariant

pub returns : goal.returns
returns c =
    went_through (λ ys table. with_all (signals_of ys) c.args.number table) (λ table. refl) c.args.ranges.now c.loop-range.range-index c.loop-range.table _ c.loop-range-test.false c.loop-range.invariant
