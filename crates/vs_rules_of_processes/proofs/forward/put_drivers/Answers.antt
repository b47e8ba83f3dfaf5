use Rattle.std.proofs.Common.{refl}
use Rattle.vs_drivers.specs.declared.writers.Written.{Written}
use Rattle.vs_design.proofs.LoopLemmas.{went_on, went_through}
use Rattle.vs_graph.specs.Rows.{with_all, with_one}
use Rattle.vs_rules_of_processes.specs.Forward.{drivers_of}
use Rattle.vs_rules_of_processes.proofs.forward.put_drivers.Goals as goal

pub loop-written-preserved : goal.loop-written-preserved
loop-written-preserved c =
    went_on (λ ys table. with_all (drivers_of ys) c.args.number table) (λ (x : Written) table. with_one x.driver c.args.number table) (λ x ys table. refl) c.args.row.now c.loop-written.written-index _ _
    c.loop-written.table c.put.new.self _ c.loop-written-test.true refl c.in_ok-put.ensures c.loop-written.invariant

pub returns : goal.returns
returns c =
    went_through (λ ys table. with_all (drivers_of ys) c.args.number table) (λ table. refl) c.args.row.now c.loop-written.written-index c.loop-written.table _ c.loop-written-test.false c.loop-written.invariant
