use Rattle.vs_graph.proofs.RowLemmas.{all_next, all_done}
use Rattle.std.proofs.Common.{refl}
use Rattle.vs_graph.proofs.rows.Rows+usize.put_all.Goals as goal

pub loop-i-preserved : goal.loop-i-preserved
loop-i-preserved c =
    all_next c.args.number c.args.rows.now c.loop-i.i-index _ _ c.loop-i.self c.put.new.self _ c.loop-i-test.true refl c.in_ok-put.ensures c.loop-i.invariant

pub returns : goal.returns
returns c = all_done c.args.number c.args.rows.now c.loop-i.i-index c.loop-i.self _ c.loop-i-test.false c.loop-i.invariant
