use Rattle.std.proofs.Common.{◌↔◌, sym, subst, arith}
use Rattle.std.specs.List.{Contains}
use Rattle.vs_graph.proofs.RowLemmas.{none_yet, one_more, rows_done, into_empty}
use Rattle.vs_graph.proofs.rows.index_of.Goals as goal

pub loop-i-init : goal.loop-i-init
loop-i-init g c = none_yet (g.F.Family.has c.args.family.now) c.args.n c.in_ok-table.table c.in_ok-table.ensures

pub loop-i-preserved : goal.loop-i-preserved
loop-i-preserved g c =
    one_more (g.F.Family.has c.args.family.now) c.loop-i.i c.args.n c.loop-i.table c.put_all.new.self c.deref.result.now c.loop-i.invariant c.in_ok-put_all.ensures
    (λ r. subst (λ l. (Contains l r ↔ g.F.Family.has c.args.family.now c.loop-i.i r)) (sym c.deref.ensures.value)
    (into_empty (g.F.Family.has c.args.family.now c.loop-i.i) c.clear.new.self.items c.put.new.out.items c.clear.ensures.items r (c.in_ok-put.ensures r)))

pub returns-clause-len : goal.returns-clause-len
returns-clause-len g c = c.loop-i.invariant.long

pub returns-clause-exact : goal.returns-clause-exact
returns-clause-exact g c =
    rows_done (g.F.Family.has c.args.family.now) c.loop-i.i c.args.m c.args.n c.loop-i.table (omega (arith, c.loop-i-test.false, c.loop-i.auto.i-end)) c.loop-i.invariant
