use Rattle.std.proofs.Common.{ℕ, List, ◌↔◌, sym, ◌∙◌, subst, arith}
use Rattle.std.specs.List.{Contains}
use Rattle.vs_graph.specs.Clear.{AreClear}
use Rattle.vs_graph.specs.Rows.{AreRows}
use Rattle.vs_maps.specs.Walks.{IsBefore}
use Rattle.vs_graph.proofs.RowLemmas.{none_yet, one_more, rows_done}
use Rattle.vs_maps.proofs.walks.rows_before.Goals as goal

pub loop-q-init : goal.loop-q-init
loop-q-init g c = record {
  rows = none_yet (IsBefore c.args.tables.now c.args.along (g.R.Rule.keeps c.args.rule.now)) c.places-count.result c.in_ok-table.table c.in_ok-table.ensures;
  clear = subst (λ (n : ℕ). AreClear n c.in_ok-marks.marks.items) c.places-count.ensures c.in_ok-marks.ensures;
}

pub loop-q-preserved : goal.loop-q-preserved
loop-q-preserved g c = record {
  rows = one_more (IsBefore c.args.tables.now c.args.along (g.R.Rule.keeps c.args.rule.now)) c.loop-q.q c.places-count.result c.loop-q.table c.put_all.new.self c.deref.result.now
      c.loop-q.invariant.rows c.in_ok-put_all.ensures
      (λ p. subst (λ (l : List ℕ). (Contains l p ↔ IsBefore c.args.tables.now c.args.along (g.R.Rule.keeps c.args.rule.now) c.loop-q.q p)) (sym c.deref.ensures.value) (c.in_ok-after.ensures.exact p));
  clear = c.in_ok-after.ensures.clear;
}

pub returns-clause-len : goal.returns-clause-len
returns-clause-len g c = c.loop-q.invariant.rows.long ∙ c.places-count.ensures

pub returns-clause-exact : goal.returns-clause-exact
returns-clause-exact g c =
    subst (λ (n : ℕ). AreRows (IsBefore c.args.tables.now c.args.along (g.R.Rule.keeps c.args.rule.now)) n n c.loop-q.table) c.places-count.ensures
    (rows_done (IsBefore c.args.tables.now c.args.along (g.R.Rule.keeps c.args.rule.now)) c.loop-q.q c.places-count.result c.places-count.result c.loop-q.table
    (omega (arith, c.loop-q-test.false, c.loop-q.auto.q-end)) c.loop-q.invariant.rows)
