use Rattle.std.proofs.Common.{◌∙◌, refl}
use Rattle.std.proofs.lemmas.Option.{slice_get_read}
use Rattle.vs_graph.proofs.RowLemmas.{row_here, row_past}
use Rattle.vs_graph.proofs.rows.row_of.Goals as goal

pub returns-then-i-table : goal.returns-then-i-table
returns-then-i-table g c =
    c.deref.ensures.value ∙ row_here c.args.i c.args.table.now c.index-table-i.result (slice_get_read _ _ _ _ refl c.if-i-table.true c.index-table-i.is)

pub returns-else-i-table : goal.returns-else-i-table
returns-else-i-table g c = row_past c.args.i c.args.table.now c.if-i-table.false
