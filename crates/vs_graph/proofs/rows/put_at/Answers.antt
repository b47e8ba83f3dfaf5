use Rattle.std.proofs.Common.{refl}
use Rattle.std.proofs.lemmas.Option.{slice_get_past, slice_get_read}
use Rattle.vs_graph.proofs.RowLemmas.{rows_changed, rows_past}
use Rattle.vs_graph.proofs.rows.put_at.Goals as goal

pub returns-in_ok-push : goal.returns-in_ok-push
returns-in_ok-push g c =
    rows_changed c.args.i c.args.thing c.args.table.now.items c.in-Some.row.now c.push.new.self
    (slice_get_read _ _ _ _ refl c.in-Some.ensures.item.3.0 c.in-Some.ensures.item.1) c.in_ok-push.ensures.items

pub returns-in_default : goal.returns-in_default
returns-in_default g c = rows_past c.args.i c.args.thing c.args.table.now.items (slice_get_past _ _ c.in_default.ensures.item.3)
