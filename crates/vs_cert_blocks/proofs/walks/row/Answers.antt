use Rattle.std.proofs.Common.{sym, ◌∙◌, arith}
use Rattle.vs_cert_blocks.proofs.Gathered.{row_past, row_here}
use Rattle.vs_cert_blocks.proofs.walks.row.Goals as goal

pub returns-then-place-rows : goal.returns-then-place-rows
returns-then-place-rows c = sym (row_past c.args.rows.now c.args.place (omega arith))

pub returns : goal.returns
returns c = c.deref.ensures.value ∙ sym (row_here c.args.rows.now c.args.place c.index-rows-place.result (omega arith) c.index-rows-place.is)
