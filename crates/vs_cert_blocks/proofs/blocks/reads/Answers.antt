use Rattle.std.proofs.Common.{arith}
use Rattle.vs_cert_blocks.proofs.Gathered.{rows_long, rows_more, rows_all}
use Rattle.vs_cert_blocks.proofs.blocks.reads.Goals as goal

pub loop-place-preserved : goal.loop-place-preserved
loop-place-preserved c = record {
  long = rows_long c.loop-place.rows.items c.push.new.self.items c.in_ok-row.row c.loop-place.place c.loop-place.invariant.long c.in_ok-push.ensures.items;
  are = rows_more c.args.tables.now c.loop-place.rows.items c.push.new.self.items c.in_ok-row.row c.loop-place.place c.loop-place.invariant.long
      c.in_ok-push.ensures.items c.in_ok-row.ensures c.loop-place.invariant.are;
}

pub returns : goal.returns
returns c = rows_all c.args.tables.now c.loop-place.rows.items c.loop-place.place (omega (arith, c.places-place-end.ensures)) c.loop-place.invariant.long c.loop-place.invariant.are
