use Rattle.std.proofs.Common.{arith}
use Rattle.vs_process.specs.Stops.{statement_view}
use Rattle.vs_cert_blocks.proofs.Gathered.{sure_more, sure_all}
use Rattle.vs_cert_blocks.proofs.walks.sure.Goals as goal

pub loop-p-preserved : goal.loop-p-preserved
loop-p-preserved c = sure_more c.args.tables.now c.loop-p.p c.loop-p.out.items c.push_sure.new.out.items (statement_view c.statement.result) c.statement.ensures c.in_ok-push_sure.ensures c.loop-p.invariant

pub returns : goal.returns
returns c = sure_all c.args.tables.now c.loop-p.p c.loop-p.out.items (omega arith) c.loop-p.invariant
