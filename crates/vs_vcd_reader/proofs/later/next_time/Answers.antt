use Rattle.vs_vcd_reader.proofs.NoneLemmas.{early_time}
use Rattle.vs_vcd_reader.proofs.later.next_time.Goals as goal

pub returns-else-time-last : goal.returns-else-time-last
returns-else-time-last c =
    (early_time c.args.line.now c.args.last c.in-Some.time c.args.bare c.in-Some.ensures c.if-time-last.false, c.body_fault-else-time-last.ensures)
