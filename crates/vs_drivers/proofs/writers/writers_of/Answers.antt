use Rattle.std.proofs.Common.{◌∙◌, ap, arith}
use Rattle.vs_drivers.specs.Walks.{all_noted}
use Rattle.vs_drivers.proofs.Tables.{has_more, has_all}
use Rattle.vs_drivers.proofs.writers.writers_of.Goals as goal

pub loop-n-preserved : goal.loop-n-preserved
loop-n-preserved c =
    has_more c.args.wires.now c.loop-n.n c.loop-n.table c.note_all.new.table c.in_ok-ranges.ranges.items
    (c.in_ok-note_all.ensures ∙ ap (λ rs. all_noted c.loop-n.n rs c.loop-n.table) c.deref.ensures.value) c.in_ok-ranges.ensures c.loop-n.invariant

pub returns : goal.returns
returns c = has_all c.args.wires.now c.loop-n.n c.loop-n.table (omega (arith, c.count-n-end.ensures, c.loop-n-test.false)) c.loop-n.invariant
