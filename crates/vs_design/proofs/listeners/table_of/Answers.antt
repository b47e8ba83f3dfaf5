use Rattle.std.proofs.Common.{◌∙◌, ap}
use Rattle.vs_design.specs.Tables.{rows, all_heard}
use Rattle.vs_design.proofs.Tables.{heard-next, heard-all}
use Rattle.vs_design.proofs.listeners.table_of.Goals as goal

pub loop-i-preserved : goal.loop-i-preserved
loop-i-preserved c =
    heard-next c.args.processes.now c.loop-i.i c.index-processes-i.result (rows c.loop-i.table.items) (rows c.note_all.new.table.items) _
    c.loop-i-test.true
    (c.in_ok-note_all.ensures ∙ ap (λ ts. all_heard c.loop-i.i ts (rows c.loop-i.table.items)) (c.deref.ensures.value ∙ c.in_ok-terms.ensures)) c.loop-i.invariant

pub returns : goal.returns
returns c =
    heard-all c.args.processes.now c.loop-i.i (rows c.loop-i.table.items) _ c.loop-i-test.false c.loop-i.invariant
