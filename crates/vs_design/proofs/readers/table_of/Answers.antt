use Rattle.std.proofs.Common.{◌∙◌, ap}
use Rattle.vs_design.specs.Tables.{rows, all_noted}
use Rattle.vs_design.proofs.Tables.{tabled-next, tabled-all}
use Rattle.vs_design.proofs.readers.table_of.Goals as goal

pub loop-i-preserved : goal.loop-i-preserved
loop-i-preserved c =
    tabled-next c.args.assigns.now c.loop-i.i c.index-assigns-i.result (rows c.loop-i.table.items) (rows c.note_all.new.table.items) _
    c.loop-i-test.true
    (c.in_ok-note_all.ensures ∙ ap (λ rs. all_noted c.loop-i.i rs (rows c.loop-i.table.items)) (c.deref.ensures.value ∙ c.in_ok-ranges.ensures)) c.loop-i.invariant

pub returns : goal.returns
returns c =
    tabled-all c.args.assigns.now c.loop-i.i (rows c.loop-i.table.items) _ c.loop-i-test.false c.loop-i.invariant
