use Rattle.std.proofs.Common.{List, ◌∙◌, ◌+◌, ap, drop}
use Rattle.vs_design.specs.vs_logic4.specs.declared.digit.Digit.{Digit}
use Rattle.vs_vcd_reader.specs.Layout.{written}
use Rattle.vs_sign_off.proofs.ValueLemmas.{change_more, changes_done}
use Rattle.vs_sign_off.proofs.values.put_changes.Goals as goal

pub loop-change-preserved : goal.loop-change-preserved
loop-change-preserved c =
    ap (λ (v : List (List Digit)). written v (drop (c.loop-change.change-index + 1) c.args.changes.now)) c.put_change.ensures
    ∙ change_more c.loop-change.values.items c.args.changes.now c.loop-change.change-index c.change-item.result _ c.loop-change-test.true
    c.change-item.is c.loop-change.invariant

pub returns : goal.returns
returns c = changes_done c.loop-change.values.items c.args.changes.now c.loop-change.change-index _ c.loop-change-test.false c.loop-change.invariant
