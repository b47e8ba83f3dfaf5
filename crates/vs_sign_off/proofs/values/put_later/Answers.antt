use Rattle.std.proofs.Common.{List, ◌∙◌, ◌+◌, ap, drop, map}
use Rattle.vs_design.specs.vs_logic4.specs.declared.digit.Digit.{Digit}
use Rattle.vs_vcd_reader.specs.Values.{values_after}
use Rattle.vs_vcd_reader.specs.vs_vcd_lines.specs.declared.dump.ValueChange.{ValueChange}
use Rattle.vs_vcd_reader.specs.Layout.{written}
use Rattle.vs_vcd_reader.specs.Plain.{plain_moment}
use Rattle.vs_sign_off.proofs.ValueLemmas.{moment_late, moment_more, moments_done}
use Rattle.vs_sign_off.proofs.values.put_later.Goals as goal

pub loop-moment-preserved : goal.loop-moment-preserved
loop-moment-preserved c =
    ap (λ (v : List (List Digit)). values_after c.args.time v (map plain_moment (drop (c.loop-moment.moment-index + 1) c.args.later.now)))
    (c.put_changes.ensures ∙ ap (λ (l : List ValueChange). written c.loop-moment.values.items l) c.deref.ensures.value)
    ∙ moment_more c.args.time c.loop-moment.values.items c.args.later.now c.loop-moment.moment-index c.moment-item.result _ c.loop-moment-test.true
    c.moment-item.is c.if-moment-time.false c.loop-moment.invariant

pub returns-then-moment-time : goal.returns-then-moment-time
returns-then-moment-time c =
    moment_late c.args.time c.loop-moment.values.items c.args.later.now c.loop-moment.moment-index c.moment-item.result _ c.loop-moment-test.true
    c.moment-item.is c.if-moment-time.true c.loop-moment.invariant

pub returns : goal.returns
returns c = moments_done c.args.time c.loop-moment.values.items c.args.later.now c.loop-moment.moment-index _ c.loop-moment-test.false c.loop-moment.invariant
