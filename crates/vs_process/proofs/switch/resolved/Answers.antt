use Rattle.std.proofs.Common.{ap, map, ◌∙◌}
use Rattle.std.proofs.lemmas.List.{take_all}
use Rattle.vs_process.specs.Switches.{resolved_label}
use Rattle.vs_process.proofs.SwitchLemmas.{image_more}
use Rattle.vs_process.proofs.switch.resolved.Goals as goal

pub loop-label-preserved : goal.loop-label-preserved
loop-label-preserved c =
    image_more (resolved_label c.args.design.now.signals) c.args.labels.now c.loop-label.label-index c.label-item.result c.loop-label.all.items c.push.new.self.items _
    c.loop-label-test.true c.label-item.is c.in_ok-push.ensures.items (ap (λ m. (m, c.label-item.result.index)) c.in_ok-e.ensures) c.loop-label.invariant

pub returns : goal.returns
returns c = c.loop-label.invariant ∙ ap (map (resolved_label c.args.design.now.signals)) (take_all c.loop-label.label-index c.args.labels.now c.loop-label-test.false)
