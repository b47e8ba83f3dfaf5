use Rattle.std.proofs.Common.{map, ap, ◌∙◌}
use Rattle.std.proofs.lemmas.List.{take_all}
use Rattle.vs_run_active.specs.vs_process.specs.States.{start_assign}
use Rattle.vs_run_active.proofs.TouchesLemmas.{begun_more}
use Rattle.vs_run_active.proofs.assigns.start_assigns.Goals as goal

pub loop-assign-init : goal.loop-assign-init
loop-assign-init c = c.new-all.ensures.items

pub loop-assign-preserved : goal.loop-assign-preserved
loop-assign-preserved c =
    begun_more c.args.assigns.now c.loop-assign.assign-index c.assign-item.result c.loop-assign.all.items c.push.new.self.items c.start.result c.loop-assign-test.true
    c.assign-item.is c.loop-assign.invariant c.start.ensures c.in_ok-push.ensures.items

pub returns : goal.returns
returns c = c.loop-assign.invariant ∙ ap (map start_assign) (take_all c.loop-assign.assign-index c.args.assigns.now c.loop-assign-test.false)
