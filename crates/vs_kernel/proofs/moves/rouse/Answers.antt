use Rattle.vs_kernel.proofs.LeavingLemmas.{rouse_made, rouse_run}
use Rattle.vs_kernel.proofs.moves.rouse.Goals as goal

pub returns-clause-run : goal.returns-clause-run
returns-clause-run g c =
    rouse_run c.args.run.now.design.now c.args.run.now c.rouse.new.self c.rouse_each.new.events c.rouse.new.woken c.rouse.new.woken.items c.requires c.rouse.ensures.handed_out c.rouse.ensures.none_left
    c.in_ok-rouse_each.ensures.processes c.in_ok-rouse_each.ensures.assigns

pub returns-clause-made : goal.returns-clause-made
returns-clause-made g c =
    rouse_made c.args.run.now.design.now c.args.run.now c.rouse.new.self c.rouse_each.new.events c.rouse.new.woken c.rouse.new.woken.items c.requires c.rouse.ensures.handed_out c.rouse.ensures.none_left
    c.in_ok-rouse_each.ensures.processes c.in_ok-rouse_each.ensures.assigns
