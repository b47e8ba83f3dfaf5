use Rattle.std.proofs.Common.{arith}
use Rattle.vs_rules_of_processes.proofs.HungLemmas.{shows_none, shows_more, shows_all}
use Rattle.vs_rules_of_processes.proofs.hung.push_shows.Goals as goal

pub loop-p-init : goal.loop-p-init
loop-p-init c r = shows_none c.args.tables.now c.args.out.now.items r

pub loop-p-preserved : goal.loop-p-preserved
loop-p-preserved c r =
    shows_more c.args.tables.now c.loop-p.p c.args.out.now.items c.loop-p.out.items c.push_shows_at.new.out.items r (c.loop-p.invariant r) (c.in_ok-push_shows_at.ensures r)

pub returns : goal.returns
returns c r =
    shows_all c.args.tables.now c.loop-p.p c.args.out.now.items c.loop-p.out.items r c.leads_in.ensures.points (omega (arith, c.loop-p-test.false, c.places-p-end.ensures))
    (c.loop-p.invariant r)
