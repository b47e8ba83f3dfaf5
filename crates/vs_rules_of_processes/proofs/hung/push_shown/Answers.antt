use Rattle.std.proofs.lemmas.Result.{on_ok_weaker}
use Rattle.vs_rules_of_processes.proofs.HungLemmas.{shown_here}
use Rattle.vs_rules_of_processes.proofs.hung.push_shown.Goals as goal

pub returns-in-Some : goal.returns-in-Some
returns-in-Some c =
    on_ok_weaker c.push_shows.result
    (λ shows. shown_here c.args.facts.now.charts c.args.i c.in-Some.tables.now c.args.out.now.items c.push_shows.new.out.items c.in-Some.ensures shows)
    c.push_shows.ensures
