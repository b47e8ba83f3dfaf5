use Rattle.std.proofs.Common.{sym, ◌∙◌}
use Rattle.vs_time_wheel.proofs.ShortList.{next_of_list}
use Rattle.vs_time_wheel.proofs.upcoming.next_of.Goals as goal

pub returns-in-Some : goal.returns-in-Some
returns-in-Some g c = c.sooner_of.ensures ∙ next_of_list c.args.list.now _ _ (sym c.in-Some.ensures.value)
