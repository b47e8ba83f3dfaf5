use Rattle.std.proofs.Common.{sym, ◌∙◌}
use Rattle.vs_claims.proofs.FactLemmas.{past_all, placed}
use Rattle.vs_claims.proofs.places.ordered.Goals as goal

pub returns-in-None : goal.returns-in-None
returns-in-None c = c.len.ensures ∙ past_all c.args.order.now c.args.name.now (sym c.in-None.ensures)

pub returns-in-Some : goal.returns-in-Some
returns-in-Some c = placed c.args.order.now c.args.name.now c.in-Some.place (sym c.in-Some.ensures)
