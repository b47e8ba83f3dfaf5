use Rattle.vs_elaborate.proofs.FillingLemmas.{outside_some, outside_none}
use Rattle.vs_elaborate.proofs.filling.names_outside.Goals as goal

pub returns-in-Some : goal.returns-in-Some
returns-in-Some c ss s o h = outside_some ss s c.in-Some.place c.names_outward.result (rw c.in-Some.is at h) (λ t e. c.names_outward.ensures ss t o e)

pub returns-in-None : goal.returns-in-None
returns-in-None c ss s o h = outside_none ss s c.new.result.items c.new.ensures.items (rw c.in-None.is at h)
