use Rattle.vs_cert_check.proofs.BrokenLemmas.{AreFound}
use Rattle.vs_cert_check.proofs.listing.breakers.Given as goal

abbrev pub invariant-loop-i : goal.invariant-loop-i
invariant-loop-i g l = AreFound (g.R.Rule.keeps l.rule) l.most l.i l.n l.found.items
