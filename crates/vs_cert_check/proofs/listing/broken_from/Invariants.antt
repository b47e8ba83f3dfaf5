use Rattle.vs_cert_check.specs.Broken.{AreFirstBroken}
use Rattle.vs_cert_check.proofs.listing.broken_from.Given as goal

abbrev pub invariant-loop-rule : goal.invariant-loop-rule
invariant-loop-rule l = AreFirstBroken l.sheet.design l.sheet.claims l.rule l.most l.list.items
