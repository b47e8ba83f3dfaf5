use Rattle.std.proofs.Common.{Option, Bor, sym, subst}
use Rattle.vs_certificate.specs.declared.members.ClaimedKind.{ClaimedKind}
use Rattle.vs_claims.specs.Facts.{kind_seen}
use Rattle.vs_claims.specs.facts_passes.Kept.{AreKindLists}
use Rattle.vs_claims.proofs.words.lists_in.Goals as goal

pub returns-in-Some : goal.returns-in-Some
returns-in-Some c = subst (λ (o : Option (Bor ClaimedKind)). AreKindLists (kind_seen o) c.lists_of.result) (sym c.in-Some.is) c.lists_of.ensures
