use Rattle.std.proofs.Common.{Some, map, refl, ◌∙◌, ap}
use Rattle.vs_certificate.specs.declared.members.ClaimedKind.{ClaimedKind}
use Rattle.vs_claims.specs.vs_rules.specs.Certificates.{kind_from, residues_from}
use Rattle.vs_claims.specs.Facts.{kind_seen}
use Rattle.vs_claims.proofs.words.is_mixed.Goals as goal

pub returns-in-Mixed : goal.returns-in-Mixed
returns-in-Mixed c = (λ t. (map residues_from c.in-Mixed.field-0.items, ap kind_seen c.in-Some.is ∙ ap (λ (k : ClaimedKind). Some (kind_from k)) c.in-Mixed.is), λ h. refl)
