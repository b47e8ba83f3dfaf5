use Rattle.std.proofs.Common.{Some, map, refl, ◌∙◌, ap}
use Rattle.vs_certificate.specs.declared.members.ClaimedKind.{ClaimedKind}
use Rattle.vs_claims.specs.vs_rules.specs.Certificates.{kind_from, residues_from}
use Rattle.vs_claims.specs.Facts.{kind_seen}
use Rattle.vs_claims.proofs.words.is_delay.Goals as goal

pub returns-in-Delay : goal.returns-in-Delay
returns-in-Delay c = (λ t. (map residues_from c.in-Delay.field-0.items, ap kind_seen c.in-Some.is ∙ ap (λ (k : ClaimedKind). Some (kind_from k)) c.in-Delay.is), λ h. refl)
