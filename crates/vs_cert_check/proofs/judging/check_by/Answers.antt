use Rattle.vs_claims.specs.vs_certificate.proofs.Law.{sound_for}
use Rattle.vs_cert_check.proofs.judging.check_by.Goals as goal

pub check_wide-requires : goal.check_wide-requires
check_wide-requires c = record { sound = sound_for _ _ c.requires.sound }
