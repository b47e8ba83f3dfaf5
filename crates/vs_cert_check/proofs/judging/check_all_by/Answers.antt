use Rattle.vs_claims.specs.vs_certificate.proofs.Law.{sound_for}
use Rattle.vs_cert_check.proofs.judging.check_all_by.Goals as goal

pub check_all_wide-requires : goal.check_all_wide-requires
check_all_wide-requires c = record { sound = sound_for _ _ c.requires.sound }
