use Rattle.vs_claims.specs.vs_certificate.proofs.Law.{sound_weaker}
use Rattle.vs_cert_check.proofs.judging.check_all.Goals as goal

pub check_all_wide-requires : goal.check_all_wide-requires
check_all_wide-requires c = record { sound = sound_weaker _ c.requires.sound }
