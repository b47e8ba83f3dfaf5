use Rattle.vs_claims.specs.vs_certificate.proofs.Law.{sound_weaker}
use Rattle.vs_cert_check.proofs.judging.check.Goals as goal

pub check_wide-requires : goal.check_wide-requires
check_wide-requires c = record { sound = sound_weaker _ c.requires.sound }
