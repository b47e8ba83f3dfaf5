use Rattle.vs_rules_of_starts.specs.vs_rules.specs.Certificates.{claims_of}
use Rattle.vs_cert_check.proofs.Meaning.{meant}
use Rattle.vs_cert_check.proofs.judging.tell_meaning.Goals as goal

pub returns : goal.returns
returns c =
    meant c.args.design.now (claims_of c.args.certificate.now) c.is_well_formed.ensures c.rules_make_independent.ensures c.rules_make_displays_alike.ensures
    c.args.verdict.now c.requires
