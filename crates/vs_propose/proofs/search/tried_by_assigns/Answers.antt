use Rattle.vs_certificate.specs.JsonValue.{value_of}
use Rattle.vs_propose.specs.Settling.{CanSettle}
use Rattle.vs_propose.proofs.Made.{sound_by}
use Rattle.vs_propose.proofs.search.tried_by_assigns.Goals as goal

pub returns : goal.returns
returns c = record {
  is = c.tried.ensures.is;
  made = λ (can : CanSettle c.args.design.now).
      let a = c.in_ok-certificate.ensures.accepted can in
      let sound = (c.tested_are_certificates.ensures c.in_ok-certificate.certificate).1 a.certificate in
      c.tried.ensures.made (sound_by c.args.rules (value_of c.in_ok-certificate.certificate) sound) a.rules;
}
