use Rattle.vs_cert_check.specs.vs_rules.specs.Certificates.{claims_of}
use Rattle.vs_propose.proofs.Made.{made, refused, not_refused}
use Rattle.vs_propose.proofs.search.proposal_of.Goals as goal

pub returns-in-Yes : goal.returns-in-Yes
returns-in-Yes c = record {
  is = made c.args.rules c.args.design.now c.args.grain c.args.certificate c.args.verdict c.requires.grain c.requires.sound c.requires.verdict c.in-Yes.is;
  made = λ kept. tt;
}

pub returns-in-No : goal.returns-in-No
returns-in-No c = record {
  is = refused c.args.rules c.args.design.now c.args.grain c.args.certificate c.args.verdict c.in-No.number c.in-No.place c.requires.grain c.requires.sound c.requires.verdict c.requires.numbered c.in-No.is;
  made = λ kept. absurd (not_refused c.args.design.now (claims_of c.args.certificate) c.args.verdict c.in-No.number c.in-No.place c.requires.verdict c.in-No.is kept);
}
