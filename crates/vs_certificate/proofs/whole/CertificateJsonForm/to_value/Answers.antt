use Rattle.std.proofs.Common.{ap}
use Rattle.serde_json.specs.Data.{object}
use Rattle.serde_json.proofs.Views.{view-Object}
use Rattle.vs_certificate.proofs.Versions.{members_by-put}
use Rattle.vs_certificate.proofs.whole.CertificateJsonForm.to_value.Goals as goal

pub returns : goal.returns
returns c =
    rw (view-Object c.in_ok-members-8.members, c.in_ok-members-8.ensures, c.in_ok-members-7.ensures, c.in_ok-members-6.ensures, c.in_ok-members-5.ensures, c.in_ok-members-4.ensures, c.in_ok-members-3.ensures, c.in_ok-members-2.ensures, c.in_ok-members.ensures, c.new.ensures.empty, c.number.ensures)
    (ap object (members_by-put c.args.self.now.version c.args.self.now))
