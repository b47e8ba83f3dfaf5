use Rattle.std.proofs.Common.{sym}
use Rattle.vs_certificate.proofs.Images.{is_within-images}
use Rattle.vs_certificate.proofs.limits.is_short.Goals as goal

pub returns : goal.returns
returns g c = sym (is_within-images g.T.JsonForm.json_value c.args.list.now 65536)
