use Rattle.std.proofs.Common.{◌∙◌}
use Rattle.vs_cert_check.proofs.Judged.{as_many}
use Rattle.vs_cert_check.proofs.sheet.Sheet.count.Goals as goal

pub returns : goal.returns
returns c = as_many c.self.inside.facts.now c.args.self.now c.self.inside.subjects.now c.self.invariant.subjects_are c.self.view_is
