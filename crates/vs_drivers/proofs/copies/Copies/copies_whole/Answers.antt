use Rattle.std.proofs.Common.{◌↔◌, Bool, IsTrue, false}
use Rattle.std.proofs.lemmas.Result.{IfOk-weaker}
use Rattle.vs_drivers.specs.Copies.{Leads}
use Rattle.vs_drivers.proofs.CopyLemmas.{whole_leads, leads_whole}
use Rattle.vs_drivers.proofs.copies.Copies.copies_whole.Goals as goal

pub returns : goal.returns
returns c =
    let d = c.args.self.now in
    IfOk-weaker _ (λ (b : Bool). (IsTrue b ↔ Leads d false c.args.g c.args.v)) _
    (λ b e. (λ t. leads_whole d c.args.g c.args.v (e.0 t), λ h. e.1 (whole_leads d c.args.g c.args.v h)))
    c.leads.ensures
