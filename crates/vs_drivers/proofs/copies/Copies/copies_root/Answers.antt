use Rattle.std.proofs.Common.{◌≡◌, ◌↔◌, Bool, IsTrue, true, false, sym, ◌∙◌, subst}
use Rattle.std.proofs.lemmas.Result.{IfOk-weaker}
use Rattle.vs_design.specs.Parts.{Parts}
use Rattle.vs_slots_constants.specs.vs_rules.specs.Copies.{IsOneBit}
use Rattle.vs_drivers.specs.Copies.{Leads}
use Rattle.vs_drivers.proofs.CopyLemmas.{leads_root, root_leads, one_bit}
use Rattle.vs_drivers.proofs.copies.Copies.copies_root.Goals as goal

pub returns-then-is_plain : goal.returns-then-is_plain
returns-then-is_plain c =
    let d = c.args.self.now in
    let one = subst (λ (d : Parts). IsOneBit d c.args.root) c.self.view_is ((one_bit c.self.inside.design.now c.args.root).0 (sym c.if-is_plain.ensures)) in
    IfOk-weaker _ (λ (b : Bool). (IsTrue b ↔ Leads d c.args.wide c.args.root c.args.v)) _
    (λ b e. (λ t. (leads_root d c.args.wide c.args.root c.args.v one (e.0 t)).0, λ h. e.1 (root_leads d c.args.wide c.args.root c.args.v h).1))
    c.leads.ensures

pub returns-else-is_plain : goal.returns-else-is_plain
returns-else-is_plain c = (
  λ t. cc,
  λ h.
      let o = (root_leads c.args.self.now c.args.wide c.args.root c.args.v h).0 in
      let e : false ≡ true = c.if-is_plain.ensures ∙ (one_bit c.self.inside.design.now c.args.root).1 (subst (λ (d : Parts). IsOneBit d c.args.root) (sym c.self.view_is) o) in
      cc,
)
