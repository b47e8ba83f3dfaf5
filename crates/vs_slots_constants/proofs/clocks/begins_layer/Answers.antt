use Rattle.std.proofs.Common.{◌≡◌, ◌↔◌, Some, ◌∙◌, sym, subst}
use Rattle.vs_design.specs.declared.statement.Statement.{Statement}
use Rattle.vs_design.specs.declared.statement.Statement.TheOpen.{Statement-F}
use Rattle.vs_design.specs.declared.statement.Statement.TheOpen as f
use Rattle.vs_design.specs.declared.statement.Statement.TheVariants.{rolls-Assign, rolls-Delay}
use Rattle.vs_slots_constants.proofs.Cores.{layer_of}
use Rattle.vs_rules.specs.Constants.{Sets}
use Rattle.vs_slots_constants.specs.Clocks.{BeginsLayer, setting}
use Rattle.vs_slots_constants.proofs.clocks.begins_layer.Goals as goal

pub returns-in_ok-digit-in-Assign : goal.returns-in_ok-digit-in-Assign
returns-in_ok-digit-in-Assign c offset digit =
    let l = layer_of c.args.s.now (f.Assign c.in-Assign.field-0 c.in-Assign.target c.in-Assign.value) (rolls-Assign c.in-Assign.field-0 c.in-Assign.target c.in-Assign.value ∙ sym c.in-Assign.is) in
    let e = c.after.ensures offset digit in
    let d = c.in_ok-digit-in-Assign.ensures in
    subst (λ (x : Statement-F Statement). (BeginsLayer c.args.design.now c.args.v offset digit x ↔ c.after.result ≡ Some (digit, offset))) (sym l)
    (λ h. e.0 (sym h.0, ◌∙◌ {b = setting c.args.design.now c.args.v c.in-Assign.target c.in-Assign.value} d h.1), λ h. let r = e.1 h in (sym r.0, ◌∙◌ {b = c.in_ok-digit-in-Assign.digit} (sym d) r.1))

pub returns-in_ok-digit-in-Delay : goal.returns-in_ok-digit-in-Delay
returns-in_ok-digit-in-Delay c offset digit =
    let l = layer_of c.args.s.now (f.Delay c.in-Delay.field-0 c.in-Delay.ticks c.in-Delay.inner) (rolls-Delay c.in-Delay.field-0 c.in-Delay.ticks c.in-Delay.inner ∙ sym c.in-Delay.is) in
    let e = c.after-in-Delay.ensures offset digit in
    let d = c.in_ok-digit-in-Delay.ensures in
    let k = c.deref.ensures in
    subst (λ (x : Statement-F Statement). (BeginsLayer c.args.design.now c.args.v offset digit x ↔ c.after-in-Delay.result ≡ Some (digit, offset))) (sym l)
    (λ h. e.0 (h.0, (d digit).0 (subst (Sets c.args.design.now c.args.v digit) (sym k) h.1)), λ h. let r = e.1 h in (r.0, subst (Sets c.args.design.now c.args.v digit) k ((d digit).1 r.1)))
