use Rattle.std.proofs.Common.{◌≡◌, ◌↔◌, Some, ◌∙◌, sym, subst}
use Rattle.vs_design.specs.declared.statement.Statement.{Statement}
use Rattle.vs_design.specs.declared.statement.Statement.TheOpen.{Statement-F}
use Rattle.vs_design.specs.declared.statement.Statement.TheOpen as f
use Rattle.vs_design.specs.declared.statement.Statement.TheVariants.{rolls-Delay}
use Rattle.vs_slots_constants.proofs.Cores.{layer_of}
use Rattle.vs_slots_constants.specs.Clocks.{TurnsLayer, IsTurning}
use Rattle.vs_slots_constants.proofs.clocks.turns_layer.Goals as goal

pub returns-in-Delay : goal.returns-in-Delay
returns-in-Delay c half =
    let l = layer_of c.args.s.now (f.Delay c.in-Delay.field-0 c.in-Delay.ticks c.in-Delay.inner) (rolls-Delay c.in-Delay.field-0 c.in-Delay.ticks c.in-Delay.inner ∙ sym c.in-Delay.is) in
    let e = c.turning_after.ensures half in
    let d = c.deref.ensures in
    subst (λ (x : Statement-F Statement). (TurnsLayer c.args.design.now c.args.wide c.args.v half x ↔ c.turning_after.result ≡ Some half)) (sym l)
    (λ h. e.0 (h.0, h.1, subst (IsTurning c.args.design.now c.args.wide c.args.v) (sym d) h.2), λ h. let r = e.1 h in (r.0, r.1, subst (IsTurning c.args.design.now c.args.wide c.args.v) d r.2))
