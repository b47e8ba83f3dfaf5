use Rattle.std.proofs.Common.{◌↔◌, IsTrue, ◌∙◌, sym, subst}
use Rattle.std.proofs.lemmas.Result.{IfOk-weaker}
use Rattle.vs_design.specs.declared.statement.Statement.{Statement}
use Rattle.vs_design.specs.declared.statement.Statement.TheOpen.{Statement-F}
use Rattle.vs_design.specs.declared.statement.Statement.TheOpen as f
use Rattle.vs_design.specs.declared.statement.Statement.TheVariants.{rolls-Later}
use Rattle.vs_design.specs.declared.statement.Statement.TheViews.{out-Statement}
use Rattle.vs_drivers.specs.vs_slots_constants.proofs.Cores.{layer_of}
use Rattle.vs_rules_of_starts.specs.Beginnings.{BeginsLayer, GivesNamed}
use Rattle.vs_rules_of_starts.proofs.begins.begins_layer.Goals as goal

pub returns-else-ticks-ne0 : goal.returns-else-ticks-ne0
returns-else-ticks-ne0 c =
    let l = layer_of c.args.s.now (f.Later c.in-Later.field-0 c.in-Later.ticks c.in-Later.target c.in-Later.value)
    (rolls-Later c.in-Later.field-0 c.in-Later.ticks c.in-Later.target c.in-Later.value ∙ sym c.in-Later.is) in
    IfOk-weaker c.gives_named.result
    (λ b. (IsTrue b ↔ GivesNamed c.args.design.now c.args.named.now c.args.g c.in-Later.target c.in-Later.value))
    (λ b. (IsTrue b ↔ BeginsLayer c.args.design.now c.args.named.now c.args.g (out-Statement c.args.s.now)))
    (λ b h. subst (λ (x : Statement-F Statement). (IsTrue b ↔ BeginsLayer c.args.design.now c.args.named.now c.args.g x)) (sym l) (λ t. (c.if-ticks-ne0.false, h.0 t), λ x. h.1 x.1))
    c.gives_named.ensures
