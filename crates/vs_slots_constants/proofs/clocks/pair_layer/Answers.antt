use Rattle.std.proofs.Common.{◌≡◌, ◌↔◌, Some, List, ◌∙◌, sym, subst, ℕ, Option}
use Rattle.std.proofs.lemmas.Result.{IfOk-weaker}
use Rattle.vs_design.specs.declared.statement.Statement.{Statement}
use Rattle.vs_design.specs.declared.statement.Statement.TheOpen.{Statement-F}
use Rattle.vs_design.specs.declared.statement.Statement.TheOpen as f
use Rattle.vs_design.specs.declared.statement.Statement.TheVariants.{rolls-Block}
use Rattle.vs_slots_constants.specs.Clocks.{ArePair, PairLayer}
use Rattle.vs_slots_constants.proofs.Cores.{layer_of}
use Rattle.vs_design.specs.vs_logic4.specs.declared.digit.Digit.{Digit}
use Rattle.vs_slots_constants.specs.declared.clocks.Clock.{Clock}
use Rattle.vs_slots_constants.proofs.clocks.pair_layer.Goals as goal

pub returns-in-Block : goal.returns-in-Block
returns-in-Block c =
    let l = layer_of c.args.s.now (f.Block c.in-Block.all) (rolls-Block c.in-Block.all ∙ sym c.in-Block.is) in
    IfOk-weaker _ (λ (o : Option Clock). (offset half : ℕ) (digit : Digit) → (ArePair c.args.design.now c.args.wide c.args.v offset half digit c.deref.result.now ↔ o ≡ Some (record { digit = digit; offset = offset; half = half }))) _
    (λ o e offset half digit.
    let there = λ (x : Statement-F Statement). PairLayer c.args.design.now c.args.wide c.args.v offset half digit x in
    let inner = λ (x : List Statement). ArePair c.args.design.now c.args.wide c.args.v offset half digit x in (
      λ h. (e offset half digit).0 (subst inner (sym c.deref.ensures.value) (subst there l h)),
      λ h. subst there (sym l) (subst inner c.deref.ensures.value ((e offset half digit).1 h)),
    ))
    c.pair.ensures
