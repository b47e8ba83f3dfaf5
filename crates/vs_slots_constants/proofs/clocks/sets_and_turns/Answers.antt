use Rattle.std.proofs.Common.{ℕ, Option, Some, ◌≡◌, ◌↔◌}
use Rattle.std.proofs.lemmas.Result.{IfOk-weaker}
use Rattle.vs_slots_constants.proofs.ClockLemmas.{pair_is}
use Rattle.vs_design.specs.vs_logic4.specs.declared.digit.Digit.{Digit}
use Rattle.vs_slots_constants.specs.declared.clocks.Clock.{Clock}
use Rattle.vs_design.specs.declared.statement.Statement.TheViews.{out-Statement}
use Rattle.vs_slots_constants.specs.Clocks.{PairLayer}
use Rattle.vs_slots_constants.proofs.clocks.sets_and_turns.Goals as goal

pub returns : goal.returns
returns c =
    IfOk-weaker _ (λ (o : Option Clock). (offset half : ℕ) (digit : Digit) → (PairLayer c.args.design.now c.args.wide c.args.v offset half digit (out-Statement c.core_of.result.now) ↔ o ≡ Some (record { digit = digit; offset = offset; half = half }))) _
    (λ o e offset half digit.
    let l = pair_is c.args.design.now c.args.wide c.args.v offset half digit c.args.s.now c.core_of.result.now c.core_of.ensures in
    (λ h. (e offset half digit).0 (l.0 h), λ h. l.1 ((e offset half digit).1 h)))
    c.pair_layer.ensures
