use Rattle.std.proofs.Common.{ℕ, Option, Some, ◌≡◌, ◌↔◌}
use Rattle.std.proofs.lemmas.Result.{IfOk-weaker}
use Rattle.vs_slots_constants.proofs.ClockLemmas.{begins_is}
use Rattle.vs_design.specs.vs_logic4.specs.declared.digit.Digit.{Digit}
use Rattle.vs_design.specs.declared.statement.Statement.TheViews.{out-Statement}
use Rattle.vs_slots_constants.specs.Clocks.{BeginsLayer}
use Rattle.vs_slots_constants.proofs.clocks.begins.Goals as goal

pub returns : goal.returns
returns c =
    IfOk-weaker _ (λ (o : Option (Digit × ℕ)). (offset : ℕ) (digit : Digit) → (BeginsLayer c.args.design.now c.args.v offset digit (out-Statement c.core_of.result.now) ↔ o ≡ Some (digit, offset))) _
    (λ o e offset digit.
    let l = begins_is c.args.design.now c.args.v offset digit c.args.s.now c.core_of.result.now c.core_of.ensures in
    (λ h. (e offset digit).0 (l.0 h), λ h. l.1 ((e offset digit).1 h)))
    c.begins_layer.ensures
