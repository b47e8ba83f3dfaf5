use Rattle.std.proofs.Common.{◌≡◌, ◌↔◌, Option, Some, None, sym, ◌∙◌, ℕ}
use Rattle.std.proofs.lemmas.Result.{IfOk-weaker}
use Rattle.vs_design.specs.vs_logic4.specs.declared.digit.Digit.{Digit}
use Rattle.vs_slots_constants.specs.declared.clocks.Clock.{Clock}
use Rattle.vs_rules.specs.Constants.{SetsAndTurns}
use Rattle.vs_slots_constants.specs.Clocks.{IsTurnedBy}
use Rattle.vs_slots_constants.proofs.OtherLemmas.{begun_alone, begun_turned, begun_never}
use Rattle.vs_slots_constants.proofs.clocks.begun.Goals as goal

pub returns-in-Some : goal.returns-in-Some
returns-in-Some c offset half digit =
    let z = c.in-Some.clock in
    let has = (c.in_ok-alone.ensures z.offset z.half z.digit).1 c.in-Some.is in
    let l = begun_alone c.args.design.now c.args.wide c.args.v c.args.i c.args.body.now z.offset z.half z.digit has offset half digit in
    let e = c.in_ok-alone.ensures offset half digit in
    (λ h. sym c.in-Some.is ∙ e.0 (l.0 h), λ h. l.1 (e.1 (c.in-Some.is ∙ h)))

pub returns-then-wide : goal.returns-then-wide
returns-then-wide c =
    IfOk-weaker _ (λ (o : Option Clock). (offset half : ℕ) (digit : Digit) → (IsTurnedBy c.args.design.now c.args.wide c.args.v c.args.i c.args.body.now offset half digit ↔ o ≡ Some (record { digit = digit; offset = offset; half = half }))) _
    (λ o e offset half digit.
    let not : SetsAndTurns c.args.design.now c.args.wide c.args.v offset half digit c.args.body.now → ⊥ =
    (λ a. let e : ◌≡◌ {A = Option Clock} None (Some (record { digit = digit; offset = offset; half = half })) = sym c.in-None.is ∙ (c.in_ok-alone.ensures offset half digit).0 a in cc) in
    let l = begun_turned c.args.design.now c.args.wide c.args.v c.args.i c.args.body.now offset half digit not c.if-wide.true in
    (λ h. (e offset half digit).0 (l.0 h), λ h. l.1 ((e offset half digit).1 h)))
    c.turned.ensures

pub returns-else-wide : goal.returns-else-wide
returns-else-wide c offset half digit =
    let not : SetsAndTurns c.args.design.now c.args.wide c.args.v offset half digit c.args.body.now → ⊥ =
    (λ a. let e : ◌≡◌ {A = Option Clock} None (Some (record { digit = digit; offset = offset; half = half })) = sym c.in-None.is ∙ (c.in_ok-alone.ensures offset half digit).0 a in cc) in
    (λ h. absurd (begun_never c.args.design.now c.args.wide c.args.v c.args.i c.args.body.now offset half digit not c.if-wide.false h), λ h. cc)
