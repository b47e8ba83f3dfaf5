use Rattle.std.proofs.Common.{ℕ, List, ◌≡◌, Some, slice_get, sym, ap, ◌∙◌, Option, ◌↔◌}
use Rattle.std.proofs.lemmas.Option.{same_Some}
use Rattle.std.proofs.lemmas.Result.{IfOk-weaker}
use Rattle.vs_design.specs.declared.design.Process.{Process}
use Rattle.vs_slots_constants.proofs.OtherLemmas.{found_there, by_initial, by_always}
use Rattle.vs_design.specs.vs_logic4.specs.declared.digit.Digit.{Digit}
use Rattle.vs_slots_constants.specs.declared.clocks.Clock.{Clock}
use Rattle.vs_slots_constants.specs.Clocks.{IsBegunBy, IsTurnedBy}
use Rattle.vs_slots_constants.proofs.clocks.clock_of.Goals as goal

pub returns-in-Initial : goal.returns-in-Initial
returns-in-Initial c =
    let p = c.in-Some-get.process.now in
    let at : slice_get c.args.design.now.processes c.in-Some.i ≡ Some p =
    ap (λ (ps : List Process). slice_get ps c.in-Some.i) (sym c.processes.ensures) ∙ found_there c.processes.result.now c.in-Some.i p c.in-Some-get.ensures.lookup.0 c.in-Some-get.ensures.lookup.1 in
    IfOk-weaker _ (λ (o : Option Clock). (offset half : ℕ) (digit : Digit) → (IsBegunBy c.args.design.now c.args.wide c.args.v c.in-Some.i p.body offset half digit ↔ o ≡ Some (record { digit = digit; offset = offset; half = half }))) _
    (λ o e digit offset half.
    let b = by_initial c.args.design.now c.args.wide c.args.v c.in-Some.i c.args.writer p c.in-Some.is at c.in-Initial.is digit offset half in
    (λ h. (e offset half digit).0 (b.0 h), λ h. b.1 ((e offset half digit).1 h)))
    c.begun.ensures

pub returns-in-Always : goal.returns-in-Always
returns-in-Always c =
    let p = c.in-Some-get.process.now in
    let at : slice_get c.args.design.now.processes c.in-Some.i ≡ Some p =
    ap (λ (ps : List Process). slice_get ps c.in-Some.i) (sym c.processes.ensures) ∙ found_there c.processes.result.now c.in-Some.i p c.in-Some-get.ensures.lookup.0 c.in-Some-get.ensures.lookup.1 in
    IfOk-weaker _ (λ (o : Option Clock). (offset half : ℕ) (digit : Digit) → (IsTurnedBy c.args.design.now c.args.wide c.args.v c.in-Some.i p.body offset half digit ↔ o ≡ Some (record { digit = digit; offset = offset; half = half }))) _
    (λ o e digit offset half.
    let b = by_always c.args.design.now c.args.wide c.args.v c.in-Some.i c.args.writer p c.in-Some.is at c.in-Always.is digit offset half in
    (λ h. (e offset half digit).0 (b.0 h), λ h. b.1 ((e offset half digit).1 h)))
    c.turned.ensures

pub begun-requires-clause-its : goal.begun-requires-clause-its
begun-requires-clause-its c q is =
    let p = c.in-Some-get.process.now in
    let at : slice_get c.args.design.now.processes c.in-Some.i ≡ Some p =
    ap (λ (ps : List Process). slice_get ps c.in-Some.i) (sym c.processes.ensures) ∙ found_there c.processes.result.now c.in-Some.i p c.in-Some-get.ensures.lookup.0 c.in-Some-get.ensures.lookup.1 in
    ap (λ (r : Process). r.body) (same_Some q p (sym is ∙ at))

pub turned-requires-clause-its : goal.turned-requires-clause-its
turned-requires-clause-its c q is =
    let p = c.in-Some-get.process.now in
    let at : slice_get c.args.design.now.processes c.in-Some.i ≡ Some p =
    ap (λ (ps : List Process). slice_get ps c.in-Some.i) (sym c.processes.ensures) ∙ found_there c.processes.result.now c.in-Some.i p c.in-Some-get.ensures.lookup.0 c.in-Some-get.ensures.lookup.1 in
    ap (λ (r : Process). r.body) (same_Some q p (sym is ∙ at))

pub begun-requires-clause-set : goal.begun-requires-clause-set
begun-requires-clause-set c = c.requires.set c.in-Some.i c.in-Some.is

pub turned-requires-clause-set : goal.turned-requires-clause-set
turned-requires-clause-set c = c.requires.set c.in-Some.i c.in-Some.is
