use Rattle.std.proofs.Common.{List, ◌≡◌, Some, slice_get, sym, ap, ◌∙◌, Option, ◌↔◌}
use Rattle.std.proofs.lemmas.Result.{IfOk-weaker}
use Rattle.vs_design.specs.declared.design.Process.{Process}
use Rattle.vs_design.specs.declared.design.ProcessKind.TheVariants.{Initial, Always}
use Rattle.vs_rules.specs.Constants.{Sets}
use Rattle.vs_slots_constants.proofs.OtherLemmas.{found_there, body_is, kind_is}
use Rattle.vs_design.specs.vs_logic4.specs.declared.digit.Digit.{Digit}
use Rattle.vs_slots_constants.proofs.clocks.set_by.Goals as goal

pub returns-in-Initial : goal.returns-in-Initial
returns-in-Initial c =
    let at : slice_get c.args.design.now.processes c.args.j ≡ Some c.in-Some.process.now =
    ap (λ (ps : List Process). slice_get ps c.args.j) (sym c.processes.ensures) ∙ found_there c.processes.result.now c.args.j c.in-Some.process.now c.in-Some.ensures.lookup.0 c.in-Some.ensures.lookup.1 in
    IfOk-weaker _ (λ (o : Option Digit). (digit : Digit) → (Sets c.args.design.now c.args.v digit c.in-Some.process.now.body ↔ o ≡ Some digit)) _
    (λ o e digit.
    let b = body_is c.args.design.now c.args.j c.in-Some.process.now Initial at c.in-Initial.is (Sets c.args.design.now c.args.v digit) in
    (λ h. (e digit).0 (b.0 h), λ h. b.1 ((e digit).1 h)))
    c.sets.ensures

pub returns-in-Always : goal.returns-in-Always
returns-in-Always c digit =
    let at : slice_get c.args.design.now.processes c.args.j ≡ Some c.in-Some.process.now =
    ap (λ (ps : List Process). slice_get ps c.args.j) (sym c.processes.ensures) ∙ found_there c.processes.result.now c.args.j c.in-Some.process.now c.in-Some.ensures.lookup.0 c.in-Some.ensures.lookup.1 in (
      λ h.
          let e : Always ≡ Initial = sym c.in-Always.is ∙ kind_is c.args.design.now c.args.j c.in-Some.process.now Initial (Sets c.args.design.now c.args.v digit) at h in
          cc,
      λ h. cc,
    )
