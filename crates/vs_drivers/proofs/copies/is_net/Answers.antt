use Rattle.std.proofs.Common.{◌≡◌, List, Some, slice_get, true, false, refl, sym, ap, ◌∙◌}
use Rattle.std.proofs.lemmas.Option.{same_Some}
use Rattle.vs_design.specs.declared.signal.Signal.{Signal}
use Rattle.vs_design.specs.Kinds.{is_variable}
use Rattle.vs_drivers.proofs.CopyLemmas.{variable_kind}
use Rattle.vs_slots_constants.proofs.OtherLemmas.{found_there}
use Rattle.vs_drivers.proofs.copies.is_net.Goals as goal

pub returns-in-Wire : goal.returns-in-Wire
returns-in-Wire c =
    let at : slice_get c.args.design.now.signals c.args.v ≡ Some c.in-Some.signal.now =
    ap (λ (ss : List Signal). slice_get ss c.args.v) (sym c.signals.ensures) ∙ found_there c.signals.result.now c.args.v c.in-Some.signal.now c.in-Some.ensures.lookup.0 c.in-Some.ensures.lookup.1 in
    (λ t. (c.in-Some.signal.now, at, ap is_variable c.in-Wire.is), λ h. refl)

pub returns-in-Reg : goal.returns-in-Reg
returns-in-Reg c =
    let at : slice_get c.args.design.now.signals c.args.v ≡ Some c.in-Some.signal.now =
    ap (λ (ss : List Signal). slice_get ss c.args.v) (sym c.signals.ensures) ∙ found_there c.signals.result.now c.args.v c.in-Some.signal.now c.in-Some.ensures.lookup.0 c.in-Some.ensures.lookup.1 in (
      λ t. cc,
      λ h. let e : true ≡ false = sym (variable_kind c.in-Some.signal.now.kind c.in-Reg.is) ∙ ap (λ (s : Signal). is_variable s.kind) (same_Some c.in-Some.signal.now h.0 (sym at ∙ h.1)) ∙ h.2 in cc,
    )
