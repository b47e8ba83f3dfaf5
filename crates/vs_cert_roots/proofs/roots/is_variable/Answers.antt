use Rattle.std.proofs.Common.{◌≡◌, List, Some, slice_get, refl, sym, ap, ◌∙◌}
use Rattle.vs_design.specs.declared.signal.Signal.{Signal}
use Rattle.vs_drivers.specs.vs_slots_constants.proofs.OtherLemmas.{found_there}
use Rattle.vs_drivers.proofs.CopyLemmas.{variable_kind}
use Rattle.vs_cert_roots.proofs.roots.is_variable.Goals as goal

pub returns-in-Reg : goal.returns-in-Reg
returns-in-Reg c =
    let at : slice_get c.args.design.now.signals c.args.v ≡ Some c.in-Some.signal.now =
    ap (λ (ss : List Signal). slice_get ss c.args.v) (sym c.signals.ensures) ∙ found_there c.signals.result.now c.args.v c.in-Some.signal.now c.in-Some.ensures.lookup.0 c.in-Some.ensures.lookup.1 in
    (λ t. (c.in-Some.signal.now, at, variable_kind c.in-Some.signal.now.kind c.in-Reg.is), λ h. refl)
