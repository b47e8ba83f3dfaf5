use Rattle.std.proofs.Common.{◌+◌, ◌<◌, ◌↔◌, List, length, ◌∙◌, ap, subst, arith}
use Rattle.std.specs.List.{Contains}
use Rattle.vs_design.specs.declared.design.Assign.{Assign}
use Rattle.vs_design.specs.declared.design.Process.{Process}
use Rattle.vs_drivers.specs.Wires.{Wiring, drivers, NeedsAt}
use Rattle.vs_drivers.proofs.drivers.Drivers.block_needs.Goals as goal

pub returns : goal.returns
returns c r =
    let x = c.args.self.now in
    let i = c.args.i in
    let row = c.needs.result.now in
    let assigns = c.assigns.ensures ∙ ap (λ (y : Wiring). y.design.assigns) c.self.view_is in
    let processes = c.processes.ensures ∙ ap (λ (y : Wiring). y.design.processes) c.self.view_is in
    let within = subst (λ (l : List Process). i < length l) processes c.if-i-processes.false in
    let both = subst (λ (l : List Assign). (Contains row r ↔ ((length l + i < drivers x.design) × NeedsAt x (length l + i) r))) assigns (c.needs.ensures r) in
    (λ h. (within, (both.0 h).1), λ y. both.1 (omega (arith, y.0), y.1))
