use Rattle.std.proofs.Common.{◌≡◌, ◌≤◌, ◌↔◌, IsTrue, Some, List, length, slice_get, refl, sym, ◌∙◌, ap, subst}
use Rattle.std.specs.List.{Contains}
use Rattle.std.proofs.lemmas.Option.{slice_get_read}
use Rattle.vs_design.specs.declared.design.Assign.{Assign}
use Rattle.vs_design.specs.declared.signal.Signal.{Signal}
use Rattle.vs_drivers.specs.declared.writers.Written.{Written}
use Rattle.vs_drivers.specs.Wires.{Wiring}
use Rattle.vs_drivers.proofs.DriverLemmas.{free_variable}
use Rattle.vs_drivers.proofs.drivers.Drivers.is_free.Goals as goal

pub returns-else-not-is_variable : goal.returns-else-not-is_variable
returns-else-not-is_variable c =
    let v = c.args.v in
    let x = c.args.self.now in
    let s = c.in-Some.s.now in
    let is = subst (λ (l : List Signal). slice_get l v ≡ Some s) c.signals.ensures
    (slice_get_read c.signals.result.now (length c.signals.result.now) v s refl c.in-Some.ensures.lookup.3.0 c.in-Some.ensures.lookup.1) in
    let assigns = c.assigns.ensures ∙ ap (λ (y : Wiring). y.design.assigns) c.self.view_is in
    free_variable x v s c.writers.result.now c.has_process.result is (sym c.if-not-is_variable.ensures) c.writers.ensures
    (subst (λ (l : List Assign). (IsTrue c.has_process.result ↔ ((e : Written) × Contains c.writers.result.now e × (length l ≤ e.driver)))) assigns c.has_process.ensures)
