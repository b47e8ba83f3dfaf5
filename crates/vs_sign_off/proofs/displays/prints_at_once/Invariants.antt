use Rattle.std.proofs.Common.{◌≡◌, drop}
use Rattle.std.specs.List.{list_any}
use Rattle.vs_design.specs.declared.design.Process.{Process}
use Rattle.vs_sign_off.specs.Displays.{has_display}
use Rattle.vs_sign_off.proofs.displays.prints_at_once.Given as goal

abbrev pub invariant-loop-process : goal.invariant-loop-process
invariant-loop-process l =
    list_any (λ (p : Process). has_display p.body) (drop l.process-index l.design.processes) ≡ list_any (λ (p : Process). has_display p.body) l.design.processes
