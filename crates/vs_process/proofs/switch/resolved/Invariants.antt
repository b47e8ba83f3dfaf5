use Rattle.std.proofs.Common.{◌≡◌, map, take}
use Rattle.vs_process.specs.Switches.{resolved_label}
use Rattle.vs_process.proofs.switch.resolved.Given as goal

abbrev pub invariant-loop-label : goal.invariant-loop-label
invariant-loop-label l = l.all.items ≡ map (resolved_label l.fn.design.signals) (take l.label-index l.labels)
