use Rattle.std.proofs.Common.{◌≡◌, false, not, take}
use Rattle.std.specs.List.{list_any, flat_map}
use Rattle.vs_syntax.specs.declared.tree.Module.{Module}
use Rattle.vs_elaborate.specs.Timescales.{scales_in, same_timescale}
use Rattle.vs_elaborate.proofs.timescales.has_other_timescale.Given as goal

abbrev pub invariant-loop-module : goal.invariant-loop-module
invariant-loop-module l = list_any (λ t. not (same_timescale l.scale t)) (flat_map (λ (m : Module). scales_in m.directives.items) (take l.module-index l.source.modules.items)) ≡ false
