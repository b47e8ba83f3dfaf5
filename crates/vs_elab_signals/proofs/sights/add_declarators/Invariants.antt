use Rattle.std.proofs.Common.{map, take}
use Rattle.vs_syntax.specs.declared.tree.Declarator.{Declarator}
use Rattle.vs_scopes.specs.scopes_passes.Declared.{AddsNames}
use Rattle.vs_elab_signals.specs.signal_passes.Sights.{placed}
use Rattle.vs_elab_signals.proofs.sights.add_declarators.Given as goal

abbrev pub invariant-loop-declarator : goal.invariant-loop-declarator
invariant-loop-declarator l = AddsNames l.fn.told l.told (placed l.place (map (λ (d : Declarator). d.name.items) (take l.declarator-index l.list)))
