use Rattle.std.proofs.Common.{None, take}
use Rattle.vs_scopes.specs.Ranges.{Sized}
use Rattle.vs_scopes.specs.Declarations.{declared_as, signal_names}
use Rattle.vs_scopes.specs.scopes_passes.Declared.{AddsNames}
use Rattle.vs_elab_constants.specs.passes.Early.{bound_by}
use Rattle.vs_elab_constants.proofs.early.add_declarators.Given as goal

abbrev pub invariant-loop-declarator : goal.invariant-loop-declarator
invariant-loop-declarator l = (z : Sized) → AddsNames l.fn.names l.names (signal_names (bound_by l.signals) (declared_as (λ n. None) l.kind z (take l.declarator-index l.declarators)))
