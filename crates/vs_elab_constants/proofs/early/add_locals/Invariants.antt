use Rattle.std.proofs.Common.{None, map, take}
use Rattle.vs_scopes.specs.Ranges.{Sized}
use Rattle.vs_scopes.specs.Declarations.{declared_local, signal_names}
use Rattle.vs_scopes.specs.scopes_passes.Declared.{AddsNames}
use Rattle.vs_elab_constants.specs.passes.Early.{bound_by}
use Rattle.vs_elab_constants.proofs.early.add_locals.Given as goal

abbrev pub invariant-loop-one : goal.invariant-loop-one
invariant-loop-one l = (z : Sized) → AddsNames l.fn.names l.names (signal_names (bound_by l.signals) (map (declared_local (λ n. None) l.kind z) (take l.one-index l.locals)))
