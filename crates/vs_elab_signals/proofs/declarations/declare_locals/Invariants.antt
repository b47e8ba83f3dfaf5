use Rattle.std.proofs.Common.{map, take}
use Rattle.vs_scopes.specs.Ranges.{Sized}
use Rattle.vs_scopes.specs.Declarations.{declared_local}
use Rattle.vs_scopes.specs.scopes_passes.Answers.{Elaborates}
use Rattle.vs_scopes.specs.scopes_passes.Sizes.{width_faults, IsSize}
use Rattle.vs_scopes.proofs.AnswerLemmas.{Kept}
use Rattle.vs_scopes.specs.Scopes.{Scope}
use Rattle.vs_elab_signals.specs.signal_passes.Declaring.{IsAt, Declares}
use Rattle.vs_elab_signals.proofs.declarations.declare_locals.Given as goal

abbrev pub invariant-loop-one : goal.invariant-loop-one
invariant-loop-one l = (s : Scope) (z : Sized) → IsAt s l.site → Elaborates (width_faults z.faults) (IsSize z) l.size →
    Kept (Declares s l.fn.to l.fn.plan) (Declares s l.to l.plan) (map (declared_local s.known l.kind z) (take l.one-index l.locals))
