use Rattle.std.proofs.Common.{take}
use Rattle.vs_elab_signals.specs.vs_widths.specs.Names.{by_bytes}
use Rattle.vs_scopes.specs.Scopes.{constant_names}
use Rattle.vs_elab_signals.specs.signal_passes.Naming.{BoundAfter}
use Rattle.vs_scopes.proofs.AnswerLemmas.{Kept}
use Rattle.vs_elab_signals.proofs.naming.bind_constants.Given as goal

abbrev pub invariant-loop-constant : goal.invariant-loop-constant
invariant-loop-constant l = Kept (BoundAfter l.fn.names) (BoundAfter l.names) (constant_names (by_bytes (take l.constant-index l.constants)))
