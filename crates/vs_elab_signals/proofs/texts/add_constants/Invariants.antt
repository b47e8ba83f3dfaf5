use Rattle.std.proofs.Common.{take}
use Rattle.vs_elab_constants.specs.vs_widths.specs.Names.{by_bytes}
use Rattle.vs_scopes.specs.Scopes.{constant_names}
use Rattle.vs_scopes.specs.scopes_passes.Declared.{AddsNames}
use Rattle.vs_elab_signals.proofs.texts.add_constants.Given as goal

abbrev pub invariant-loop-constant : goal.invariant-loop-constant
invariant-loop-constant l = AddsNames l.fn.names l.names (constant_names (by_bytes (take l.constant-index l.constants)))
