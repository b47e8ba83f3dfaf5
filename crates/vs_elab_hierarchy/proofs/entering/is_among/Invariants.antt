use Rattle.std.proofs.Common.{◌≡◌, false, take}
use Rattle.std.specs.List.{list_any}
use Rattle.std.specs.Str.{bytes_eq}
use Rattle.vs_elab_signals.specs.vs_scopes.specs.scopes_passes.Answers.{borrowed}
use Rattle.vs_elab_hierarchy.proofs.entering.is_among.Given as goal

abbrev pub invariant-loop-other : goal.invariant-loop-other
invariant-loop-other l = list_any (bytes_eq l.name) (borrowed (take l.other-index l.names)) ≡ false
