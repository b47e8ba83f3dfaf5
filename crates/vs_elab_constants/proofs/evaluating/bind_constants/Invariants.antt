use Rattle.std.proofs.Common.{◌≡◌, ◌++◌, drop}
use Rattle.vs_widths.specs.Names.{meaning_of, by_bytes}
use Rattle.vs_scopes.specs.Declarations.{Bindings}
use Rattle.vs_scopes.specs.Scopes.{with_constants}
use Rattle.vs_elab_constants.proofs.evaluating.bind_constants.Given as goal

abbrev pub invariant-loop-name : goal.invariant-loop-name
invariant-loop-name l = record {
  constants : by_bytes l.values.constants.items ++ by_bytes (drop l.name-index l.constants) ≡ by_bytes l.fn.values.constants.items ++ by_bytes l.constants;
  known : (outer : Bindings) → with_constants (meaning_of (l.values.known ++ outer)) (by_bytes (drop l.name-index l.constants)) ≡ with_constants (meaning_of (l.fn.values.known ++ outer)) (by_bytes l.constants);
}
