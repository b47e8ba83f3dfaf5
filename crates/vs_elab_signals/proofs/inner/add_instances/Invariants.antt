use Rattle.std.proofs.Common.{◌≡◌, ℕ, ◌++◌, List, Option, map, take}
use Rattle.vs_syntax.specs.declared.tree.Connections.{Connections}
use Rattle.vs_scopes.specs.Declarations.{Use, use_of}
use Rattle.vs_scopes.specs.scopes_passes.Answers.{borrowed}
use Rattle.vs_elab_signals.proofs.inner.add_instances.Given as goal

abbrev pub invariant-loop-instance : goal.invariant-loop-instance
invariant-loop-instance l = (n : List ℕ) (o : Option Connections) → borrowed l.names.items ≡ borrowed l.fn.names.items ++ map (λ (u : Use). u.name) (map (use_of n o) (take l.instance-index l.instances))
