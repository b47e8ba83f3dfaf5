use Rattle.std.proofs.Common.{ℕ, List, Option, map, take}
use Rattle.vs_syntax.specs.declared.tree.Connections.{Connections}
use Rattle.vs_scopes.specs.vs_widths.specs.declared.bindings.Binding.TheVariants.{Other}
use Rattle.vs_scopes.specs.Declarations.{Use, use_of, bound_to}
use Rattle.vs_scopes.specs.scopes_passes.Declared.{AddsNames}
use Rattle.vs_elab_constants.proofs.early.add_instances.Given as goal

abbrev pub invariant-loop-instance : goal.invariant-loop-instance
invariant-loop-instance l = (n : List ℕ) → (o : Option Connections) → AddsNames l.fn.names l.names (bound_to Other (map (λ (u : Use). u.name) (map (use_of n o) (take l.instance-index l.instances))))
