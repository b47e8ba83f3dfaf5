use Rattle.std.proofs.Common.{◌≡◌, ◌++◌, map, drop}
use Rattle.vs_scopes.specs.Declarations.{use_of}
use Rattle.vs_scopes.specs.Generate.{instance}
use Rattle.vs_elab_constants.specs.Reads.{read_inners}
use Rattle.vs_elab_constants.proofs.opening.add_instances.Given as goal

abbrev pub invariant-loop-one : goal.invariant-loop-one
invariant-loop-one l =
    read_inners l.inners.items ++ map instance (map (use_of l.of l.overrides) (drop l.one-index l.list)) ≡ read_inners l.fn.inners.items ++ map instance (map (use_of l.of l.overrides) l.list)
